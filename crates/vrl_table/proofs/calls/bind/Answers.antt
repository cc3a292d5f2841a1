use Rattle.std.proofs.Common.{subst}
use Rattle.vrl_syntax.specs.View.{args_of}
use Rattle.vrl_binding.specs.Binding.{binding, keywords_of, IsBound}
use Rattle.vrl_table.proofs.calls.bind.Goals as goal

pub returns : goal.returns
returns c = subst (λ rows. IsBound (binding rows (keywords_of (args_of c.args.arguments.now))) c.bind_to.result) c.parameters.ensures c.bind_to.ensures
