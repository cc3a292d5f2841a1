use Rattle.std.proofs.Common.{ap, sym, option_map, ◌∙◌}
use Rattle.vrl_syntax.specs.View.{closure_in, closure_of}
use Rattle.vrl_judge.specs.Closures.{of_wanted_closure}
use Rattle.vrl_check.proofs.CallsWanted.{wanted_told}
use Rattle.vrl_check.proofs.calls.is_other_closure.Goals as goal

pub returns-in-Some : goal.returns-in-Some
returns-in-Some c span =
    wanted_told c.args.form c.in-Some.closure span c.has_shape.result c.has_shape.ensures ∙ ap (λ o. of_wanted_closure c.args.form span (closure_in (option_map closure_of o))) (sym c.in-Some.is)
