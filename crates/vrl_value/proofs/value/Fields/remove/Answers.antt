use Rattle.std.proofs.Common.{ap, ◌∙◌, option_map}
use Rattle.vrl_value.specs.View.{tree_of}
use Rattle.vrl_value.proofs.Changes.{members_of-remove_entry}
use Rattle.vrl_value.proofs.Find.{tree_of-get}
use Rattle.vrl_value.proofs.value.Fields.remove.Goals as goal

pub returns-clause-value : goal.returns-clause-value
returns-clause-value c = ap (option_map tree_of) c.remove.ensures.value ∙ tree_of-get c.args.name.now c.args.self.now

pub returns-clause-rest : goal.returns-clause-rest
returns-clause-rest c = members_of-remove_entry c.args.self.now c.remove.new.self c.args.name.now c.remove.ensures.entries c.remove.ensures.updates.1
