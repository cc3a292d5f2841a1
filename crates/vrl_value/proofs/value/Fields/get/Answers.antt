use Rattle.std.proofs.Common.{option_map, ap, ◌∙◌}
use Rattle.vrl_value.specs.View.{tree_of}
use Rattle.vrl_value.proofs.Find.{tree_of-now, tree_of-get}
use Rattle.vrl_value.proofs.value.Fields.get.Goals as goal

pub returns : goal.returns
returns c = tree_of-now c.get.result ∙ ap (option_map tree_of) c.get.ensures.value ∙ tree_of-get c.args.name.now c.args.self.now
