use Rattle.std.proofs.Common.{sym, ◌∙◌}
use Rattle.vrl_value.specs.View.{tree_of}
use Rattle.fn_type.proofs.Other.{unless_tagged}
use Rattle.fn_type.proofs.only.where_tagged.Goals as goal

pub returns-else-has_tag : goal.returns-else-has_tag
returns-else-has_tag c =
    unless_tagged c.args.name.now c.args.tag (tree_of c.args.value.now) c.other_tag.result (sym c.has_tag.ensures ∙ c.if-has_tag.false) c.other_tag.ensures
