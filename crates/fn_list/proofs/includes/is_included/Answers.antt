use Rattle.std.proofs.Common.{Bool, sym, ap, ◌∙◌}
use Rattle.std.specs.List.{list_any}
use Rattle.vrl_value.specs.Tree.{Tree}
use Rattle.vrl_value.specs.View.{tree_of}
use Rattle.fn_list.specs.Same.{same}
use Rattle.fn_list.proofs.Widening.{any_map}
use Rattle.fn_list.proofs.includes.is_included.Goals as goal

pub returns : goal.returns
returns c =
    let one : Tree → Bool = λ u. same u (tree_of c.args.value.now) in
    c.is_among.ensures ∙ sym (any_map one tree_of c.items_of.result.now) ∙ ap (list_any one) c.items_of.ensures.list
