use Rattle.std.proofs.Common.{rules, ◌≡◌, ◌∙◌, ap}
use Rattle.vrl_value.specs.Tree.{array}
use Rattle.vrl_value.specs.View.{items_of, tree_of}
use Rattle.vrl_value.specs.declared.value.Value.TheVariants as code
use Rattle.vrl_value.specs.declared.value.Value.{the_lemmas}
use Rattle.fn_string.proofs.Sliced.{view_between}
use Rattle.fn_string.proofs.slice.array_between.Goals as goal

pub returns : goal.returns
returns c =
    let seen : tree_of (code.List c.in_ok-copies_of.field-0) ≡ array (items_of c.in_ok-copies_of.field-0) = search (rules, the_lemmas) in
    seen ∙ ap array (c.in_ok-copies_of.ensures ∙ view_between c.args.range.0 c.args.range.1 c.args.items.now)
