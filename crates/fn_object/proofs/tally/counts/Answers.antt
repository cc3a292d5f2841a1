use Rattle.std.proofs.Common.{rules, ◌≡◌, ◌<◌, ◌^◌, ap, ◌∙◌, length, map, sym, subst, ℕ}
use Rattle.std.proofs.lemmas.List.{length-map}
use Rattle.vrl_value.specs.Tree.{object}
use Rattle.vrl_value.specs.View.{members_of, tree_of}
use Rattle.vrl_value.specs.declared.value.Value.{the_lemmas}
use Rattle.vrl_value.specs.declared.value.Value.TheVariants as value
use Rattle.fn_object.proofs.Counts.{counts_are}
use Rattle.fn_object.proofs.tally.counts.Goals as goal

pub returns : goal.returns
returns c =
    let seen : tree_of (value.Object c.in_ok-fields.fields) ≡ object (members_of c.in_ok-fields.fields) = search (rules, the_lemmas) in
    let few : length (map tree_of c.args.items.now) < 2 ^ 63 = subst (λ (n : ℕ). n < 2 ^ 63) (sym (length-map c.args.items.now tree_of)) c.length_of-length.ensures.small in
    seen ∙ ap object (c.in_ok-fields.ensures ∙ counts_are c.members_are_maps.ensures (map tree_of c.args.items.now) few)
