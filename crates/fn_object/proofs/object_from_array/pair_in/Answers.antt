use Rattle.std.proofs.Common.{rules, ◌≡◌, ◌∷◌, sym, ap, ◌∙◌}
use Rattle.vrl_value.specs.Tree.{string}
use Rattle.vrl_value.specs.View.{tree_of}
use Rattle.vrl_value.specs.declared.value.Value.{the_lemmas}
use Rattle.fn_object.proofs.Pairs.{pair_more, pair_text}
use Rattle.fn_object.proofs.object_from_array.pair_in.Goals as goal

pub returns-then-not-is_empty : goal.returns-then-not-is_empty
returns-then-not-is_empty c =
    let first : c.args.items.now ≡ c.in_ok-first.first.now ∷ c.in_ok-first.rest.now = search rules in
    let second : c.in_ok-first.rest.now ≡ c.in_ok-value.value.now ∷ c.in_ok-value.behind.now = search rules in
    pair_more c.args.items.now c.in_ok-first.rest.now c.in_ok-value.behind.now c.in_ok-first.first.now c.in_ok-value.value.now c.is_empty.result first second c.is_empty.ensures c.if-not-is_empty.true

pub returns-in-Text : goal.returns-in-Text
returns-in-Text c =
    let first : c.args.items.now ≡ c.in_ok-first.first.now ∷ c.in_ok-first.rest.now = search rules in
    let second : c.in_ok-first.rest.now ≡ c.in_ok-value.value.now ∷ c.in_ok-value.behind.now = search rules in
    let text : tree_of c.in_ok-first.first.now ≡ string c.in-Text.name = search (rules, the_lemmas) in
    pair_text c.as_str.result.now c.args.items.now c.in_ok-first.rest.now c.in_ok-value.behind.now c.in_ok-first.first.now c.in_ok-value.value.now c.is_empty.result (text ∙ sym (ap string c.as_str.ensures)) first second c.is_empty.ensures c.if-not-is_empty.false
