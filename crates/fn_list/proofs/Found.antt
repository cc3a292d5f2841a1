-- What a set of values finds.
use Rattle.std.proofs.Common.{◌≡◌, Bool, true, false, cond, ◌||◌, List, [], ◌∷◌, ◌++◌, map, refl, sym, ap, ◌∙◌}
use Rattle.std.specs.List.{list_any}
use Rattle.std.specs.BTreeSet.{BTreeSet, Updates}
use Rattle.std.specs.Ordering.{is_eq, on}
use Rattle.std.proofs.lemmas.List.{map-append}
use Rattle.vrl_value.specs.Tree.{Tree}
use Rattle.vrl_value.specs.View.{tree_of}
use Rattle.vrl_value.specs.declared.value.Value.{Value}
use Rattle.fn_list.specs.Seen.{tree_in}
use Rattle.fn_list.specs.Order.{order}
use Rattle.fn_list.specs.Ordered.{tied}
use Rattle.fn_list.specs.Same.{same}
use Rattle.fn_list.specs.Seen.{is_in, Finds}
use Rattle.fn_list.specs.declared.key.Key.{Key}
use Rattle.fn_list.proofs.Firsts.{any_more}

either : (b c : Bool) → cond b true c ≡ (c || b)
either true true = refl
either true false = refl
either false true = refl
either false false = refl

-- a set with one value more finds those that the list with it has
pub one_more : (old new : BTreeSet Key) (added : Key) (ks later : List Tree) → Updates (on tree_in order) old new added true → Finds old ks → later ≡ ks ++ tree_in added ∷ [] → Finds new later
one_more old new added ks later updates finds is key =
    updates.0 key ∙ ap (cond (is_eq (order (tree_in added) (tree_in key))) true) (finds key) ∙ either (is_eq (order (tree_in added) (tree_in key))) (is_in ks (tree_in key))
    ∙ ap (λ b. is_in ks (tree_in key) || b) (sym (tied (tree_in added) (tree_in key))) ∙ sym (any_more (λ k. same k (tree_in key)) ks (tree_in added)) ∙ sym (ap (λ ls. is_in ls (tree_in key)) is)

pub none_found : (set : BTreeSet Key) (ks : List Tree) → set.keys ≡ [] → ks ≡ [] → Finds set ks
none_found set ks empty none key = ap (λ keys. list_any (λ k. is_eq (order (tree_in key) (tree_in k))) keys) empty ∙ sym (ap (λ ls. is_in ls (tree_in key)) none)

-- a list in memory with one value more
pub longer : (kept later : List Value) (v : Value) (t : Tree) → later ≡ kept ++ v ∷ [] → tree_of v ≡ t → map tree_of later ≡ map tree_of kept ++ t ∷ []
longer kept later v t is same = ap (map tree_of) is ∙ map-append tree_of kept (v ∷ []) ∙ ap (λ u. map tree_of kept ++ u ∷ []) same
