-- How many items the arrays of a kind have whose length it tells.
use Rattle.std.proofs.Common.{◌≡◌, ℕ, zero, suc, ◌<◌, true, IsTrue, [], ◌∷◌, Option, Some, None, Ordering, Less, Equal, Greater, refl, sym, ◌∙◌, subst, arith}
use Rattle.std.proofs.lemmas.Bool.{true≢false}
use Rattle.std.specs.Option.{IfSome}
use Rattle.std.specs.Ordering.{nat_cmp}
use Rattle.vrl_value.specs.Look.{Step, place, item_at, raw_at, found_behind, found_if, tag_found}
use Rattle.vrl_value.specs.Parts.{count_of}
use Rattle.vrl_value.specs.Tag.{tag_of}
use Rattle.vrl_value.specs.Tree.{Tree, string, integer, boolean, null, timestamp, regex, array, object, Items, no_items, item}
use Rattle.vrl_value.specs.declared.value.Tag.TheVariants as tag
use Rattle.vrl_kind.specs.Sets.{Sets}
use Rattle.vrl_kind.specs.Tags.{only}
use Rattle.vrl_place.specs.FromEnd.{HasLength}
use Rattle.vrl_place.specs.Read.{allowed}
use Rattle.vrl_place.proofs.Orders.{equal, over, under}
use Rattle.vrl_place.proofs.Tags.{one_tag, value_present}
use Rattle.vrl_place.proofs.Values.{IsIn}

pub is_array : (v : Tree) → only tag.List (tag_of v) ≡ true → (ts : Items) × (v ≡ array ts)
is_array (string x) is = absurd (true≢false (sym is))
is_array (integer x) is = absurd (true≢false (sym is))
is_array (boolean x) is = absurd (true≢false (sym is))
is_array null is = absurd (true≢false (sym is))
is_array (timestamp x) is = absurd (true≢false (sym is))
is_array (regex x) is = absurd (true≢false (sym is))
is_array (array ts) is = (ts, refl)
is_array (object ms) is = absurd (true≢false (sym is))

item_below : (ts : Items) (i : ℕ) → i < count_of ts → (x : Tree) × (item_at i ts ≡ Some x)
item_below no_items i below = absurd (omega arith)
item_below (item t ts) zero below = (t, refl)
item_below (item t ts) (suc i) below = item_below ts i (omega arith)

no_item_past : (ts : Items) → item_at (count_of ts) ts ≡ None
no_item_past no_items = refl
no_item_past (item t ts) = no_item_past ts

-- what a kind allows at a place of an array
at_item : (ts : Items) (A : Sets) (i : ℕ) (o : Option Tree) → item_at i ts ≡ o → IsIn (array ts) (allowed A) → IfSome (tag_found (found_behind {S = Step} (found_if o) [] (λ u. raw_at u []))) (λ t. IsTrue (A (place i ∷ []) t))
at_item ts A i o is h = subst (λ x. IfSome (tag_found (found_behind {S = Step} (found_if x) [] (λ u. raw_at u []))) (λ t. IsTrue (A (place i ∷ []) t))) is (h (place i ∷ []))

too_few : (ts : Items) (A : Sets) (count : ℕ) → IsIn (array ts) (allowed A) → HasLength A count → count_of ts < count → ⊥
too_few ts A count h has less = true≢false (sym (at_item ts A (count_of ts) None (no_item_past ts) h) ∙ has.sure (count_of ts) less)

too_many : (ts : Items) (A : Sets) (count : ℕ) → IsIn (array ts) (allowed A) → HasLength A count → count < count_of ts → ⊥
too_many ts A count h has more =
    let found = item_below ts count more in
    value_present found.0 (sym (one_tag tag.Absent (tag_of found.0) (sym (has.behind count (omega arith) (tag_of found.0)) ∙ at_item ts A count (Some found.0) found.1 h)))

pub has_count : (ts : Items) (A : Sets) (count : ℕ) → IsIn (array ts) (allowed A) → HasLength A count → count_of ts ≡ count
has_count ts A count h has = by_order (nat_cmp (count_of ts) count) refl
  where
    by_order : (o : Ordering) → nat_cmp (count_of ts) count ≡ o → count_of ts ≡ count
    by_order Less o = absurd (too_few ts A count h has (under (count_of ts) count o))
    by_order Equal o = equal (count_of ts) count o
    by_order Greater o = absurd (too_many ts A count h has (over (count_of ts) count o))
