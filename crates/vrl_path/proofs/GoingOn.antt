-- A set goes on behind its first step.
use Rattle.std.proofs.Common.{◌≡◌, ◌≢◌, ℕ, ◌<◌, List, [], ◌∷◌, ◌++◌, Bool, true, false, if◌then◌else◌, refl, sym, ap, ◌∙◌, subst}
use Rattle.vrl_value.specs.Laws.{ItemsAreLists, MembersAreMaps}
use Rattle.vrl_value.specs.Look.{Step, field, place, Found, there, found_if, part_at, raw_at}
use Rattle.vrl_value.specs.Tree.{Tree, array, object}
use Rattle.vrl_path.specs.FromEnd.{front_padded, padded, part_behind, step_in, steps_in}
use Rattle.vrl_path.specs.Laws.{SetsGoOn}
use Rattle.vrl_path.specs.Parts.{items_in, members_in, part_or_null, set_part}
use Rattle.vrl_path.specs.Steps.{has_negative}
use Rattle.vrl_path.specs.Write.{or_null, Holds, IsPlainSet}
use Rattle.vrl_path.proofs.FromEnd.{part_padded}
use Rattle.vrl_path.proofs.Placed.{placed-field, placed-place, find-placed_other}
use Rattle.vrl_path.proofs.Removed.{last}
use Rattle.vrl_path.proofs.Sets.{behind, members_in-behind, items_in-behind, or_null-behind, place_or_null}

-- a step that ends a path of one step is that one
ends : (q : Step) (a : List Step) (s : Step) (b : List Step) → q ∷ [] ≡ a ++ s ∷ b → (a ≡ []) × (s ≡ q)
ends q [] s b e = (refl, cc)
ends q (c ∷ []) s b e = absurd cc
ends q (c ∷ d ∷ a) s b e = absurd cc

longer : (q : Step) (r a : List Step) (s : Step) (b : List Step) → q ∷ [] ≡ a ++ s ∷ b → q ∷ r ≡ a ++ s ∷ r
longer q r a s b e =
    let one = ends q a s b e in
    ap (λ t. t ∷ r) (sym one.1) ∙ ap (λ a. a ++ s ∷ r) (sym one.0)

container_is : (s : Step) (f : Found) → Holds s f → (t : Tree) × (f ≡ there t)
container_is (field k) f holds = (object (members_in f), holds)
container_is (place i) f holds = (array (items_in f), holds)

-- the part that the set leaves at its first step
part_left : (v : Tree) (q : Step) (r : List Step) (n w : Tree) → IsPlainSet v (q ∷ r) n w → (t : Tree) × (raw_at w (q ∷ []) ≡ there t)
part_left v q [] n w set = (n, set.within [])
part_left v q (s ∷ r) n w set = container_is s (raw_at w (q ∷ [])) (set.above (q ∷ []) s r refl)

module _ (v : Tree) (q : Step) (r : List Step) (n w t : Tree) (set : IsPlainSet v (q ∷ r) n w) (at : part_at w q ≡ there t) where
  go : (b : List Step) → raw_at w (q ∷ b) ≡ raw_at t b
  go b = ap (behind b) at

  -- that part is one with a set at the rest of the path
  part_is : IsPlainSet (part_or_null v q) r n t
  part_is = record {
    within = λ b. sym (go (r ++ b)) ∙ set.within b;
    above = λ a s b e. subst (Holds s) (go a) (set.above (q ∷ a) s b (ap (λ p. q ∷ p) e));
    beside_field = λ a k l b c e other. sym (go (a ++ field l ∷ c)) ∙ set.beside_field (q ∷ a) k l b c (ap (λ p. q ∷ p) e) other ∙ sym (ap (λ ms. raw_at (object ms) (field l ∷ c)) (members_in-behind (part_at v q) a));
    before_place = λ a i j b c e lower. sym (go (a ++ place j ∷ c)) ∙ set.before_place (q ∷ a) i j b c (ap (λ p. q ∷ p) e) lower ∙ sym (ap (behind c) (or_null-behind (part_at v q) a j));
    behind_place = λ a i j b c e higher. sym (go (a ++ place j ∷ c)) ∙ set.behind_place (q ∷ a) i j b c (ap (λ p. q ∷ p) e) higher ∙ sym (ap (λ ts. raw_at (array ts) (place j ∷ c)) (items_in-behind (part_at v q) a));
    place_at_field = λ a k j b c e. sym (go (a ++ place j ∷ c)) ∙ set.place_at_field (q ∷ a) k j b c (ap (λ p. q ∷ p) e);
    field_at_place = λ a i l b c e. sym (go (a ++ field l ∷ c)) ∙ set.field_at_place (q ∷ a) i l b c (ap (λ p. q ∷ p) e);
  }

  -- and the whole is one with that part set
  whole_is : IsPlainSet v (q ∷ []) t w
  whole_is = record {
    within = go;
    above = λ a s b e. set.above a s r (longer q r a s b e);
    beside_field = λ a k l b c e other. set.beside_field a k l r c (longer q r a (field k) b e) other;
    before_place = λ a i j b c e lower. set.before_place a i j r c (longer q r a (place i) b e) lower;
    behind_place = λ a i j b c e higher. set.behind_place a i j r c (longer q r a (place i) b e) higher;
    place_at_field = λ a k j b c e. set.place_at_field a k j r c (longer q r a (field k) b e);
    field_at_place = λ a i l b c e. set.field_at_place a i l r c (longer q r a (place i) b e);
  }

-- what another part was set at the same step before does not matter
module _ (maps : MembersAreMaps) (lists : ItemsAreLists) (x t w : Tree) where
  beside_again : (v : Tree) (q : Step) (a : List Step) (k l : List ℕ) (r b : List Step) → IsPlainSet (set_part q x v) (q ∷ []) t w → q ∷ [] ≡ a ++ field k ∷ r → l ≢ k → raw_at w (a ++ field l ∷ b) ≡ raw_at (object (members_in (raw_at v a))) (field l ∷ b)
  beside_again v (place i) a k l r b set e other = let one = ends (place i) a (field k) r e in absurd cc
  beside_again v (field m) (c ∷ a) k l r b set e other = let one = ends (field m) (c ∷ a) (field k) r e in absurd cc
  beside_again v (field m) [] k l r b set e other =
      let same : k ≡ m = let one = ends (field m) [] (field k) r e in cc in
      set.beside_field [] k l r b e other ∙ ap (λ u. raw_at (object (members_in (there u))) (field l ∷ b)) (placed-field v m x)
      ∙ ap (λ o. behind b (found_if o)) (find-placed_other maps l m x (members_in (there v)) (λ is. other (is ∙ sym same)))

  before_again : (v : Tree) (q : Step) (a : List Step) (i j : ℕ) (r b : List Step) → IsPlainSet (set_part q x v) (q ∷ []) t w → q ∷ [] ≡ a ++ place i ∷ r → j < i → raw_at w (a ++ place j ∷ b) ≡ behind b (or_null (raw_at v (a ++ place j ∷ [])))
  before_again v (field m) a i j r b set e lower = let one = ends (field m) a (place i) r e in absurd cc
  before_again v (place m) (c ∷ a) i j r b set e lower = let one = ends (place m) (c ∷ a) (place i) r e in absurd cc
  before_again v (place m) [] i j r b set e lower =
      let same : i ≡ m = let one = ends (place m) [] (place i) r e in cc in
      let ts = items_in (there v) in
      set.before_place [] i j r b e lower ∙ ap (λ u. behind b (or_null (raw_at u (place j ∷ [])))) (placed-place v m x)
      ∙ ap (λ o. behind b (or_null (behind [] (found_if o)))) (lists.item_put_before m j x ts (subst (λ i. j < i) same lower)) ∙ ap (behind b) (place_or_null v j)

  behind_again : (v : Tree) (q : Step) (a : List Step) (i j : ℕ) (r b : List Step) → IsPlainSet (set_part q x v) (q ∷ []) t w → q ∷ [] ≡ a ++ place i ∷ r → i < j → raw_at w (a ++ place j ∷ b) ≡ raw_at (array (items_in (raw_at v a))) (place j ∷ b)
  behind_again v (field m) a i j r b set e higher = let one = ends (field m) a (place i) r e in absurd cc
  behind_again v (place m) (c ∷ a) i j r b set e higher = let one = ends (place m) (c ∷ a) (place i) r e in absurd cc
  behind_again v (place m) [] i j r b set e higher =
      let same : i ≡ m = let one = ends (place m) [] (place i) r e in cc in
      set.behind_place [] i j r b e higher ∙ ap (λ u. raw_at (array (items_in (there u))) (place j ∷ b)) (placed-place v m x)
      ∙ ap (λ o. behind b (found_if o)) (lists.item_put_behind m j x (items_in (there v)) (subst (λ i. i < j) same higher))

  again : (v : Tree) (q : Step) → IsPlainSet (set_part q x v) (q ∷ []) t w → IsPlainSet v (q ∷ []) t w
  again v q set = record {
    within = set.within;
    above = set.above;
    beside_field = λ a k l r b e other. beside_again v q a k l r b set e other;
    before_place = λ a i j r b e lower. before_again v q a i j r b set e lower;
    behind_place = λ a i j r b e higher. behind_again v q a i j r b set e higher;
    place_at_field = set.place_at_field;
    field_at_place = set.field_at_place;
  }

unpadded : (maps : MembersAreMaps) (lists : ItemsAreLists) (b : Bool) (v : Tree) (q : Step) (x t w : Tree) → IsPlainSet (if b then set_part q x v else v) (q ∷ []) t w → IsPlainSet v (q ∷ []) t w
unpadded maps lists true v q x t w set = again maps lists x t w v q set
unpadded maps lists false v q x t w set = set

pub set_goes_on : MembersAreMaps → ItemsAreLists → SetsGoOn
set_goes_on maps lists v s p n w set =
    let q = step_in v s in
    let r = steps_in (part_behind v s) p in
    let u = padded v (s ∷ p) in
    let left = part_left u q r n w set in
    let at = last w q left.0 left.1 in (
      left.0,
      subst (λ x. IsPlainSet x r n left.0) (part_padded maps lists v s p (has_negative p) refl) (part_is u q r n w left.0 set at),
      unpadded maps lists (has_negative p) (front_padded v s) q (padded (part_behind v s) p) left.0 w (whole_is u q r n w left.0 set at),
    )
