-- A set and a removal have one result among the trees in order.
use Rattle.std.proofs.Common.{◌≡◌, ◌≢◌, ℕ, ◌<◌, ◌≤◌, List, [], ◌∷◌, ◌++◌, Bool, true, false, bytes_eq, refl, sym, ap, ◌∙◌, ◌⊎◌, inl, inr, append_assoc, arith}
use Rattle.std.proofs.lemmas.Bool.{true≢false, cases_order}
use Rattle.std.proofs.lemmas.Slice.Eq.{bytes_eq-Decides}
use Rattle.vrl_value.specs.Laws.{TreesAreTold}
use Rattle.vrl_value.specs.Look.{Step, field, place, Found, raw_at, outline}
use Rattle.vrl_value.specs.Tree.{Tree}
use Rattle.vrl_path.specs.FromEnd.{padded, part_behind, step_in, steps_in}
use Rattle.vrl_path.specs.Laws.{SetsAreOne, RemovalsAreOne}
use Rattle.vrl_path.specs.Remove.{IsPlainRemoval}
use Rattle.vrl_path.specs.Write.{Holds, IsPlainSet}

-- how a path q stands to a path p
data Stand (p q : List Step) : Type 0 where
  -- it is p, or leads on from it
  on : (r : List Step) → q ≡ p ++ r → Stand p q
  -- it leads to p
  above : (s : Step) (r : List Step) → p ≡ q ++ s ∷ r → Stand p q
  -- it parts from p
  apart : (a : List Step) (s t : Step) (r b : List Step) → p ≡ a ++ s ∷ r → q ≡ a ++ t ∷ b → t ≢ s → Stand p q

abbrev name_in : Step → List ℕ
name_in (field k) = k
name_in (place i) = []

abbrev place_in : Step → ℕ
place_in (field k) = 0
place_in (place i) = i

fields_differ : (same : Bool) (k l : List ℕ) → bytes_eq l k ≡ same → (field l ≡ field k) ⊎ (field l ≢ field k)
fields_differ true k l is = inl (ap field ((bytes_eq-Decides l k).0 is))
fields_differ false k l is = inr (λ e. true≢false (sym ((bytes_eq-Decides l k).1 (ap name_in e)) ∙ is))

places_differ : (i j : ℕ) → (j ≡ i) ⊎ ((j < i) ⊎ (i < j)) → (place j ≡ place i) ⊎ (place j ≢ place i)
places_differ i j (inl e) = inl (ap place e)
places_differ i j (inr (inl lower)) = inr (λ e. let same : j ≡ i = ap place_in e in absurd (omega arith))
places_differ i j (inr (inr higher)) = inr (λ e. let same : j ≡ i = ap place_in e in absurd (omega arith))

steps_differ : (s t : Step) → (t ≡ s) ⊎ (t ≢ s)
steps_differ (field k) (field l) = fields_differ (bytes_eq l k) k l refl
steps_differ (field k) (place j) = inr (λ e. absurd cc)
steps_differ (place i) (field l) = inr (λ e. absurd cc)
steps_differ (place i) (place j) = places_differ i j (cases_order j i)

stand_at : (s t : Step) (p q : List Step) → (t ≡ s) ⊎ (t ≢ s) → Stand p q → Stand (s ∷ p) (t ∷ q)
stand_at s t p q (inr other) rest = apart [] s t p q refl refl other
stand_at s t p q (inl same) (on r e) = on r (ap (λ x. x ∷ q) same ∙ ap (λ x. s ∷ x) e)
stand_at s t p q (inl same) (above u r e) = above u r (ap (λ x. s ∷ x) e ∙ ap (λ x. x ∷ (q ++ u ∷ r)) (sym same))
stand_at s t p q (inl same) (apart a u w r b e f other) = apart (s ∷ a) u w r b (ap (λ x. s ∷ x) e) (ap (λ x. x ∷ q) same ∙ ap (λ x. s ∷ x) f) other

stand : (p q : List Step) → Stand p q
stand [] q = on q refl
stand (s ∷ p) [] = above s p refl
stand (s ∷ p) (t ∷ q) = stand_at s t p q (steps_differ s t) (stand p q)

-- of two containers that a step fits look-up tells the same
holds_outline : (s : Step) (f g : Found) → Holds s f → Holds s g → outline f ≡ outline g
holds_outline (field k) f g first second = ap outline first ∙ sym (ap outline second)
holds_outline (place i) f g first second = ap outline first ∙ sym (ap outline second)

module _ (v : Tree) (p : List Step) (n w u : Tree) (first : IsPlainSet v p n w) (second : IsPlainSet v p n u) where
  places_set : (a : List Step) (i j : ℕ) (r b : List Step) → p ≡ a ++ place i ∷ r → place j ≢ place i → (j ≡ i) ⊎ ((j < i) ⊎ (i < j)) → raw_at w (a ++ place j ∷ b) ≡ raw_at u (a ++ place j ∷ b)
  places_set a i j r b e other (inl same) = absurd (other (ap place same))
  places_set a i j r b e other (inr (inl lower)) = first.before_place a i j r b e lower ∙ sym (second.before_place a i j r b e lower)
  places_set a i j r b e other (inr (inr higher)) = first.behind_place a i j r b e higher ∙ sym (second.behind_place a i j r b e higher)

  set_apart : (a : List Step) (s t : Step) (r b : List Step) → p ≡ a ++ s ∷ r → t ≢ s → raw_at w (a ++ t ∷ b) ≡ raw_at u (a ++ t ∷ b)
  set_apart a (field k) (field l) r b e other = first.beside_field a k l r b e (λ same. other (ap field same)) ∙ sym (second.beside_field a k l r b e (λ same. other (ap field same)))
  set_apart a (field k) (place j) r b e other = first.place_at_field a k j r b e ∙ sym (second.place_at_field a k j r b e)
  set_apart a (place i) (field l) r b e other = first.field_at_place a i l r b e ∙ sym (second.field_at_place a i l r b e)
  set_apart a (place i) (place j) r b e other = places_set a i j r b e other (cases_order j i)

  set_told : (q : List Step) → Stand p q → outline (raw_at w q) ≡ outline (raw_at u q)
  set_told q (on r e) = ap outline (ap (raw_at w) e ∙ first.within r ∙ sym (second.within r) ∙ sym (ap (raw_at u) e))
  set_told q (above s r e) = holds_outline s (raw_at w q) (raw_at u q) (first.above q s r e) (second.above q s r e)
  set_told q (apart a s t r b e f other) = ap outline (ap (raw_at w) f ∙ set_apart a s t r b e other ∙ sym (ap (raw_at u) f))

pub one_set : TreesAreTold → SetsAreOne
one_set told v p n w u first second ordered sorted = told w u ordered sorted (λ q. set_told (padded v p) (steps_in v p) n w u first second q (stand (steps_in v p) q))

-- the last step of a path
last_of : (s : Step) (p : List Step) → (a : List Step) × (l : Step) × (s ∷ p ≡ a ++ l ∷ [])
last_of s [] = ([], s, refl)
last_of s (t ∷ p) = let h = last_of t p in (s ∷ h.0, h.1, ap (λ x. s ∷ x) h.2)

module _ (v : Tree) (p : List Step) (w u : Tree) (first : IsPlainRemoval v p w) (second : IsPlainRemoval v p u) where
  places_left : (a : List Step) (i j : ℕ) (b : List Step) → p ≡ a ++ place i ∷ [] → place j ≢ place i → (j ≡ i) ⊎ ((j < i) ⊎ (i < j)) → raw_at w (a ++ place j ∷ b) ≡ raw_at u (a ++ place j ∷ b)
  places_left a i j b e other (inl same) = absurd (other (ap place same))
  places_left a i j b e other (inr (inl lower)) = first.before_place a i j b e lower ∙ sym (second.before_place a i j b e lower)
  places_left a i j b e other (inr (inr higher)) = let h : i ≤ j = omega arith in first.behind_place a i j b e h ∙ sym (second.behind_place a i j b e h)

  left_apart : (a : List Step) (s t : Step) (r b : List Step) → p ≡ a ++ s ∷ r → t ≢ s → raw_at w (a ++ t ∷ b) ≡ raw_at u (a ++ t ∷ b)
  left_apart a s t (c ∷ r) b e other = first.beside a s t c r b e other ∙ sym (second.beside a s t c r b e other)
  left_apart a (field k) t [] b e other = first.beside_field a k t b e other ∙ sym (second.beside_field a k t b e other)
  left_apart a (place i) (field l) [] b e other = first.field_at_place a i l b e ∙ sym (second.field_at_place a i l b e)
  left_apart a (place i) (place j) [] b e other = places_left a i j b e other (cases_order j i)

  left_behind : (a : List Step) (l : Step) (r : List Step) → p ≡ a ++ l ∷ [] → raw_at w (a ++ l ∷ r) ≡ raw_at u (a ++ l ∷ r)
  left_behind a (field k) r e = first.field_gone a k r e ∙ sym (second.field_gone a k r e)
  left_behind a (place i) r e = let h : i ≤ i = omega arith in first.behind_place a i i r e h ∙ sym (second.behind_place a i i r e h)

  left_on : (a : List Step) (l : Step) (r q : List Step) → p ≡ a ++ l ∷ [] → q ≡ p ++ r → raw_at w q ≡ raw_at u q
  left_on a l r q e f =
      let at : q ≡ a ++ l ∷ r = f ∙ ap (λ x. x ++ r) e ∙ append_assoc a (l ∷ []) r in
      ap (raw_at w) at ∙ left_behind a l r e ∙ sym (ap (raw_at u) at)

  left_told : (a : List Step) (l : Step) → p ≡ a ++ l ∷ [] → (q : List Step) → Stand p q → outline (raw_at w q) ≡ outline (raw_at u q)
  left_told c l end q (on r e) = ap outline (left_on c l r q end e)
  left_told c l end q (above s r e) = holds_outline s (raw_at w q) (raw_at u q) (first.above q s r e) (second.above q s r e)
  left_told c l end q (apart a s t r b e f other) = ap outline (ap (raw_at w) f ∙ left_apart a s t r b e other ∙ sym (ap (raw_at u) f))

pub one_removal : TreesAreTold → RemovalsAreOne
one_removal told v [] w u some first second ordered sorted = absurd (some refl)
one_removal told v (s ∷ p) w u some first second ordered sorted =
    let end = last_of (step_in v s) (steps_in (part_behind v s) p) in
    told w u ordered sorted (λ q. left_told v (steps_in v (s ∷ p)) w u first second end.0 end.1 end.2 q (stand (steps_in v (s ∷ p)) q))
