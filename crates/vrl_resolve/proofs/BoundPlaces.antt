-- Where the arguments of a call are bound, each required parameter has the place of one of them.
use Rattle.std.specs.Prelude.{◌≡◌, ℕ, zero, suc, ◌<◌, Bool, true, false, cond, ◌&&◌, List, [], ◌∷◌, length, Option, Some, None, option_map, is_none, nat_lt, refl, ⊤, if◌then◌else◌}
use Rattle.std.proofs.Common.{subst, arith}
use Rattle.std.proofs.lemmas.Bool.{ltb-true}
use Rattle.std.specs.Option.{option_map_or}
use Rattle.std.specs.declared.result.Result.TheVariants.{Ok, Err}
use Rattle.vrl_builtin.specs.Conditions.{IsThere}
use Rattle.vrl_builtin.specs.Rows.{ParameterRow}
use Rattle.vrl_binding.specs.Binding.{binding, bound_from, bound_or_missing, bound_or_unknown, first_missing, first_unknown, is_wrong_number, keyword_at, positional_at, Keywords}
use Rattle.vrl_binding.specs.declared.binding.BindFault.TheVariants as fault

-- a parameter has the place of one of so many arguments, or none, where none must be given
abbrev pub IsPlaced : ParameterRow → ℕ → Option ℕ → Type 0
IsPlaced p count None = IsThere {A = ℕ} p.required None
IsPlaced p count (Some place) = place < count

abbrev pub ArePlaced : List ParameterRow → ℕ → List (Option ℕ) → Type 0
ArePlaced [] count places = ⊤
ArePlaced (p ∷ ps) count [] = ⊥
ArePlaced (p ∷ ps) count (place ∷ places) = IsPlaced p count place × ArePlaced ps count places

-- ---- places are those of arguments

abbrev IsBelow : ℕ → Option ℕ → Type 0
IsBelow count None = ⊤
IsBelow count (Some place) = place < count

position_below : (place count : ℕ) (b : Bool) → nat_lt place count ≡ b → IsBelow count (cond b (Some place) None)
position_below place count true is = ltb-true place count is
position_below place count false is = tt

next_below : (count : ℕ) (place : Option ℕ) → IsBelow count place → IsBelow (suc count) (option_map suc place)
next_below count None is = tt
next_below count (Some place) is = omega arith

positional_below : (i : ℕ) (ks : Keywords) → IsBelow (length ks) (positional_at i ks)
positional_below i [] = tt
positional_below zero (None ∷ ks) = omega arith
positional_below (suc i) (None ∷ ks) = next_below (length ks) (positional_at i ks) (positional_below i ks)
positional_below zero (Some keyword ∷ ks) = next_below (length ks) (positional_at zero ks) (positional_below zero ks)
positional_below (suc i) (Some keyword ∷ ks) = next_below (length ks) (positional_at (suc i) ks) (positional_below (suc i) ks)

keyword_below : (name : List ℕ) (ks : Keywords) → IsBelow (length ks) (keyword_at name ks)
keyword_below name ks = position_below _ (length ks) _ refl

-- ---- required parameters have one

missed : (b : Bool) (others : Option ℕ) → (if b then Some zero else option_map suc others) ≡ None → (b ≡ false) × (others ≡ None)
missed true others none = cc
missed false None none = (refl, refl)
missed false (Some place) none = cc

placed_is : (p : ParameterRow) (count : ℕ) (place : Option ℕ) → IsBelow count place → (p.required && is_none place) ≡ false → IsPlaced p count place
placed_is p count (Some place) below required = below
placed_is p count None below required = none_there p.required required where
  none_there : (b : Bool) → (b && true) ≡ false → IsThere {A = ℕ} b None
  none_there true is = cc
  none_there false is = tt

placed_at : (found : Option ℕ) (i : ℕ) (p : ParameterRow) (ps : List ParameterRow) (ks : Keywords) → IsBelow (length ks) found →
    ((j : ℕ) → first_missing ps (bound_from j ps ks) ≡ None → ArePlaced ps (length ks) (bound_from j ps ks)) →
    first_missing (p ∷ ps) (option_map_or (λ place. Some place ∷ bound_from i ps ks) found (positional_at i ks ∷ bound_from (suc i) ps ks)) ≡ None →
    ArePlaced (p ∷ ps) (length ks) (option_map_or (λ place. Some place ∷ bound_from i ps ks) found (positional_at i ks ∷ bound_from (suc i) ps ks))
placed_at (Some place) i p ps ks below others none = let parts = missed _ (first_missing ps (bound_from i ps ks)) none in (below, others i parts.1)
placed_at None i p ps ks below others none =
    let parts = missed _ (first_missing ps (bound_from (suc i) ps ks)) none in
    (placed_is p (length ks) (positional_at i ks) (positional_below i ks) parts.0, others (suc i) parts.1)

placed_from : (i : ℕ) (ps : List ParameterRow) (ks : Keywords) → first_missing ps (bound_from i ps ks) ≡ None → ArePlaced ps (length ks) (bound_from i ps ks)
placed_from i [] ks none = tt
placed_from i (p ∷ ps) ks none = placed_at (keyword_at p.name ks) i p ps ks (keyword_below p.name ks) (λ j. placed_from j ps ks) none

-- ---- what is bound

same_places : {places found : List (Option ℕ)} → bound_or_unknown None (bound_or_missing None places) ≡ Ok found → places ≡ found
same_places is = cc

bound_so : (wrong : Bool) (unknown missing : Option ℕ) (places found : List (Option ℕ)) →
    (if wrong then Err fault.Number else bound_or_unknown unknown (bound_or_missing missing places)) ≡ Ok found → (places ≡ found) × (missing ≡ None)
bound_so true unknown missing places found is = cc
bound_so false (Some place) missing places found is = cc
bound_so false None (Some place) places found is = cc
bound_so false None None places found is = (same_places is, refl)

pub places_are : (ps : List ParameterRow) (ks : Keywords) (places : List (Option ℕ)) → binding ps ks ≡ Ok places → ArePlaced ps (length ks) places
places_are ps ks places bound =
    let parts = bound_so (is_wrong_number ps ks) (first_unknown ps ks) (first_missing ps (bound_from 0 ps ks)) (bound_from 0 ps ks) places bound in
    subst (ArePlaced ps (length ks)) parts.0 (placed_from 0 ps ks parts.1)
