-- The known parts as slices.
use Rattle.std.proofs.Common.{◌≡◌, ℕ, zero, suc, ◌+◌, ◌<◌, ◌≤◌, List, [], ◌∷◌, length, take, max, get_or, refl, ap, arith}
use Rattle.vrl_kind.specs.KindTree.{KindTree}
use Rattle.vrl_kind.specs.Canonical.{place_or}
use Rattle.vrl_kind.specs.Count.{nodes, places_nodes, fields_nodes, levels, places_levels, fields_levels}
use Rattle.vrl_kind.specs.View.{places_view, fields_view}
use Rattle.vrl_kind.specs.declared.kind.KindField.{KindField}

pub place_known : (ks : List KindTree) (K : KindTree) (i : ℕ) (k : KindTree) → i < length ks → k ≡ get_or ks i k → k ≡ place_or (places_view ks) K i
place_known [] K i k below is = absurd (omega arith)
place_known (x ∷ ks) K zero k below is = is
place_known (x ∷ ks) K (suc i) k below is = place_known ks K i k (omega arith) is

pub place_beyond : (ks : List KindTree) (K : KindTree) (i : ℕ) → length ks ≤ i → place_or (places_view ks) K i ≡ K
place_beyond [] K i above = refl
place_beyond (x ∷ ks) K zero above = absurd (omega arith)
place_beyond (x ∷ ks) K (suc i) above = place_beyond ks K i (omega arith)

pub place_nodes : (ks : List KindTree) (i : ℕ) (k : KindTree) → i < length ks → k ≡ get_or ks i k → nodes k ≤ places_nodes (places_view ks)
place_nodes [] i k below is = absurd (omega arith)
place_nodes (x ∷ ks) zero k below is = omega (arith, ap nodes is)
place_nodes (x ∷ ks) (suc i) k below is = omega (arith, place_nodes ks i k (omega arith) is)

-- what is counted of one more place, and of one more field
pub places_nodes_take : (ks : List KindTree) (i next : ℕ) (k : KindTree) → next ≡ suc i → i < length ks → k ≡ get_or ks i k → places_nodes (places_view (take next ks)) ≡ places_nodes (places_view (take i ks)) + nodes k
places_nodes_take [] i next k e below is = absurd (omega arith)
places_nodes_take (x ∷ ks) zero next k e below is = rw e (omega (arith, ap nodes is))
places_nodes_take (x ∷ ks) (suc i) next k e below is = rw e (omega (arith, places_nodes_take ks i (suc i) k refl (omega arith) is))

pub fields_nodes_take : (fs : List KindField) (i next : ℕ) (f : KindField) → next ≡ suc i → i < length fs → f ≡ get_or fs i f → fields_nodes (fields_view (take next fs)) ≡ fields_nodes (fields_view (take i fs)) + nodes f.kind
fields_nodes_take [] i next f e below is = absurd (omega arith)
fields_nodes_take (x ∷ fs) zero next f e below is = rw e (omega (arith, ap (λ g. nodes g.kind) is))
fields_nodes_take (x ∷ fs) (suc i) next f e below is = rw e (omega (arith, fields_nodes_take fs i (suc i) f refl (omega arith) is))

pub places_levels_take : (ks : List KindTree) (i next : ℕ) (k : KindTree) → next ≡ suc i → i < length ks → k ≡ get_or ks i k → places_levels (places_view (take next ks)) ≡ max (places_levels (places_view (take i ks))) (levels k + 1)
places_levels_take [] i next k e below is = absurd (omega arith)
places_levels_take (x ∷ ks) zero next k e below is = rw e (omega (arith, ap levels is))
places_levels_take (x ∷ ks) (suc i) next k e below is = rw e (omega (arith, places_levels_take ks i (suc i) k refl (omega arith) is))

pub fields_levels_take : (fs : List KindField) (i next : ℕ) (f : KindField) → next ≡ suc i → i < length fs → f ≡ get_or fs i f → fields_levels (fields_view (take next fs)) ≡ max (fields_levels (fields_view (take i fs))) (levels f.kind + 1)
fields_levels_take [] i next f e below is = absurd (omega arith)
fields_levels_take (x ∷ fs) zero next f e below is = rw e (omega (arith, ap (λ g. levels g.kind) is))
fields_levels_take (x ∷ fs) (suc i) next f e below is = rw e (omega (arith, fields_levels_take fs i (suc i) f refl (omega arith) is))

pub field_nodes : (fs : List KindField) (i : ℕ) (f : KindField) → i < length fs → f ≡ get_or fs i f → nodes f.kind ≤ fields_nodes (fields_view fs)
field_nodes [] i f below is = absurd (omega arith)
field_nodes (x ∷ fs) zero f below is = omega (arith, ap (λ g. nodes g.kind) is)
field_nodes (x ∷ fs) (suc i) f below is = omega (arith, field_nodes fs i f (omega arith) is)
