-- The events that are kept of an array.
use Rattle.std.proofs.Common.{◌≡◌, List, [], ◌∷◌, map, refl, ap}
use Rattle.vrl_value.specs.Tree.{Tree}
use Rattle.vrl_value.specs.View.{items_view, tree_of}
use Rattle.vrl_value.specs.declared.value.Value.{Value}
use Rattle.vrl_run.specs.LineResult.{each_with, trees_in}

pub none_of_none : {A B : Type 0} (f : A → B) (xs : List A) → map f xs ≡ [] → xs ≡ []
none_of_none f [] none = refl
none_of_none f (x ∷ xs) none = absurd cc

pub none_with_none : (beside : Tree) (events : List Tree) → each_with beside events ≡ [] → events ≡ []
none_with_none beside events none = none_of_none (λ event. (event, beside)) events none

pub trees_in_view : (vs : List Value) → trees_in (items_view vs) ≡ map tree_of vs
trees_in_view [] = refl
trees_in_view (v ∷ vs) = ap (λ ts. tree_of v ∷ ts) (trees_in_view vs)
