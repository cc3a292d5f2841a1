-- Lines that are told one behind the other.
use Rattle.std.proofs.Common.{◌≡◌, ℕ, ◌+◌, ◌<◌, List, [], ◌∷◌, ◌++◌, length, get_or, take, add-one, append_assoc}
use Rattle.std.proofs.Math.Seq.{take-suc}
use Rattle.std.proofs.lemmas.Grind.{flat_map-append}
use Rattle.std.proofs.lemmas.List.{append-nil}
use Rattle.std.specs.List.{flat_map}

-- the line of the element at a place, behind those of the elements before it
pub one_line : {D : Type 0} (f : D → List ℕ) (ds : List D) (i : ℕ) (d : D) (done line : List ℕ) → i < length ds → done ≡ flat_map (λ x. f x ++ 10 ∷ []) (take i ds) → line ≡ f (get_or ds i d)
    → (done ++ line) ++ 10 ∷ [] ≡ flat_map (λ x. f x ++ 10 ∷ []) (take (i + 1) ds)
one_line {D} f ds i d done line here before same =
    let told = λ (x : D). f x ++ 10 ∷ [] in
    let last : flat_map told (take i ds ++ get_or ds i d ∷ []) ≡ flat_map told (take i ds) ++ (told (get_or ds i d) ++ []) = flat_map-append told (take i ds) (get_or ds i d ∷ []) in
    rw (append_assoc, before, same, add-one, take-suc ds i d here, last, append-nil)
