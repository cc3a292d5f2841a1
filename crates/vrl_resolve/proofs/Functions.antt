-- The functions of the table by their names.
use Rattle.std.proofs.Common.{◌≡◌, ◌≢◌, ℕ, Bool, true, false, List, [], ◌∷◌, None, Some, cond, find, bytes_eq, refl, ap, ◌∙◌}
use Rattle.std.proofs.lemmas.Slice.Eq.{bytes_eq-Decides}
use Rattle.vrl_table.specs.Table.{all_functions, function_named, row_of}
use Rattle.vrl_table.specs.declared.function.Fun.{Fun}

none_found : (test : Fun → Bool) (fs : List Fun) → ((f : Fun) → test f ≡ false) → find test fs ≡ None
none_found test [] none = refl
none_found test (f ∷ fs) none = ap (λ b. cond b (Some f) (find test fs)) (none f) ∙ none_found test fs none

other_name : (x y : List ℕ) (b : Bool) → bytes_eq x y ≡ b → x ≢ y → b ≡ false
other_name x y false is other = refl
other_name x y true is other = absurd (other ((bytes_eq-Decides x y).0 is))

-- no function has the name
pub not_named : (name : List ℕ) → ((f : Fun) → (row_of f).name ≢ name) → function_named name ≡ None
unfolding function_named
not_named name none = none_found (λ f. bytes_eq (row_of f).name name) all_functions (λ f. other_name (row_of f).name name (bytes_eq (row_of f).name name) refl (none f))
