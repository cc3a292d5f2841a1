-- A variable that a name of a closure binds, and one that gets its value back.
use Rattle.std.proofs.Common.{◌≡◌, ℕ, ◌<◌, true, false, List, [], ◌∷◌, ◌++◌, length, Option, Some, None, is_some, option_map, refl, sym, ◌∙◌, append-nil, arith}
use Rattle.std.specs.Prelude.{IfSome}
use Rattle.vrl_value.specs.Tree.{Tree}
use Rattle.vrl_value.specs.View.{tree_of}
use Rattle.vrl_value.specs.declared.value.Value.{Value}
use Rattle.vrl_store.specs.Kept.{is_held, is_numbered, trees_of}
use Rattle.vrl_store.specs.StoreView.{IsFront}
use Rattle.vrl_store.specs.declared.hidden_value.HiddenValue.{HiddenValue}
use Rattle.vrl_store.specs.declared.store.Store.{Store as CodeStore}
use Rattle.vrl_store.proofs.Left.{not_found, numbered_within, present_numbered}
use Rattle.vrl_store.proofs.StoreReads.{length_map}
use Rattle.vrl_store.proofs.Variables.{found_at}

pub there_some : (x : Option Value) → is_some (option_map tree_of x) ≡ is_some x
there_some None = refl
there_some (Some v) = refl

pub if_there : (hidden : Option HiddenValue) {P : Type 0} → P → IfSome hidden (λ value. P)
if_there None is = tt
if_there (Some value) is = is

pub none_hidden : (vs : List (Option Tree)) (n : ℕ) → is_numbered vs n ≡ false → found_at vs n ≡ None
none_hidden vs n is = not_found vs n (found_at vs n) refl is

pub same_front : {xs ys : List ℕ} → ys ≡ xs → IsFront xs ys
same_front {xs} {ys} same = ([], same_end) where
  same_end : ys ≡ xs ++ []
  same_end = same ∙ sym (append-nil xs)

-- a number that is among those present is that of a variable that is there
pub number_there : (s : CodeStore) (n : ℕ) → is_held n s.present.items ≡ true → is_numbered (trees_of s.variables.items) n ≡ true
number_there s n is = present_numbered (trees_of s.variables.items) n (0 ∷ s.present.items) s.kept.present is

pub number_within : (s : CodeStore) (n : ℕ) → is_held n s.present.items ≡ true → n < length s.variables.items
number_within s n is =
    let within = numbered_within (trees_of s.variables.items) n (number_there s n is) in
    let mapped = length_map s.variables.items in
    omega arith
