-- The metadata, which is the first of the variables and always there.
use Rattle.std.proofs.Common.{◌≡◌, ℕ, zero, suc, ◌<◌, true, false, [], ◌∷◌, length, Option, Some, None, is_some, unwrap_or, bytes_eq, refl, sym, ap, ◌∙◌, subst, arith, if◌then◌else◌}
use Rattle.std.proofs.lemmas.Bool.{or_parts}
use Rattle.std.proofs.lemmas.Map.Text.{is_eq-slice_cmp}
use Rattle.vrl_value.specs.Tree.{Tree, null, object, no_members}
use Rattle.vrl_syntax.specs.Stores.{left_in, metadata, metadata_name, value_of}
use Rattle.vrl_syntax.specs.declared.root.Root.TheVariants.{Name}
use Rattle.vrl_store.specs.Kept.{trees_of}
use Rattle.vrl_store.specs.Places.{root_value}
use Rattle.vrl_store.specs.StoreView.{is_among, name_at, root_of, store_in, AreDistinct, AreNames, BeginWithMetadata, Names}
use Rattle.vrl_store.specs.declared.store.Store.{Store as CodeStore}
use Rattle.vrl_store.specs.declared.target_path.Base.TheVariants as base
use Rattle.vrl_store.proofs.StoreReads.{variable_found}
use Rattle.vrl_store.proofs.Variables.{found_at, tied, tied_swapped}

-- ---- its name

first_named : (names : Names) → BeginWithMetadata names → name_at names 0 ≡ metadata_name
first_named names begins = ap (λ x. unwrap_or x []) begins

pub some_named : (names : Names) → BeginWithMetadata names → 0 < length names
some_named [] begins = absurd (cc)
some_named (x ∷ names) begins = omega arith

-- what isn't among names is at none of their numbers
apart : (names : Names) (n : ℕ) → is_among metadata_name names ≡ false → bytes_eq (name_at names n) metadata_name ≡ false
apart [] n none = refl
apart (y ∷ names) zero none =
    sym (is_eq-slice_cmp y metadata_name) ∙ tied_swapped y metadata_name ∙ (or_parts (tied metadata_name y) (is_among metadata_name names) none).0
apart (y ∷ names) (suc n) none = apart names n (or_parts (tied metadata_name y) (is_among metadata_name names) none).1

other_named : (names : Names) (n : ℕ) → AreDistinct names → BeginWithMetadata names → (n ≡ 0 → ⊥) → bytes_eq (name_at names n) metadata_name ≡ false
other_named [] n distinct begins other = absurd (cc)
other_named (x ∷ names) zero distinct begins other = absurd (other refl)
other_named (x ∷ names) (suc n) distinct begins other =
    let named : x ≡ metadata_name = cc in
    apart names n (subst (λ k. is_among k names ≡ false) named distinct.0)

-- ---- what is left of a variable

pub metadata_left : (names : Names) (n : ℕ) → BeginWithMetadata names → n ≡ 0 → left_in (Name (name_at names n)) ≡ object no_members
metadata_left names n begins zero_is = ap (λ m. left_in (Name (name_at names m))) zero_is ∙ ap (λ x. left_in (Name x)) (first_named names begins)

pub other_left : (names : Names) (n : ℕ) → AreDistinct names → BeginWithMetadata names → (n ≡ 0 → ⊥) → left_in (Name (name_at names n)) ≡ null
other_left names n distinct begins other = ap (λ b. if b then object no_members else null) (other_named names n distinct begins other)

-- ---- its value

pub metadata_found : (names : Names) (s : CodeStore) → AreNames names s → value_of metadata (store_in names s) ≡ found_at (trees_of s.variables.items) 0
metadata_found names s are =
    let some = some_named names are.first in
    let as_many = are.as_many in
    let within : 0 < length s.variables.items = omega arith in
    ap (λ x. value_of (Name x) (store_in names s)) (sym (first_named names are.first)) ∙ variable_found names s 0 are within

is_there : (x : Option Tree) → is_some x ≡ true → x ≡ Some (unwrap_or x null)
is_there None is = absurd (cc)
is_there (Some v) is = refl

-- it is there, so what is read in its root is its value
pub metadata_read : (names : Names) (s : CodeStore) (v : Tree) → AreNames names s → v ≡ root_value (root_of names (base.Variable 0)) (store_in names s) → value_of metadata (store_in names s) ≡ Some v
metadata_read names s v are is =
    is_there (value_of metadata (store_in names s)) (ap is_some (metadata_found names s are) ∙ s.kept.present.0)
    ∙ ap (λ x. Some (root_value (Name x) (store_in names s))) (sym (first_named names are.first))
    ∙ ap Some (sym is)
