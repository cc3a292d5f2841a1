-- Names that come first among more names, and what is told of those that there are in the end.
use Rattle.std.proofs.Common.{◌≡◌, ℕ, suc, ◌+◌, ◌<◌, Bool, true, false, List, [], ◌∷◌, ◌++◌, length, map, cond, get_or, Some, option_map, slice_get, position, refl, sym, ap, ◌∙◌, arith, append-nil, append_assoc, if◌then◌else◌, length-append}
use Rattle.std.specs.List.{list_any, position_from, AllByRecursion, IsDistinct}
use Rattle.std.specs.Ordering.{eq_by_cmp, nat_cmp}
use Rattle.std.specs.Cmp.Lexicographic.{slice_cmp}
use Rattle.std.specs.Str.{bytes_eq}
use Rattle.std.specs.String.{string_bytes, string_eq}
use Rattle.std.specs.declared.string.String.{String}
use Rattle.std.proofs.lemmas.List.{get_or_append_left}
use Rattle.std.proofs.lemmas.Iterator.Adapters.{position_from-zero}
use Rattle.std.proofs.lemmas.Map.Text.{is_eq-slice_cmp}
use Rattle.std.proofs.lemmas.Option.{slice_get-map, slice_get_within, get_or_from_slice_get, unwrap_or-slice_get}
use Rattle.std.proofs.lemmas.Slice.Eq.{bytes_eq-Decides}
use Rattle.vrl_syntax.specs.declared.root.Root.TheVariants.{Name}
use Rattle.vrl_store.specs.StoreView.{is_among, name_at, AreDistinct, Names}
use Rattle.vrl_store.specs.declared.target_path.Base.TheVariants as base
use Rattle.vrl_resolve.specs.Linking.{IsBaseOf, IsBeginning}

-- ---- beginnings

pub begins_itself : (names : Names) → IsBeginning names names
begins_itself names = ([], sym (append-nil names))

pub begins_behind : (first second third : Names) → IsBeginning first second → IsBeginning second third → IsBeginning first third
begins_behind first second third one two = (one.0 ++ two.0, two.1 ∙ ap (λ names. names ++ two.0) one.1 ∙ append_assoc first one.0 two.0)

-- ---- numbers of names

abbrev is_text : {Z : Type 0} → List ℕ → String Z → Bool
is_text x key = bytes_eq x (string_bytes key)

abbrev IsFoundFrom : {Z : Type 0} → List (String Z) → List ℕ → ℕ → ℕ → Type 0
IsFoundFrom keys x i n = (k : ℕ) × (n ≡ i + k) × (slice_get (map string_bytes keys) k ≡ Some x)

found_here : {Z : Type 0} (key : String Z) (keys : List (String Z)) (x : List ℕ) (i n : ℕ) (b : Bool) → is_text x key ≡ b → (position_from (is_text x) (i + 1) keys ≡ Some n → IsFoundFrom keys x (i + 1) n)
    → cond b (Some i) (position_from (is_text x) (i + 1) keys) ≡ Some n → IsFoundFrom (key ∷ keys) x i n
found_here key keys x i n true same rest here =
    let n_is : i ≡ n = cc in
    (0, omega arith, ap Some (sym ((bytes_eq-Decides x (string_bytes key)).0 same)))
found_here key keys x i n false other rest behind =
    let found = rest behind in
    let shift : n ≡ i + suc found.0 = omega (arith, found.1) in
    (suc found.0, shift, found.2)

found_from : {Z : Type 0} (keys : List (String Z)) (x : List ℕ) (i n : ℕ) → position_from (is_text x) i keys ≡ Some n → IsFoundFrom keys x i n
found_from [] x i n is = absurd cc
found_from (key ∷ keys) x i n is = found_here key keys x i n (is_text x key) refl (found_from keys x (i + 1) n) is

-- what a look-up of a name finds
pub found_name : {Z : Type 0} (keys : List (String Z)) (x : List ℕ) (n : ℕ) → Some n ≡ position (λ key. bytes_eq x (string_bytes key)) keys → slice_get (map string_bytes keys) n ≡ Some x
found_name keys x n is =
    let found = found_from keys x 0 n (sym (position_from-zero (is_text x) keys) ∙ sym is) in
    let same : n ≡ found.0 = omega (arith, found.1) in
    ap (slice_get (map string_bytes keys)) same ∙ found.2

-- the number of a name stands for it among more names
pub number_of : (known names : Names) (x : List ℕ) (n : ℕ) → slice_get known n ≡ Some x → IsBeginning known names → IsBaseOf names (Name x) (base.Variable n)
number_of known names x n is begins =
    let within : n < length known = slice_get_within known n x is in
    let lengths : length names ≡ length known + length begins.0 = ap length begins.1 ∙ length-append known begins.0 in
    let found : name_at names n ≡ x = unwrap_or-slice_get names n [] ∙ ap (λ l. get_or l n []) begins.1 ∙ get_or_append_left known begins.0 [] n within ∙ get_or_from_slice_get known n x [] is in
    record { known = omega arith; same = ap Name found }

-- what is stored under a number
pub stored_name : {Z : Type 0} (keys : List (String Z)) (value : String Z) (x : List ℕ) (n : ℕ) → string_bytes value ≡ x → (key : String Z) × (slice_get keys n ≡ Some key) × (string_eq value key ≡ true) → slice_get (map string_bytes keys) n ≡ Some x
stored_name keys value x n is stored =
    let same : string_bytes value ≡ string_bytes stored.0 = (bytes_eq-Decides (string_bytes value) (string_bytes stored.0)).0 stored.2 in
    slice_get-map string_bytes keys n ∙ ap (option_map string_bytes) stored.1 ∙ ap Some (sym same ∙ is)

-- ---- names that are new

pub begins_more : {Z : Type 0} (keys more : List (String Z)) (key : String Z) → more ≡ (if list_any (string_eq key) keys then keys else keys ++ key ∷ []) → IsBeginning (map string_bytes keys) (map string_bytes more)
begins_more {Z} keys more key is = by (list_any (string_eq key) keys) is where
  onto : (ks : List (String Z)) → map string_bytes (ks ++ key ∷ []) ≡ map string_bytes ks ++ (string_bytes key ∷ [])
  onto [] = refl
  onto (k ∷ ks) = ap (λ l. string_bytes k ∷ l) (onto ks)

  by : (b : Bool) → more ≡ (if b then keys else keys ++ key ∷ []) → IsBeginning (map string_bytes keys) (map string_bytes more)
  by true same = ([], ap (map string_bytes) same ∙ sym (append-nil (map string_bytes keys)))
  by false same = (string_bytes key ∷ [], ap (map string_bytes) same ∙ onto keys)

-- the first name
pub alone_named : {Z : Type 0} (keys more : List (String Z)) (key : String Z) (x : List ℕ) → keys ≡ [] → more ≡ (if list_any (string_eq key) keys then keys else keys ++ key ∷ []) → string_bytes key ≡ x → map string_bytes more ≡ x ∷ []
alone_named keys more key x none is named =
    ap (map string_bytes) (is ∙ ap (λ ks. if list_any (string_eq key) ks then ks else ks ++ key ∷ []) none) ∙ ap (λ k. k ∷ []) named

-- ---- no name stands twice

apart : {Z : Type 0} (key : String Z) (keys : List (String Z)) → AllByRecursion (λ other. string_eq key other ≡ false) keys → is_among (string_bytes key) (map string_bytes keys) ≡ false
apart key [] all = refl
apart key (k ∷ keys) all =
    let first : eq_by_cmp (slice_cmp nat_cmp) (string_bytes key) (string_bytes k) ≡ false = is_eq-slice_cmp (string_bytes key) (string_bytes k) ∙ all.0 in
    let rest = apart key keys all.1 in
    rw first rest

pub distinct_names : {Z : Type 0} (keys : List (String Z)) → IsDistinct string_eq keys → AreDistinct (map string_bytes keys)
unfolding IsDistinct
distinct_names [] all = tt
distinct_names (key ∷ keys) all = (apart key keys all.0, distinct_names keys all.1)
