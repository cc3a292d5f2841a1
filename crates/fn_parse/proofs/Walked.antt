-- A text walked over field by field.
use Rattle.std.proofs.Common.{◌≡◌, ◌<◌, ◌+◌, ◌-◌, ◌==◌, ℕ, zero, suc, Bool, true, false, List, [], ◌∷◌, take, drop, length, Option, Some, None, refl, sym, ap, ◌∙◌, arith, if◌then◌else◌}
use Rattle.std.proofs.lemmas.Bool.{eqb-true, true≢false}
use Rattle.std.proofs.lemmas.List.{drop-drop, length-drop, length-take}
use Rattle.vrl_value.specs.Tree.{Members, object, put}
use Rattle.vrl_builtin.specs.Rows.{failure, value}
use Rattle.fn_parse.specs.Found.{IsAhead}
use Rattle.fn_parse.specs.KeyValue.{begins, entry, fault, field_at, first_place, is_field_end, is_key_end, plain_value, quoted_up_to, value_at, with_key, with_value}
use Rattle.fn_parse.specs.ParseKeyValue.{field_tree, fields_from, with_field}
use Rattle.fn_parse.specs.Quotes.{closing_place, unescaped}
use Rattle.fn_parse.proofs.Cuts.{ahead_on}

-- ---- what is passed over

skipped : (k f s : List ℕ) (n : ℕ) (ms : Members) → fields_from k f n s ms ≡ fields_from k f 0 (drop n s) ms
skipped k f [] zero ms = refl
skipped k f [] (suc n) ms = refl
skipped k f (b ∷ s) zero ms = refl
skipped k f (b ∷ s) (suc n) ms = skipped k f s n ms

pub delimiter_on : (k f s rest : List ℕ) (ms : Members) → 0 < length f → begins f s ≡ true → rest ≡ drop (length f) s → fields_from k f 0 s ms ≡ fields_from k f 0 rest ms
delimiter_on k [] s rest ms some is rest_is = absurd (omega (arith, some))
delimiter_on k (c ∷ cs) [] rest ms some is rest_is = absurd (true≢false (sym is))
delimiter_on k (c ∷ cs) (b ∷ s) rest ms some is rest_is =
    let f = c ∷ cs in
    let less : length f - 1 ≡ length cs = omega arith in
    ap (λ t. if t then fields_from k f (length f - 1) s ms else with_field (field_at k f (b ∷ s)) ms (λ behind others. fields_from k f (length s - length behind) s others)) is
    ∙ skipped k f s (length f - 1) ms ∙ ap (λ n. fields_from k f 0 (drop n s) ms) less ∙ ap (λ t. fields_from k f 0 t ms) (sym rest_is)

-- ---- what stands behind a field is an end of the text

abbrev Ends : List ℕ → List ℕ → Type 0
Ends s t = (n : ℕ) × (t ≡ drop n s)

ends_on : (s t u : List ℕ) → Ends s t → Ends t u → Ends s u
ends_on s t u one two = (one.0 + two.0, two.1 ∙ ap (drop two.0) one.1 ∙ drop-drop two.0 one.0 s)

abbrev pair : List ℕ → List ℕ → Option (List ℕ × List ℕ)
pair a b = Some (a, b)

abbrev second : Option (List ℕ × List ℕ) → List ℕ
second None = []
second (Some p) = p.1

quoted_end : (f s : List ℕ) (o : Option ℕ) (v t : List ℕ) → quoted_up_to f s o ≡ Some (v, t) → Ends s t
quoted_end f s None v t is = absurd cc
quoted_end f s (Some n) v t is = by (is_field_end f (drop (suc n) s)) is where
  by : (b : Bool) → (if b then pair (unescaped (take n s)) (drop (suc n) s) else None) ≡ Some (v, t) → Ends s t
  by true found = (suc n, sym (ap second found))
  by false found = absurd cc

value_end : (f s v t : List ℕ) → value_at f s ≡ Some (v, t) → Ends s t
value_end f [] v t is = (0, sym (ap second is))
value_end f (b ∷ s) v t is = by (b == 0x22) is where
  by : (x : Bool) → (if x then quoted_up_to f s (closing_place s) else Some (plain_value f (b ∷ s))) ≡ Some (v, t) → Ends (b ∷ s) t
  by true found = let inner = quoted_end f s (closing_place s) v t found in (suc inner.0, inner.1)
  by false found = (first_place (begins f) (b ∷ s), sym (ap second found))

valued_end : (f s key : List ℕ) (o : Option (List ℕ × List ℕ)) (name : List ℕ) (v : Option (List ℕ)) (t : List ℕ) → value_at f s ≡ o → with_value key o ≡ entry name v t → Ends s t
valued_end f s key None name v t is found = absurd cc
valued_end f s key (Some w) name v t is found = let same : w.1 ≡ t = cc in let end = value_end f s w.0 w.1 is in (end.0, sym same ∙ end.1)

key_end : (k f key behind name : List ℕ) (v : Option (List ℕ)) (t : List ℕ) → with_key k f key behind ≡ entry name v t → Ends behind t × (0 < length key)
key_end k f [] behind name v t is = absurd cc
key_end k f (b ∷ key) behind name v t is = (by (begins k behind) is, omega arith) where
  by : (x : Bool) → (if x then with_value (b ∷ key) (value_at f (drop (length k) behind)) else entry (b ∷ key) None behind) ≡ entry name v t → Ends behind t
  by true found = ends_on behind (drop (length k) behind) t (length k, refl) (valued_end f (drop (length k) behind) (b ∷ key) (value_at f (drop (length k) behind)) name v t refl found)
  by false found = let same : t ≡ behind = cc in (0, same)

behind_first : (b n m : ℕ) (s t : List ℕ) → 0 < n → t ≡ drop m (drop n (b ∷ s)) → Ends s t
behind_first b zero m s t some is = absurd (omega (arith, some))
behind_first b (suc n) m s t some is = (n + m, is ∙ drop-drop m n s)

field_end : (k f : List ℕ) (b : ℕ) (s name : List ℕ) (v : Option (List ℕ)) (t : List ℕ) → field_at k f (b ∷ s) ≡ entry name v t → Ends s t
field_end k f b s name v t is =
    let n = first_place (is_key_end k f) (b ∷ s) in
    let end = key_end k f (take n (b ∷ s)) (drop n (b ∷ s)) name v t is in
    let long = length-take n (b ∷ s) in
    let some : 0 < n = omega (arith, end.1, long) in
    behind_first b n end.0.0 s t some end.0.1

drop_back : (n : ℕ) (s : List ℕ) → drop (length s - length (drop n s)) s ≡ drop n s
drop_back zero s = let none : length s - length s ≡ 0 = omega arith in ap (λ n. drop n s) none
drop_back (suc n) [] = refl
drop_back (suc n) (b ∷ s) =
    let long = length-drop n s in
    let less : suc (length s) - length (drop n s) ≡ suc (length s - length (drop n s)) = omega (arith, long) in
    ap (λ m. drop m (b ∷ s)) less ∙ drop_back n s

back_to : (s t : List ℕ) → Ends s t → drop (length s - length t) s ≡ t
back_to s t end = ap (λ u. drop (length s - length u) s) end.1 ∙ drop_back end.0 s ∙ sym end.1

-- ---- one field

pub field_on : (k f s key behind : List ℕ) (v : Option (List ℕ)) (ms : Members) → (length s == 0) ≡ false → begins f s ≡ false → entry key v behind ≡ field_at k f s → fields_from k f 0 s ms ≡ fields_from k f 0 behind (put key (field_tree v) ms)
field_on k f [] key behind v ms some starts found = absurd (true≢false some)
field_on k f (b ∷ s) key behind v ms some starts found =
    ap (λ t. if t then fields_from k f (length f - 1) s ms else with_field (field_at k f (b ∷ s)) ms (λ rest others. fields_from k f (length s - length rest) s others)) starts
    ∙ ap (λ x. with_field x ms (λ rest others. fields_from k f (length s - length rest) s others)) (sym found)
    ∙ skipped k f s (length s - length behind) (put key (field_tree v) ms)
    ∙ ap (λ t. fields_from k f 0 t (put key (field_tree v) ms)) (back_to s behind (field_end k f b s key v behind (sym found)))

pub field_shorter : (k f s key behind : List ℕ) (v : Option (List ℕ)) → (length s == 0) ≡ false → entry key v behind ≡ field_at k f s → length behind < length s
field_shorter k f [] key behind v some found = absurd (true≢false some)
field_shorter k f (b ∷ s) key behind v some found =
    let end = field_end k f b s key v behind (sym found) in let long : length behind ≡ length s - end.0 = ap length end.1 ∙ length-drop end.0 s in omega (arith, long)

-- what is known of the text is known of what stands behind the field
pub field_ahead : (k f d s key behind : List ℕ) (v : Option (List ℕ)) (n : ℕ) → (length s == 0) ≡ false → entry key v behind ≡ field_at k f s → IsAhead d s n → IsAhead d behind n
field_ahead k f d [] key behind v n some found known = absurd (true≢false some)
field_ahead k f d (b ∷ s) key behind v n some found known = let end = field_end k f b s key v behind (sym found) in ahead_on d (b ∷ s) behind (suc end.0) n end.1 known

pub fault_on : (k f s words : List ℕ) (ms : Members) → (length s == 0) ≡ false → begins f s ≡ false → fault words ≡ field_at k f s → fields_from k f 0 s ms ≡ failure words
fault_on k f [] words ms some starts found = absurd (true≢false some)
fault_on k f (b ∷ s) words ms some starts found =
    ap (λ t. if t then fields_from k f (length f - 1) s ms else with_field (field_at k f (b ∷ s)) ms (λ rest others. fields_from k f (length s - length rest) s others)) starts
    ∙ ap (λ x. with_field x ms (λ rest others. fields_from k f (length s - length rest) s others)) (sym found)

pub at_end : (k f s : List ℕ) (ms : Members) → (length s == 0) ≡ true → fields_from k f 0 s ms ≡ value (object ms)
at_end k f [] ms none = refl
at_end k f (b ∷ s) ms none = absurd (none_left (length s) none) where
  none_left : (n : ℕ) → (suc n == 0) ≡ true → ⊥
  none_left n is = let none : suc n ≡ 0 = eqb-true (suc n) 0 is in omega (arith, none)
