-- A text with fields is read as their object.
use Rattle.std.proofs.Common.{◌≡◌, ◌<◌, ◌==◌, ◌&&◌, ℕ, suc, Bool, true, false, List, [], ◌∷◌, ◌++◌, take, drop, length, Some, None, option_map, codes, refl, sym, ap, ◌∙◌, arith, if◌then◌else◌, inl, inr}
use Rattle.std.proofs.lemmas.Bool.{or_from, or_left, or_parts, or_right, true≢false}
use Rattle.std.proofs.lemmas.Bool.Decides.{eqb_tells}
use Rattle.std.proofs.Math.Seq.{take-append_seam, drop-append_seam}
use Rattle.std.specs.Prelude.{⊤}
use Rattle.vrl_value.specs.Tree.{object, Members, no_members, put}
use Rattle.vrl_builtin.specs.Rows.{failure, value}
use Rattle.fn_parse.specs.KeyValue.{begins, field_at, first_place, is_field_end, is_key_end, plain_value, quoted_up_to, value_at, with_key}
use Rattle.fn_parse.specs.KeyValueText.{no_byte, quote, backslash, byte, no_field, delimiter, alone, plain, quoted, put_all, takes_next, Fields, FieldsAreRead, HasFields, IsKey, IsPlain, IsWritten, NoneWithin}
use Rattle.fn_parse.specs.ParseKeyValue.{field_tree, fields_from, is_nothing}
use Rattle.fn_parse.specs.Quotes.{closing_place, is_mark, unescaped}
use Rattle.fn_parse.proofs.Cuts.{begins_at, key_alone, key_valued, place_if, plain_is, value_without}
use Rattle.fn_parse.proofs.Walked.{delimiter_on, field_on}

-- ---- where a front ends

abbrev pub Stops : (List ℕ → Bool) → List ℕ → Type 0
Stops test [] = ⊤
Stops test (b ∷ s) = test (b ∷ s) ≡ true

front_place : (test : List ℕ → Bool) (front rest : List ℕ) → NoneWithin test front rest → Stops test rest → first_place test (front ++ rest) ≡ length front
front_place test [] [] none stops = refl
front_place test [] (b ∷ s) none stops = ap (λ t. place_if t (first_place test s)) stops
front_place test (b ∷ front) rest none stops = ap (λ t. place_if t (first_place test (front ++ rest))) none.0 ∙ ap (λ n. suc n) (front_place test front rest none.1 stops)

key_cut : (k f key rest : List ℕ) → IsKey k f key rest → Stops (is_key_end k f) rest → field_at k f (key ++ rest) ≡ with_key k f key rest
key_cut k f key rest is stops =
    ap (λ n. with_key k f (take n (key ++ rest)) (drop n (key ++ rest))) (front_place (is_key_end k f) key rest is.1 stops)
    ∙ ap (λ t. with_key k f t (drop (length key) (key ++ rest))) (take-append_seam key rest) ∙ ap (with_key k f key) (drop-append_seam key rest)

-- a field's end ends a key, and so does the delimiter of keys
end_stops : (k f s : List ℕ) → is_field_end f s ≡ true → Stops (is_key_end k f) s
end_stops k f [] ends = tt
end_stops k f (b ∷ s) ends = or_right (begins k (b ∷ s)) (begins f (b ∷ s)) ends

key_stops : (k f rest : List ℕ) → 0 < length k → Stops (is_key_end k f) (k ++ rest)
key_stops [] f rest some = absurd (omega (arith, some))
key_stops (c ∷ k) f rest some = or_left (begins (c ∷ k) (c ∷ (k ++ rest))) (begins f (c ∷ (k ++ rest))) (begins_at (c ∷ k) (c ∷ (k ++ rest)) rest refl)

value_stops : (f s : List ℕ) → is_field_end f s ≡ true → Stops (begins f) s
value_stops f [] ends = tt
value_stops f (b ∷ s) ends = ends

-- ---- values

plain_read : (f text s : List ℕ) → IsPlain f text s → is_field_end f s ≡ true → Some (text, s) ≡ value_at f (text ++ s)
plain_read f text s is ends =
    let place : length text ≡ first_place (begins f) (text ++ s) = sym (front_place (begins f) text s is.0 (value_stops f s ends)) in
    let parts : (text, s) ≡ plain_value f (text ++ s) = plain_is f (text ++ s) text s (length text) place (sym (take-append_seam text s)) (sym (drop-append_seam text s)) in
    ap Some parts ∙ value_without f (text ++ s) (λ rest same. true≢false (sym (begins_at (0x22 ∷ []) (text ++ s) rest same) ∙ is.1))

closed_at : (s : List ℕ) → closing_place (0x22 ∷ s) ≡ Some 0
closed_at [] = refl
closed_at (c ∷ s) = refl

goes_on : (b : ℕ) (inner s : List ℕ) (n : ℕ) → (b == 0x22) ≡ false → takes_next b inner ≡ false → closing_place (inner ++ (0x22 ∷ s)) ≡ Some n → closing_place (b ∷ (inner ++ (0x22 ∷ s))) ≡ Some (suc n)
goes_on b [] s n other lone later =
    ap (λ t. if t then Some 0 else if b == 0x5C && is_mark 0x22 then option_map (λ m. suc (suc m)) (closing_place s) else option_map (λ m. suc m) (closing_place (0x22 ∷ s))) other
    ∙ ap (λ t. if t && is_mark 0x22 then option_map (λ m. suc (suc m)) (closing_place s) else option_map (λ m. suc m) (closing_place (0x22 ∷ s))) lone ∙ ap (option_map (λ m. suc m)) later
goes_on b (c ∷ inner) s n other lone later =
    ap (λ t. if t then Some 0 else if b == 0x5C && is_mark c then option_map (λ m. suc (suc m)) (closing_place (inner ++ (0x22 ∷ s))) else option_map (λ m. suc m) (closing_place (c ∷ (inner ++ (0x22 ∷ s))))) other
    ∙ ap (λ t. if t then option_map (λ m. suc (suc m)) (closing_place (inner ++ (0x22 ∷ s))) else option_map (λ m. suc m) (closing_place (c ∷ (inner ++ (0x22 ∷ s))))) lone ∙ ap (option_map (λ m. suc m)) later

closes : {inner text : List ℕ} (s : List ℕ) → IsWritten inner text → closing_place (inner ++ (0x22 ∷ s)) ≡ Some (length inner)
closes s no_byte = closed_at s
closes s (quote written) = ap (option_map (λ n. suc (suc n))) (closes s written)
closes s (backslash written) = ap (option_map (λ n. suc (suc n))) (closes s written)
closes s (byte {inner = inner} b other lone written) = goes_on b inner s (length inner) other lone (closes s written)

pub lone_stays : (b : ℕ) (inner : List ℕ) → takes_next b inner ≡ false → unescaped (b ∷ inner) ≡ b ∷ unescaped inner
lone_stays b [] lone = refl
lone_stays b (c ∷ inner) lone = ap (λ t. if t then c ∷ unescaped inner else b ∷ unescaped (c ∷ inner)) lone

stands_for : {inner text : List ℕ} → IsWritten inner text → unescaped inner ≡ text
stands_for no_byte = refl
stands_for (quote written) = ap (λ t. 0x22 ∷ t) (stands_for written)
stands_for (backslash written) = ap (λ t. 0x5C ∷ t) (stands_for written)
stands_for (byte {inner = inner} b other lone written) = lone_stays b inner lone ∙ ap (λ t. b ∷ t) (stands_for written)

drop_past : (inner s : List ℕ) (b : ℕ) → drop (suc (length inner)) (inner ++ (b ∷ s)) ≡ s
drop_past [] s b = refl
drop_past (c ∷ inner) s b = drop_past inner s b

quoted_read : (f inner text s : List ℕ) → IsWritten inner text → is_field_end f s ≡ true → Some (text, s) ≡ value_at f (0x22 ∷ (inner ++ (0x22 ∷ s)))
quoted_read f inner text s written ends =
    let rest = inner ++ (0x22 ∷ s) in
    let front : text ≡ unescaped (take (length inner) rest) = sym (stands_for written) ∙ ap unescaped (sym (take-append_seam inner (0x22 ∷ s))) in
    let back : s ≡ drop (suc (length inner)) rest = sym (drop_past inner s 0x22) in
    let parts : (text, s) ≡ (unescaped (take (length inner) rest), drop (suc (length inner)) rest) = λ i. (front i, back i) in
    ap Some parts ∙ sym (ap (λ t. if t then Some (unescaped (take (length inner) rest), drop (suc (length inner)) rest) else None) (ap (is_field_end f) (sym back) ∙ ends))
    ∙ ap (quoted_up_to f rest) (sym (closes s written))

-- ---- fields

pub some_byte : (key rest : List ℕ) → 0 < length key → (length (key ++ rest) == 0) ≡ false
some_byte [] rest some = absurd (omega (arith, some))
some_byte (b ∷ key) rest some = not_none (length (key ++ rest)) where
  not_none : (n : ℕ) → (suc n == 0) ≡ false
  not_none n = elim (eqb_tells (suc n) 0) [ inl same ↦ let is = same.1 in absurd (omega (arith, is)) | inr apart ↦ apart.0 ]

key_starts : (k f key rest : List ℕ) → IsKey k f key rest → begins f (key ++ rest) ≡ false
key_starts k f [] rest is = absurd (let some = is.0 in omega (arith, some))
key_starts k f (b ∷ key) rest is = (or_parts (begins k (b ∷ (key ++ rest))) (begins f (b ∷ (key ++ rest))) is.1.0).1

-- a key with the value behind its delimiter
valued : (k f key rest : List ℕ) (v s : List ℕ) (ms : Members) → 0 < length k → IsKey k f key (k ++ rest) → Some (v, s) ≡ value_at f rest →
    fields_from k f 0 (key ++ (k ++ rest)) ms ≡ fields_from k f 0 s (put key (field_tree (Some v)) ms)
valued k f key rest v s ms some is found =
    field_on k f (key ++ (k ++ rest)) key s (Some v) ms (some_byte key (k ++ rest) is.0) (key_starts k f key (k ++ rest) is)
    (key_valued k f key (k ++ rest) rest (Some (v, s)) is.0 (begins_at k (k ++ rest) rest refl) (sym (drop-append_seam k rest)) found ∙ sym (key_cut k f key (k ++ rest) is (key_stops k f rest some)))

read_all : (k f : List ℕ) {s : List ℕ} {es : Fields} → 0 < length k → 0 < length f → HasFields k f s es → (ms : Members) → fields_from k f 0 s ms ≡ value (object (put_all es ms))
read_all k f some_k some_f no_field ms = refl
read_all k f some_k some_f (delimiter {s = s} has) ms = delimiter_on k f (f ++ s) s ms some_f (begins_at f (f ++ s) s refl) (sym (drop-append_seam f s)) ∙ read_all k f some_k some_f has ms
read_all k f some_k some_f (alone {s = s} key is not_key ends has) ms =
    field_on k f (key ++ s) key s None ms (some_byte key s is.0) (key_starts k f key s is) (key_alone k f key s is.0 not_key ∙ sym (key_cut k f key s is (end_stops k f s ends)))
    ∙ read_all k f some_k some_f has (put key (field_tree None) ms)
read_all k f some_k some_f (plain {s = s} key text is value_is ends has) ms =
    valued k f key (text ++ s) text s ms some_k is (plain_read f text s value_is ends) ∙ read_all k f some_k some_f has (put key (field_tree (Some text)) ms)
read_all k f some_k some_f (quoted {s = s} key inner text is written ends has) ms =
    valued k f key (0x22 ∷ (inner ++ (0x22 ∷ s))) text s ms some_k is (quoted_read f inner text s written ends) ∙ read_all k f some_k some_f has (put key (field_tree (Some text)) ms)

some_is : (d : List ℕ) → 0 < length d → is_nothing d ≡ false
some_is [] some = absurd (omega (arith, some))
some_is (b ∷ d) some = refl

pub fields_are_read : FieldsAreRead
fields_are_read k f s es some_k some_f has =
    ap (λ t. if t then failure (codes "empty delimiter") else fields_from k f 0 s no_members) (or_from (is_nothing k) (is_nothing f) (some_is k some_k) (some_is f some_f)) ∙ read_all k f some_k some_f has no_members
