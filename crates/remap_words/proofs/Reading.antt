-- The walk over all words ends with what the words give, by induction on the words.
use Rattle.std.proofs.Common.{◌≡◌, ◌∙◌, ◌+◌, ◌==◌, ℕ, Bool, cond, codes, true, false, suc, take, drop, refl, sym, ap, subst, arith, List, [], ◌∷◌, Option, Some, None, true≢false}
use Rattle.std.specs.Prelude.{option_and_then, map}
use Rattle.std.specs.List.{after_first, before_first, list_any, position_or_len}
use Rattle.std.specs.Option.{option_map}
use Rattle.std.specs.Str.{bytes_eq}
use Rattle.std.proofs.lemmas.Bool.{eqb-true}
use Rattle.clap.specs.Faults.{walk_fault}
use Rattle.clap.specs.Walk.{Held, Text, Waiting, after_step, arg_by_long, finished, idle, option, plain_word}
use Rattle.remap_words.specs.Uses.{begins_with_hyphen, behind_equals, check, drop_on_error, envelope, flag, generate, has_short, is_equals, is_short, jobs, keep_on_abort, kind, option_spelt, option_with_value, refused, script, uses_from, uses_of, whole, word_of}
use Rattle.remap_words.specs.Words.{Settings, with_use}
use Rattle.remap_words.proofs.Table.{by_long, generate_by_id, jobs_by_id, kind_by_id, picked, rule_named, table}
use Rattle.remap_words.proofs.Rows.{At, check_use, drop_on_error_use, envelope_use, generate_use, jobs_use, keep_on_abort_use, kind_use}
use Rattle.remap_words.proofs.Held.{Stands, fault_first}
use Rattle.remap_words.proofs.Turns.{IsPlain, dashes, dashes_fault, dashes_walk, long_fault_is, long_refused, long_turn, long_walk, long_walk_is, name_fault, name_walk, place, plain_fault, plain_walk, trailing_fault, trailing_walk, value_fault, value_walk}
use Rattle.remap_words.proofs.Defaults.{Agrees, end_agrees, end_fault, fault_agrees}
use Rattle.remap_words.proofs.Walks.{Ends, IsSetting, LongAgrees, Waits, flag_agrees, given_after, missing_fault, name_agrees, one_more, refused_first, setting_agrees, turned, value_agrees, waiting_held}

-- ---- the forms of a word

at_number : (P : ℕ → Type 0) (k b : ℕ) → P k → ((b == k) ≡ false → P b) → P b
at_number P k b here other = go (b == k) refl
  where
    go : (same : Bool) → (b == k) ≡ same → P b
    go true e = subst P (sym (eqb-true b k e)) here
    go false e = other e

behind_two : (P : Text → Type 0) → P dashes → ((x : ℕ) (xs : Text) → P (45 ∷ 45 ∷ x ∷ xs)) → (rest : Text) → P (45 ∷ 45 ∷ rest)
behind_two P two long [] = two
behind_two P two long (x ∷ xs) = long x xs

behind_one : (P : Text → Type 0) → P (45 ∷ []) → ((c : ℕ) (cs : Text) → (c == 45) ≡ false → P (45 ∷ c ∷ cs)) → P dashes
    → ((x : ℕ) (xs : Text) → P (45 ∷ 45 ∷ x ∷ xs)) → (rest : Text) → P (45 ∷ rest)
behind_one P alone short two long [] = alone
behind_one P alone short two long (c ∷ cs) = at_number (λ b. P (45 ∷ b ∷ cs)) 45 c (behind_two P two long cs) (short c cs)

-- a word is empty, or begins with no hyphen, with one, or with two
pub by_form : (P : Text → Type 0) → P [] → ((b : ℕ) (bs : Text) → (b == 45) ≡ false → P (b ∷ bs)) → P (45 ∷ [])
    → ((c : ℕ) (cs : Text) → (c == 45) ≡ false → P (45 ∷ c ∷ cs)) → P dashes → ((x : ℕ) (xs : Text) → P (45 ∷ 45 ∷ x ∷ xs)) → (word : Text) → P word
by_form P empty plain alone short two long [] = empty
by_form P empty plain alone short two long (b ∷ bs) = at_number (λ c. P (c ∷ bs)) 45 b (behind_one P alone short two long bs) (plain b bs)

pub plain_is : (b : ℕ) (bs : Text) → (b == 45) ≡ false → IsPlain (b ∷ bs)
plain_is b bs other = record {
  dashes = rw other refl;
  long = rw other refl;
  short = rw other refl;
}

-- ---- words that are all names

pub trailing_agrees : (words : List Text) (waiting : Waiting) (position : ℕ) (h : Held) (m : Option Settings) → Stands h m → At position m
    → Ends (place true waiting position h) words (given_after m (Some (map script words)))
unfolding walk_fault
trailing_agrees [] waiting position h None stands at = end_agrees h None stands
trailing_agrees [] waiting position h (Some g) stands at = end_agrees h (Some g) stands
trailing_agrees (word ∷ rest) waiting position h m stands at =
    turned (place true waiting position h) (name_walk true waiting position h word) word rest (name_fault position h) (given_after m (Some (map script (word ∷ rest))))
    (trailing_fault waiting position h word) (trailing_walk waiting position h word)
    (subst (Agrees _ _) (sym (one_more m (script word) (Some (map script rest))))
    (name_agrees true waiting position h word rest m (Some (map script rest)) stands at (λ p n more s t. trailing_agrees rest idle p n more s t)))

-- ---- the spelling of an option

pub cut_before : (bs : Text) → before_first is_equals (45 ∷ bs) ≡ 45 ∷ before_first is_equals bs
cut_before bs =
    let next : 1 + position_or_len is_equals bs ≡ suc (position_or_len is_equals bs) = omega arith in
    ap (λ n. take n (45 ∷ bs)) next

cut_after : (bs : Text) → after_first is_equals (45 ∷ bs) ≡ after_first is_equals bs
cut_after bs =
    let next : (1 + position_or_len is_equals bs) + 1 ≡ suc (position_or_len is_equals bs + 1) = omega arith in
    ap (λ n. drop n (45 ∷ bs)) next

abbrev pub name_in : ℕ → Text → Text
name_in x xs = before_first is_equals (x ∷ xs)

abbrev pub value_in : ℕ → Text → Option Text
value_in x xs = behind_equals (x ∷ xs)

pub long_is : (x : ℕ) (xs : Text) → word_of (45 ∷ 45 ∷ x ∷ xs) ≡ option_spelt (45 ∷ 45 ∷ name_in x xs) (value_in x xs)
long_is x xs =
    let text = x ∷ xs in
    ap (λ name. option_spelt name (behind_equals (45 ∷ 45 ∷ text))) (cut_before (45 ∷ text) ∙ ap (λ name. 45 ∷ name) (cut_before text))
    ∙ ap (λ value. option_spelt (45 ∷ 45 ∷ before_first is_equals text) (cond (list_any is_equals text) (Some value) None)) (cut_after (45 ∷ text) ∙ cut_after text)

-- ---- the steps of the induction

abbrev Idle : List Text → Type 0
Idle words = (position : ℕ) (h : Held) (m : Option Settings) → Stands h m → At position m → has_short words ≡ false
    → Ends (place false idle position h) words (given_after m (uses_of None words))

abbrev Both : List Text → Type 0
Both words = Idle words × (has_short words ≡ false → Waits words)

both_end : Both []
unfolding walk_fault
both_end = (
  λ position h m stands at free. go h m stands,
  λ free name given position rows skip g is shows at. fault_agrees _ _ (fault_first _ _ (missing_fault name rows skip is.by)),
)
  where
    go : (h : Held) (m : Option Settings) → Stands h m → Agrees (end_fault h) (finished table h) (given_after m (Some []))
    go h None stands = end_agrees h None stands
    go h (Some g) stands = end_agrees h (Some g) stands

both_plain : (word : Text) (rest : List Text) → IsPlain word → begins_with_hyphen word ≡ false → is_short word ≡ false → Both rest → Both (word ∷ rest)
both_plain word rest plain hyphen short both =
    let rest_is : has_short (word ∷ rest) ≡ has_short rest = rw (plain.dashes, short) refl in
    let word_is : word_of word ≡ whole (script word) = rw (plain.dashes, hyphen) refl in (
      λ position h m stands at free.
          let uses = uses_of None rest in
          let same : given_after m (uses_of None (word ∷ rest)) ≡ given_after (option_and_then (with_use (script word)) m) uses =
          ap (λ w. given_after m (uses_from w rest (λ waits. uses_of waits rest))) word_is ∙ one_more m (script word) uses in
          turned (place false idle position h) (name_walk false idle position h word) word rest (name_fault position h) (given_after m (uses_of None (word ∷ rest)))
          (plain_fault position h word plain) (plain_walk position h word plain) (subst (Agrees _ _) (sym same)
          (name_agrees false idle position h word rest m uses stands at (λ p n more s t. both.0 p n more s t (sym rest_is ∙ free)))),
      λ free name given position rows skip g is shows at.
          let h = waiting_held name rows skip in
          let uses = uses_of None rest in
          let same : uses_of (Some given) (word ∷ rest) ≡ option_map (λ others. given word ∷ others) uses = rw hyphen refl in
          let next = after_step table word (place false (option name) position h) (plain_word table (option name) word h).0 (plain_word table (option name) word h).1 in
          turned (place false (option name) position h) next word rest [] (given_after (Some g) (uses_of (Some given) (word ∷ rest))) (value_fault name position h word plain) (value_walk name position h word plain)
          (subst (λ us. Ends next rest (given_after (Some g) us)) (sym same)
          (value_agrees name given position rows skip g word rest uses is shows at (λ p n more s t. both.0 p n more s t (sym rest_is ∙ free)))),
    )

both_dashes : (rest : List Text) → Both (dashes ∷ rest)
both_dashes rest = (
  λ position h m stands at free. turned (place false idle position h) (place true idle position h) dashes rest [] (given_after m (Some (map script rest)))
      (dashes_fault idle position h) (dashes_walk idle position h) (trailing_agrees rest idle position h m stands at),
  λ free name given position rows skip g is shows at.
      let h = waiting_held name rows skip in
      turned (place false (option name) position h) (place true (option name) position h) dashes rest [] None
      (dashes_fault (option name) position h) (dashes_walk (option name) position h)
      (trailing_agrees rest (option name) position h None (missing_fault name rows skip is.by) tt),
)

kind_setting : IsSetting (codes "kind") kind
kind_setting = record { by = kind_by_id; same = refl; of = kind_use }

jobs_setting : IsSetting (codes "jobs") jobs
jobs_setting = record { by = jobs_by_id; same = refl; of = jobs_use }

generate_setting : IsSetting (codes "generate") generate
generate_setting = record { by = generate_by_id; same = refl; of = generate_use }

long_agrees : (position : ℕ) (h : Held) (word : Text) (rest : List Text) (m : Option Settings) (name : Text) (value : Option Text) → Stands h m → At position m
    → Both rest → has_short rest ≡ false → LongAgrees position h word rest m value (rule_named name) (option_spelt (45 ∷ 45 ∷ name) value)
long_agrees position h word rest m name value stands at both free =
    let idly = λ (p : ℕ) (n : Held) (more : Option Settings) (s : Stands n more) (t : At p more). both.0 p n more s t free in
    picked (LongAgrees position h word rest m value) name (option_with_value kind value) (option_with_value jobs value) (option_with_value generate value)
    (flag drop_on_error value) (flag keep_on_abort value) (flag envelope value) (flag check value) refused
    (setting_agrees (codes "kind") kind position h word rest m value kind_setting stands at idly (both.1 free))
    (setting_agrees (codes "jobs") jobs position h word rest m value jobs_setting stands at idly (both.1 free))
    (setting_agrees (codes "generate") generate position h word rest m value generate_setting stands at idly (both.1 free))
    (flag_agrees (codes "drop-on-error") drop_on_error position h word rest m value drop_on_error_use stands at idly)
    (flag_agrees (codes "keep-on-abort") keep_on_abort position h word rest m value keep_on_abort_use stands at idly)
    (flag_agrees (codes "envelope") envelope position h word rest m value envelope_use stands at idly)
    (flag_agrees (codes "check") check position h word rest m value check_use stands at idly)
    tt

both_long : (x : ℕ) (xs : Text) (rest : List Text) → Both rest → Both ((45 ∷ 45 ∷ x ∷ xs) ∷ rest)
both_long x xs rest both =
    let word : Text = 45 ∷ 45 ∷ x ∷ xs in
    let name = name_in x xs in
    let value = value_in x xs in (
      λ position h m stands at free.
          let turn = long_turn idle position h word (rule_named name) value in
          let next = long_walk idle position h word (rule_named name) value in
          turned (place false idle position h) next word rest turn (given_after m (uses_of None (word ∷ rest)))
          (long_fault_is idle position h word name value refl refl ∙ ap (λ o. long_turn idle position h word o value) (by_long name))
          (long_walk_is idle position h word name value refl refl ∙ ap (λ o. long_walk idle position h word o value) (by_long name))
          (subst (Agrees _ _) (sym (ap (λ w. given_after m (uses_from w rest (λ waits. uses_of waits rest))) (long_is x xs)))
          (long_agrees position h word rest m name value stands at both free)),
      λ free id given position rows skip g is shows at.
          let h = waiting_held id rows skip in
          turned (place false (option id) position h) (long_walk (option id) position h word (arg_by_long table name) value) word rest
          (long_turn (option id) position h word (arg_by_long table name) value) None
          (long_fault_is (option id) position h word name value refl refl) (long_walk_is (option id) position h word name value refl refl)
          (refused_first (long_turn (option id) position h word (arg_by_long table name) value) _ _
          (fault_first _ _ (long_refused h (arg_by_long table name) value (missing_fault id rows skip is.by)))),
    )

both_short : (word : Text) (rest : List Text) → bytes_eq word dashes ≡ false → is_short word ≡ true → Both (word ∷ rest)
both_short word rest other short =
    let not_free : has_short (word ∷ rest) ≡ true = rw (other, short) refl in (
      λ position h m stands at free. absurd (true≢false (sym not_free ∙ free)),
      λ free. absurd (true≢false (sym not_free ∙ free)),
    )

pub both_agree : (words : List Text) → Both words
both_agree [] = both_end
both_agree (word ∷ rest) =
    let both = both_agree rest in
    by_form (λ w. Both (w ∷ rest)) (both_plain [] rest (record { dashes = refl; long = refl; short = refl }) refl refl both)
    (λ b bs other. both_plain (b ∷ bs) rest (plain_is b bs other) other (rw other refl) both)
    (both_short (45 ∷ []) rest refl refl)
    (λ c cs other. both_short (45 ∷ c ∷ cs) rest (rw other refl) (rw other refl))
    (both_dashes rest)
    (λ x xs. both_long x xs rest both)
    word
