-- What the words mean where an option with one hyphen stands among them, and what holds of each meaning.
use Rattle.std.proofs.Common.{◌≡◌, ◌∙◌, ◌≤◌, ◌==◌, ◌&&◌, ◌⊎◌, ℕ, Bool, cond, true, false, refl, sym, ap, subst, arith, inl, inr, List, [], ◌∷◌, length, Option, Some, None, Result, Ok, Err, IfErr, IfOk, IsSomeAnd, true≢false, nat_le, nat_lt, zero, suc, take, unwrap_or}
use Rattle.std.specs.Prelude.{is_ok, is_some, option_and_then}
use Rattle.std.specs.List.{after_first, before_first, position_or_len}
use Rattle.std.specs.Option.{option_map}
use Rattle.std.specs.Str.{all_ascii_digits, bytes_eq}
use Rattle.std.specs.Str.Parse.{digits_value}
use Rattle.std.proofs.lemmas.Bool.{eqb-false, leb-true}
use Rattle.std.proofs.lemmas.Bool.Decides.{eqb_tells}
use Rattle.clap.specs.Walk.{Text}
use Rattle.clap.specs.declared.parser.matches.ArgMatches.{ArgMatches}
use Rattle.remap_words.specs.Numbers.{number_in}
use Rattle.remap_words.specs.Command.{AreMatchesOf, IsAnswer, fault_by}
use Rattle.remap_words.specs.Uses.{Use, begins_with_hyphen, behind_equals, check, drop_on_error, envelope, flag, generate, has_short, is_equals, is_short, jobs, keep_on_abort, kind, option_spelt, option_with_value, refused, script, uses_from, uses_of, whole, word_of}
use Rattle.remap_words.specs.View.{IsInBounds, IsModeInBounds, invocation_of}
use Rattle.remap_words.specs.Words as words
use Rattle.remap_words.specs.Words.{Settings, Invocation, Mode, given_of, invocation_given, jobs_of, kind_file_of, mode_of, name_of, nothing_given, with_uses, words_mean}
use Rattle.remap_words.specs.declared.invocation.Invocation.{Invocation as Read}
use Rattle.remap_words.specs.declared.invocation.WordsFault.{WordsFault}
use Rattle.remap_words.specs.declared.invocation.WordsFault.TheVariants.{Memory, Refused}
use Rattle.clap.specs.Values as clap
use Rattle.clap.specs.declared.error.Error.{Error}
use Rattle.clap.specs.declared.error.kind.ErrorKind.TheVariants.{OutOfMemory}
use Rattle.remap_words.proofs.Table.{picked}
use Rattle.remap_words.proofs.Turns.{IsPlain, dashes}
use Rattle.remap_words.proofs.Reading.{by_form, cut_before, long_is, name_in, plain_is, value_in}

-- ---- options with one hyphen

abbrev Nothing : List Text → Type 0
Nothing words = (uses_of None words ≡ None) × ((given : Text → Use) → uses_of (Some given) words ≡ None)

abbrev Refuses : List Text → Type 0
Refuses words = has_short words ≡ true → Nothing words

plain_refuses : (word : Text) (rest : List Text) → IsPlain word → begins_with_hyphen word ≡ false → is_short word ≡ false → Refuses rest → Refuses (word ∷ rest)
plain_refuses word rest plain hyphen short refuses has =
    let rest_is : has_short (word ∷ rest) ≡ has_short rest = rw (plain.dashes, short) refl in
    let word_is : word_of word ≡ whole (script word) = rw (plain.dashes, hyphen) refl in
    let none = (refuses (sym rest_is ∙ has)).0 in (
      ap (λ w. uses_from w rest (λ waits. uses_of waits rest)) word_is ∙ ap (λ us. option_map (λ others. script word ∷ others) us) none,
      λ given. rw hyphen (ap (λ us. option_map (λ others. given word ∷ others) us) none),
    )

other_way : (b : ℕ) → (b == 45) ≡ false → (45 == b) ≡ false
other_way b other = elim (eqb_tells 45 b) [
  | inl same ↦ absurd (eqb-false b 45 other (sym same.1))
  | inr apart ↦ apart.0
]

-- one hyphen spells no option
no_spelling : (bs : Text) (value : Option Text) → begins_with_hyphen bs ≡ false → option_spelt (45 ∷ bs) value ≡ refused
no_spelling [] value other = refl
no_spelling (c ∷ cs) value other = rw (other_way c other) refl

front_begins : (n : ℕ) (bs : Text) → begins_with_hyphen bs ≡ false → begins_with_hyphen (take n bs) ≡ false
front_begins zero [] other = refl
front_begins zero (c ∷ cs) other = refl
front_begins (suc n) [] other = refl
front_begins (suc n) (c ∷ cs) other = other

no_dashes : (bs : Text) → begins_with_hyphen bs ≡ false → bytes_eq (45 ∷ bs) dashes ≡ false
no_dashes [] other = refl
no_dashes (c ∷ cs) other = rw other refl

short_is : (bs : Text) → begins_with_hyphen bs ≡ false → word_of (45 ∷ bs) ≡ refused
short_is bs other =
    rw (no_dashes bs other) (ap (λ spelling. option_spelt spelling (behind_equals (45 ∷ bs))) (cut_before bs)
    ∙ no_spelling (before_first is_equals bs) (behind_equals (45 ∷ bs)) (front_begins (position_or_len is_equals bs) bs other))

short_refuses : (bs : Text) (rest : List Text) → begins_with_hyphen bs ≡ false → Refuses ((45 ∷ bs) ∷ rest)
short_refuses bs rest other has = (ap (λ w. uses_from w rest (λ waits. uses_of waits rest)) (short_is bs other), λ given. refl)

long_refuses : (x : ℕ) (xs : Text) (rest : List Text) → Refuses rest → Refuses ((45 ∷ 45 ∷ x ∷ xs) ∷ rest)
long_refuses x xs rest refuses has =
    let none = refuses has in (
      ap (λ w. uses_from w rest (λ waits. uses_of waits rest)) (long_is x xs)
          ∙ picked (λ found w. uses_from w rest (λ waits. uses_of waits rest) ≡ None) (name_in x xs) (option_with_value kind (value_in x xs)) (option_with_value jobs (value_in x xs))
          (option_with_value generate (value_in x xs)) (flag drop_on_error (value_in x xs)) (flag keep_on_abort (value_in x xs)) (flag envelope (value_in x xs)) (flag check (value_in x xs)) refused
          (by_value kind (value_in x xs) none) (by_value jobs (value_in x xs) none) (by_value generate (value_in x xs) none)
          (by_flag drop_on_error (value_in x xs) none) (by_flag keep_on_abort (value_in x xs) none) (by_flag envelope (value_in x xs) none) (by_flag check (value_in x xs) none) refl,
      λ given. refl,
    )
  where
    by_value : (given : Text → Use) (value : Option Text) → Nothing rest → uses_from (option_with_value given value) rest (λ waits. uses_of waits rest) ≡ None
    by_value given None none = none.1 given
    by_value given (Some v) none = ap (λ us. option_map (λ others. given v ∷ others) us) none.0

    by_flag : (u : Use) (value : Option Text) → Nothing rest → uses_from (flag u value) rest (λ waits. uses_of waits rest) ≡ None
    by_flag u None none = ap (λ us. option_map (λ others. u ∷ others) us) none.0
    by_flag u (Some v) none = refl

all_refuse : (words : List Text) → Refuses words
all_refuse [] = λ has. absurd (true≢false (sym has))
all_refuse (word ∷ rest) =
    let refuses = all_refuse rest in
    by_form (λ w. Refuses (w ∷ rest)) (plain_refuses [] rest (record { dashes = refl; long = refl; short = refl }) refl refl refuses)
    (λ b bs other. plain_refuses (b ∷ bs) rest (plain_is b bs other) other (rw other refl) refuses)
    (short_refuses [] rest refl)
    (λ c cs other. short_refuses (c ∷ cs) rest other)
    (λ has. absurd (true≢false (sym has)))
    (λ x xs. long_refuses x xs rest refuses)
    word

pub short_refused : (words : List Text) → has_short words ≡ true → words_mean words ≡ None
short_refused words has = ap (λ us. option_and_then invocation_given (option_and_then (λ uses. with_uses uses nothing_given) us)) (all_refuse words has).0

-- ---- the answer

ok≢err : {X E : Type 0} {x : X} {e : E} → Ok x ≡ Err e → ⊥
ok≢err same = true≢false (ap (λ r. is_ok r) same)

abbrev is_memory : Result Read WordsFault → Bool
is_memory (Err Memory) = true
is_memory _ = false

memory≢refused : ◌≡◌ {A = Result Read WordsFault} (Err Memory) (Err Refused) → ⊥
memory≢refused same = true≢false (ap is_memory same)

read_given : (given : Option Settings) (m : ArgMatches) (answer : Result Read WordsFault) → IsSomeAnd given (λ g. AreMatchesOf g m)
    → ((g : Settings) → AreMatchesOf g m → IsAnswer (invocation_given g) answer) → IsAnswer (option_and_then invocation_given given) answer
read_given None m answer told answers = absurd told
read_given (Some g) m answer told answers = answers g told

answer_read : (meaning : Option Invocation) (answer : Result Read WordsFault) → IsAnswer meaning answer → IfOk answer (λ i. meaning ≡ Some (invocation_of i))
answer_read (Some i) (Ok read) is = ap (λ x. Some x) (sym is)
answer_read (Some i) (Err fault) is = tt
answer_read None (Ok read) is = absurd is
answer_read None (Err fault) is = tt

answer_refused : (meaning : Option Invocation) (answer : Result Read WordsFault) → IsAnswer meaning answer → answer ≡ Err Refused → meaning ≡ None
answer_refused (Some i) (Ok read) is none = absurd (ok≢err none)
answer_refused (Some i) (Err fault) is none = absurd is
answer_refused None answer is none = refl

pub words_read : (words : List Text) (parsed : Result ArgMatches Error) (answer : Result Read WordsFault)
    → IfOk parsed (λ m. IsSomeAnd (given_of words) (λ g. AreMatchesOf g m))
    → IfOk parsed (λ m. (g : Settings) → AreMatchesOf g m → IsAnswer (invocation_given g) answer) → IfErr parsed (λ e. answer ≡ Err (fault_by (clap.kind_of e)))
    → IfOk answer (λ i. words_mean words ≡ Some (invocation_of i))
words_read words (Ok m) answer told answers fails = answer_read (words_mean words) answer (read_given (given_of words) m answer told answers)
words_read words (Err e) answer told answers fails = subst (λ r. IfOk r (λ i. words_mean words ≡ Some (invocation_of i))) (sym fails) tt

pub words_refused : (words : List Text) (parsed : Result ArgMatches Error) (answer : Result Read WordsFault)
    → IfOk parsed (λ m. IsSomeAnd (given_of words) (λ g. AreMatchesOf g m)) → IfErr parsed (λ e. (clap.kind_of e ≡ OutOfMemory) ⊎ (words_mean words ≡ None))
    → IfOk parsed (λ m. (g : Settings) → AreMatchesOf g m → IsAnswer (invocation_given g) answer) → IfErr parsed (λ e. answer ≡ Err (fault_by (clap.kind_of e)))
    → answer ≡ Err Refused → words_mean words ≡ None
words_refused words (Ok m) answer told refuses answers fails none = answer_refused (words_mean words) answer (read_given (given_of words) m answer told answers) none
words_refused words (Err e) answer told refuses answers fails none = elim refuses [
  | inl memory ↦ absurd (memory≢refused (sym (fails ∙ ap (λ k. Err (fault_by k)) memory) ∙ none))
  | inr nothing ↦ nothing
]

-- ---- bounds

some≢none : {X : Type 0} (x : X) → Some x ≡ None → ⊥
some≢none x e = true≢false (ap (λ o. is_some o) e)

number_bounds : (most low high : ℕ) (text : Text) (n : ℕ) → number_in most low high text ≡ Some n → (low ≤ n) × (n ≤ high)
number_bounds most low high text n is =
    go (nat_lt 0 (length text)) (nat_le (length text) most) (all_ascii_digits text) (nat_le low (digits_value 10 text)) (nat_le (digits_value 10 text) high) refl refl is
  where
    go : (a b c d e : Bool) → nat_le low (digits_value 10 text) ≡ d → nat_le (digits_value 10 text) high ≡ e
        → cond (a && (b && (c && (d && e)))) (Some (digits_value 10 text)) None ≡ Some n → (low ≤ n) × (n ≤ high)
    go true true true true true least most is =
        let same : digits_value 10 text ≡ n = ap (λ o. unwrap_or o n) is in
        let from : low ≤ digits_value 10 text = leb-true _ _ least in
        let up_to : digits_value 10 text ≤ high = leb-true _ _ most in
        (omega (arith, same, from), omega (arith, same, up_to))
    go false b c d e least most is = absurd (some≢none n (sym is))
    go true false c d e least most is = absurd (some≢none n (sym is))
    go true true false d e least most is = absurd (some≢none n (sym is))
    go true true true false e least most is = absurd (some≢none n (sym is))
    go true true true true false least most is = absurd (some≢none n (sym is))

made_bounds : (text : Text) (mode : Mode) → words.generate_of text ≡ Some mode → IsModeInBounds mode
made_bounds text mode is = go (number_in 7 1 1000000 (before_first words.is_colon text)) (number_in 10 0 4294967295 (after_first words.is_colon text))
    (number_bounds 7 1 1000000 (before_first words.is_colon text)) (number_bounds 10 0 4294967295 (after_first words.is_colon text)) is
  where
    go : (c s : Option ℕ) → ((n : ℕ) → c ≡ Some n → (1 ≤ n) × (n ≤ 1000000)) → ((n : ℕ) → s ≡ Some n → (0 ≤ n) × (n ≤ 4294967295))
        → option_and_then (λ count. option_map (words.generate count) s) c ≡ Some mode → IsModeInBounds mode
    go None s at_count at_seed is = absurd (some≢none mode (sym is))
    go (Some count) None at_count at_seed is = absurd (some≢none mode (sym is))
    go (Some count) (Some seed) at_count at_seed is =
        let counted = at_count count refl in
        let seeded : seed ≤ 4294967295 = (at_seed seed refl).1 in
        subst IsModeInBounds (ap (λ o. unwrap_or o mode) is) (counted.0, counted.1, omega (arith, seeded))

mode_bounds : (checked enclosed : Bool) (text : Option Text) (mode : Mode) → mode_of checked enclosed text ≡ Some mode → IsModeInBounds mode
mode_bounds false enclosed None mode is = subst IsModeInBounds (ap (λ o. unwrap_or o mode) is) tt
mode_bounds true enclosed None mode is = subst IsModeInBounds (ap (λ o. unwrap_or o mode) is) tt
mode_bounds false false (Some text) mode is = made_bounds text mode is
mode_bounds false true (Some text) mode is = absurd (some≢none mode (sym is))
mode_bounds true enclosed (Some text) mode is = absurd (some≢none mode (sym is))

jobs_bounds : (text : Option Text) (n : ℕ) → jobs_of text ≡ Some n → (1 ≤ n) × (n ≤ 32)
jobs_bounds None n is =
    let same : 1 ≡ n = ap (λ o. unwrap_or o n) is in
    (omega (arith, same), omega (arith, same))
jobs_bounds (Some text) n is = number_bounds 2 1 32 text n is

given_in_bounds : (g : Settings) (i : Invocation) → invocation_given g ≡ Some i → IsInBounds i
given_in_bounds g i is = go (option_and_then name_of g.script) (kind_file_of g.kind) (jobs_of g.jobs) (mode_of g.check g.envelope g.generate)
    (jobs_bounds g.jobs) (mode_bounds g.check g.envelope g.generate) is
  where
    go : (s : Option Text) (k : Option (Option Text)) (j : Option ℕ) (m : Option Mode) → ((n : ℕ) → j ≡ Some n → (1 ≤ n) × (n ≤ 32))
        → ((mode : Mode) → m ≡ Some mode → IsModeInBounds mode)
        → option_and_then (λ script. option_and_then (λ kind. option_and_then (λ jobs. option_map (λ mode. record {
          script = script;
          kind = kind;
          jobs = jobs;
          drop_on_error = g.drop_on_error;
          keep_on_abort = g.keep_on_abort;
          envelope = g.envelope;
          mode = mode;
        }) m) j) k) s ≡ Some i
        → IsInBounds i
    go None k j m at_jobs at_mode is = absurd (some≢none i (sym is))
    go (Some s) None j m at_jobs at_mode is = absurd (some≢none i (sym is))
    go (Some s) (Some k) None m at_jobs at_mode is = absurd (some≢none i (sym is))
    go (Some s) (Some k) (Some n) None at_jobs at_mode is = absurd (some≢none i (sym is))
    go (Some s) (Some k) (Some n) (Some mode) at_jobs at_mode is =
        let workers = at_jobs n refl in
        subst IsInBounds (ap (λ o. unwrap_or o i) is) (record { least_jobs = workers.0; most_jobs = workers.1; mode = at_mode mode refl })

pub means_in_bounds : (words : List Text) (i : Invocation) → words_mean words ≡ Some i → IsInBounds i
means_in_bounds words i is = go (given_of words) is
  where
    go : (o : Option Settings) → option_and_then invocation_given o ≡ Some i → IsInBounds i
    go None e = absurd (some≢none i (sym e))
    go (Some g) e = given_in_bounds g i e
