-- What jiff's strftime shows under a format of the eight conversions rests on the seven parts alone, and is a text.
use Rattle.std.proofs.Common.{◌≡◌, ℕ, zero, suc, ◌-◌, ◌/◌, ◌%◌, ◌^◌, ◌<◌, ◌≤◌, ◌==◌, nat_le, nat_lt, Bool, true, false, List, [], ◌∷◌, ◌++◌, length, take, drop, Some, Ok, refl, sym, ap, subst, ◌∙◌, arith, eqb-true, pos, unsigned_abs, min, int_le, if◌then◌else◌}
use Rattle.std.specs.Prelude.{replicate, decimal}
use Rattle.std.proofs.lemmas.Bool.{and_parts, true≢false}
use Rattle.std.proofs.lemmas.Bool.Decides.{nat_tests}
use Rattle.std.proofs.lemmas.Fmt.{IsAscii-decimal}
use Rattle.std.proofs.lemmas.Int.{ints}
use Rattle.std.proofs.lemmas.Str.{IsAscii-append, IsUtf8-append, IsUtf8-from_ascii, IsUtf8-from_is_utf8}
use Rattle.std.proofs.lemmas.Str.Ascii.{IsAscii-nil}
use Rattle.std.specs.Str.{is_utf8, IsAscii, IsUtf8}
use lib.Utf8.{encode}
use Rattle.jiff_core.specs.declared.error.Error.{Error}
use Rattle.jiff_strtime.specs.Directive.{plain}
use Rattle.jiff_strtime.specs.Number.{match_result}
use Rattle.jiff_strtime.specs.Show.{char_text, directive_text, int_text, is_char, last_text, offset_text, padded, percent_text, rest_text, sequence_len, show_steps, step_text, text_of, Context, Turn}
use Rattle.jiff_strtime.specs.declared.directive.Config.{Config}
use Rattle.jiff_strtime.proofs.ShowLemmas.{steps_go, steps_zero}
use Rattle.fn_time.specs.Format.{is_known}
use Rattle.fn_time.proofs.Characters.{character_is_plain, known_behind}
use Rattle.fn_time.proofs.Letters.{known_from}
use Rattle.fn_time.proofs.Steps.{by_letter, letter_is, some_left, IsBare}

-- the seven parts are those of a clock in UTC
pub record Shows (year month day hour minute second : ℕ) (cx : Context) : Type 0 where
  pub year_is : cx.parts.year ≡ Some (pos year)
  pub month_is : cx.parts.month ≡ Some month
  pub day_is : cx.parts.day ≡ Some day
  pub hour_is : cx.parts.hour ≡ Some hour
  pub minute_is : cx.parts.minute ≡ Some minute
  pub second_is : cx.parts.second ≡ Some second
  pub offset_is : cx.parts.offset ≡ Some (pos 0)

pub record AreSmall (year month day hour minute second : ℕ) : Type 0 where
  pub year_in : year < 2 ^ 64
  pub month_in : month < 2 ^ 64
  pub day_in : day < 2 ^ 64
  pub hour_in : hour < 2 ^ 64
  pub minute_in : minute < 2 ^ 64
  pub second_in : second < 2 ^ 64

-- ---- numbers

ascii_cons : (b : ℕ) (bs : List ℕ) → b < 128 → IsAscii bs → IsAscii (b ∷ bs)
ascii_cons b bs low rest zero = low
ascii_cons b bs low rest (suc i) = rest i

ascii_replicate : (k b : ℕ) → b < 128 → IsAscii (replicate k b)
ascii_replicate zero b low = IsAscii-nil
ascii_replicate (suc k) b low = ascii_cons b (replicate k b) low (ascii_replicate k b low)

padded_is_ascii : (n width : ℕ) → n < 2 ^ 64 → IsAscii (padded n 48 width)
padded_is_ascii n width small = IsAscii-append (replicate (min width 20 - length (decimal n)) 48) (decimal n) (ascii_replicate (min width 20 - length (decimal n)) 48 (omega arith)) (IsAscii-decimal n small)

padded_is_text : (n width : ℕ) → n < 2 ^ 64 → IsUtf8 (padded n 48 width)
padded_is_text n width small = IsUtf8-from_ascii (padded n 48 width) (padded_is_ascii n width small)

natural : (n : ℕ) → int_le (pos 0) (pos n) ≡ true
natural n = grind (arith, ints)

natural_text : (width n : ℕ) → int_text plain 48 width (pos n) ≡ padded n 48 width
natural_text width n = rw (natural n) refl

-- ---- the letters

-- a conversion shows the same of two contexts, a text
pub record LetterShows (config : Config) (a b : Context) (letter : ℕ) : Type 0 where
  pub text : List ℕ
  pub first : directive_text config letter plain a ≡ Ok text
  pub second : directive_text config letter plain b ≡ Ok text
  pub utf8 : IsUtf8 text

sign_shown : (config : Config) (cx : Context) → directive_text config 37 plain cx ≡ Ok (37 ∷ [])
unfolding directive_text text_of
sign_shown config cx = refl

year_shown : (config : Config) (cx : Context) (n : ℕ) → cx.parts.year ≡ Some (pos n) → directive_text config 89 plain cx ≡ Ok (padded n 48 4)
unfolding directive_text text_of
year_shown config cx n is = rw is (ap Ok (natural_text 4 n))

month_shown : (config : Config) (cx : Context) (n : ℕ) → cx.parts.month ≡ Some n → directive_text config 109 plain cx ≡ Ok (padded n 48 2)
unfolding directive_text text_of
month_shown config cx n is = rw is (ap Ok (natural_text 2 n))

day_shown : (config : Config) (cx : Context) (n : ℕ) → cx.parts.day ≡ Some n → directive_text config 100 plain cx ≡ Ok (padded n 48 2)
unfolding directive_text text_of
day_shown config cx n is = rw is (ap Ok (natural_text 2 n))

hour_shown : (config : Config) (cx : Context) (n : ℕ) → cx.parts.hour ≡ Some n → directive_text config 72 plain cx ≡ Ok (padded n 48 2)
unfolding directive_text text_of
hour_shown config cx n is = rw is (ap Ok (natural_text 2 n))

minute_shown : (config : Config) (cx : Context) (n : ℕ) → cx.parts.minute ≡ Some n → directive_text config 77 plain cx ≡ Ok (padded n 48 2)
unfolding directive_text text_of
minute_shown config cx n is = rw is (ap Ok (natural_text 2 n))

second_shown : (config : Config) (cx : Context) (n : ℕ) → cx.parts.second ≡ Some n → directive_text config 83 plain cx ≡ Ok (padded n 48 2)
unfolding directive_text text_of
second_shown config cx n is = rw is (ap Ok (natural_text 2 n))

offset_shown : (config : Config) (cx : Context) → cx.parts.offset ≡ Some (pos 0) → directive_text config 122 plain cx ≡ Ok (offset_text (pos 0) false true false)
unfolding directive_text text_of
offset_shown config cx is = rw is refl

zero_offset : IsUtf8 (offset_text (pos 0) false true false)
zero_offset =
    let hours = unsigned_abs (pos 0) / 3600 in
    let minutes = unsigned_abs (pos 0) / 60 % 60 in
    let seconds = unsigned_abs (pos 0) % 60 in
    IsUtf8-from_ascii (offset_text (pos 0) false true false)
    (ascii_cons 43 (padded hours 48 2 ++ rest_text false true false minutes seconds) (omega arith)
    (IsAscii-append (padded hours 48 2) (rest_text false true false minutes seconds) (padded_is_ascii hours 2 (omega arith))
    (IsAscii-append (padded minutes 48 2) (last_text false false seconds) (padded_is_ascii minutes 2 (omega arith)) IsAscii-nil)))

pub letter_shows : (config : Config) (y m d h mi s : ℕ) (a b : Context) → AreSmall y m d h mi s → Shows y m d h mi s a → Shows y m d h mi s b → (letter : ℕ) → is_known letter ≡ true → LetterShows config a b letter
letter_shows config y m d h mi s a b small one other letter known =
    by_letter (LetterShows config a b) letter known
    (record { text = 37 ∷ []; first = sign_shown config a; second = sign_shown config b; utf8 = IsUtf8-from_ascii (37 ∷ []) (ascii_cons 37 [] (omega arith) IsAscii-nil) })
    (record { text = padded y 48 4; first = year_shown config a y one.year_is; second = year_shown config b y other.year_is; utf8 = padded_is_text y 4 small.year_in })
    (record { text = padded m 48 2; first = month_shown config a m one.month_is; second = month_shown config b m other.month_is; utf8 = padded_is_text m 2 small.month_in })
    (record { text = padded d 48 2; first = day_shown config a d one.day_is; second = day_shown config b d other.day_is; utf8 = padded_is_text d 2 small.day_in })
    (record { text = padded h 48 2; first = hour_shown config a h one.hour_is; second = hour_shown config b h other.hour_is; utf8 = padded_is_text h 2 small.hour_in })
    (record { text = padded mi 48 2; first = minute_shown config a mi one.minute_is; second = minute_shown config b mi other.minute_is; utf8 = padded_is_text mi 2 small.minute_in })
    (record { text = padded s 48 2; first = second_shown config a s one.second_is; second = second_shown config b s other.second_is; utf8 = padded_is_text s 2 small.second_in })
    (record { text = offset_text (pos 0) false true false; first = offset_shown config a one.offset_is; second = offset_shown config b other.offset_is; utf8 = zero_offset })

-- ---- a step

-- a step shows the same of two contexts, a text, and leaves a format of the eight conversions
record StepShows (config : Config) (a b : Context) (format : List ℕ) : Type 0 where
  text : List ℕ
  after : List ℕ
  first : step_text config format a ≡ Ok (text, after)
  second : step_text config format b ≡ Ok (text, after)
  utf8 : IsUtf8 text
  known : known_from false after ≡ true

percent_is : (config : Config) (c : ℕ) (cs text : List ℕ) (cx : Context) → IsBare c → directive_text config c plain cx ≡ Ok text → percent_text config (c ∷ cs) cx ≡ Ok (text, cs)
percent_is config c cs text cx bare shown = rw (bare.bare cs, bare.dot, shown) refl

either_way : (b : Bool) (turn : Turn) (t : List ℕ × List ℕ) (other : Error → Turn) → turn ≡ Ok t → (if b then match_result turn (λ t. Ok t) other else turn) ≡ Ok t
either_way true turn t other is = rw is refl
either_way false turn t other is = is

sign_step : (config : Config) (c : ℕ) (cs text : List ℕ) (cx : Context) → IsBare c → directive_text config c plain cx ≡ Ok text → step_text config (37 ∷ c ∷ cs) cx ≡ Ok (text, cs)
sign_step config c cs text cx bare shown =
    rw (some_left (suc (length cs)), some_left (length cs)) (either_way config.lenient (percent_text config (c ∷ cs) cx) (text, cs) (λ e. Ok (37 ∷ [], c ∷ cs)) (percent_is config c cs text cx bare shown))

ascii_step : (config : Config) (b : ℕ) (bs : List ℕ) (cx : Context) → (b == 37) ≡ false → nat_lt b 128 ≡ true → step_text config (b ∷ bs) cx ≡ Ok (b ∷ [], bs)
ascii_step config b bs cx other low = rw (some_left (length bs), other, low) refl

high_step : (config : Config) (b : ℕ) (bs : List ℕ) (cx : Context) → (b == 37) ≡ false → nat_lt b 128 ≡ false → step_text config (b ∷ bs) cx ≡ char_text config (b ∷ bs)
high_step config b bs cx other high = rw (some_left (length bs), other, high) refl

-- a character, or the stand-in for a byte that begins none
record CharacterShows (config : Config) (b : ℕ) (bs : List ℕ) : Type 0 where
  text : List ℕ
  after : List ℕ
  shown : char_text config (b ∷ bs) ≡ Ok (text, after)
  utf8 : IsUtf8 text
  known : known_from false after ≡ true

stand_in : IsUtf8 (239 ∷ 191 ∷ 189 ∷ [])
unfolding encode
stand_in = (65533 ∷ [], (refl, refl))

character_at : (config : Config) (b : ℕ) (bs : List ℕ) (is : Bool) → is_char (b ∷ bs) (sequence_len b) ≡ is → config.lenient ≡ true → (b == 37) ≡ false → 128 ≤ b → known_from false (b ∷ bs) ≡ true → CharacterShows config b bs
character_at config b bs true is lenient other high known =
    let k = sequence_len b in
    let utf8 : IsUtf8 (take k (b ∷ bs)) = IsUtf8-from_is_utf8 (take k (b ∷ bs)) (and_parts (nat_le k (length (b ∷ bs))) (is_utf8 (take k (b ∷ bs))) is).1 in
    record { text = take k (b ∷ bs); after = drop k (b ∷ bs); shown = rw is refl; utf8 = utf8; known = sym (known_behind k (b ∷ bs) (character_is_plain b bs high utf8)) ∙ known }
character_at config b bs false is lenient other high known =
    record { text = 239 ∷ 191 ∷ 189 ∷ []; after = bs; shown = rw (is, lenient) refl; utf8 = stand_in; known = subst (λ sign. known_from sign bs ≡ true) other known }

high_from : (b : ℕ) → nat_lt b 128 ≡ false → 128 ≤ b
high_from b is = grind (arith, nat_tests)

low_from : (b : ℕ) → nat_lt b 128 ≡ true → b < 128
low_from b is = grind (arith, nat_tests)

plain_step : (config : Config) (a b : Context) (byte : ℕ) (bs : List ℕ) (low : Bool) → nat_lt byte 128 ≡ low → config.lenient ≡ true → (byte == 37) ≡ false → known_from false (byte ∷ bs) ≡ true → StepShows config a b (byte ∷ bs)
plain_step config a b byte bs true is lenient other known = record {
  text = byte ∷ [];
  after = bs;
  first = ascii_step config byte bs a other is;
  second = ascii_step config byte bs b other is;
  utf8 = IsUtf8-from_ascii (byte ∷ []) (ascii_cons byte [] (low_from byte is) IsAscii-nil);
  known = subst (λ sign. known_from sign bs ≡ true) other known;
}
plain_step config a b byte bs false is lenient other known =
    let character = character_at config byte bs (is_char (byte ∷ bs) (sequence_len byte)) refl lenient other (high_from byte is) known in
    record {
      text = character.text;
      after = character.after;
      first = high_step config byte bs a other is ∙ character.shown;
      second = high_step config byte bs b other is ∙ character.shown;
      utf8 = character.utf8;
      known = character.known;
    }

abbrev LettersShow : Config → Context → Context → Type 0
LettersShow config a b = (letter : ℕ) → is_known letter ≡ true → LetterShows config a b letter

conversion_step : (config : Config) (a b : Context) (bs : List ℕ) → LettersShow config a b → known_from false (37 ∷ bs) ≡ true → StepShows config a b (37 ∷ bs)
conversion_step config a b [] letters known = absurd (true≢false (sym known))
conversion_step config a b (c ∷ cs) letters known =
    let both = and_parts (is_known c) (known_from false cs) known in
    let shown = letters c both.0 in
    record {
      text = shown.text;
      after = cs;
      first = sign_step config c cs shown.text a (letter_is c both.0) shown.first;
      second = sign_step config c cs shown.text b (letter_is c both.0) shown.second;
      utf8 = shown.utf8;
      known = both.1;
    }

any_step : (config : Config) (a b : Context) (byte : ℕ) (bs : List ℕ) (sign : Bool) → (byte == 37) ≡ sign → config.lenient ≡ true → LettersShow config a b → known_from false (byte ∷ bs) ≡ true → StepShows config a b (byte ∷ bs)
any_step config a b byte bs true same lenient letters known =
    let is : byte ≡ 37 = eqb-true byte 37 same in
    subst (λ x. StepShows config a b (x ∷ bs)) (sym is) (conversion_step config a b bs letters (subst (λ x. known_from false (x ∷ bs) ≡ true) is known))
any_step config a b byte bs false other lenient letters known = plain_step config a b byte bs (nat_lt byte 128) refl lenient other known

-- ---- a format

-- a format shows the same of two contexts behind what was shown before, a text
pub record FormatShows (config : Config) (a b : Context) (fuel : ℕ) (format shown : List ℕ) : Type 0 where
  pub text : List ℕ
  pub first : show_steps fuel config format a shown ≡ Ok text
  pub second : show_steps fuel config format b shown ≡ Ok text
  pub utf8 : IsUtf8 text

none_is_text : IsUtf8 []
none_is_text = IsUtf8-from_ascii [] IsAscii-nil

pub format_shows : (config : Config) (a b : Context) → config.lenient ≡ true → LettersShow config a b → (fuel : ℕ) (format shown : List ℕ) → known_from false format ≡ true → IsUtf8 shown → FormatShows config a b fuel format shown
format_shows config a b lenient letters zero format shown known utf8 =
    record { text = shown; first = steps_zero config format a shown; second = steps_zero config format b shown; utf8 = utf8 }
format_shows config a b lenient letters (suc fuel) [] shown known utf8 =
    let rest = format_shows config a b lenient letters fuel [] (shown ++ []) known (IsUtf8-append shown [] utf8 none_is_text) in
    record { text = rest.text; first = steps_go fuel config [] [] a shown [] refl ∙ rest.first; second = steps_go fuel config [] [] b shown [] refl ∙ rest.second; utf8 = rest.utf8 }
format_shows config a b lenient letters (suc fuel) (byte ∷ bs) shown known utf8 =
    let step = any_step config a b byte bs (byte == 37) refl lenient letters known in
    let rest = format_shows config a b lenient letters fuel step.after (shown ++ step.text) step.known (IsUtf8-append shown step.text utf8 step.utf8) in
    record {
      text = rest.text;
      first = steps_go fuel config (byte ∷ bs) step.after a shown step.text step.first ∙ rest.first;
      second = steps_go fuel config (byte ∷ bs) step.after b shown step.text step.second ∙ rest.second;
      utf8 = rest.utf8;
    }
