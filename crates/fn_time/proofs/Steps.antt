-- What jiff's strptime leaves of the parts under a format of the seven parts, conversion by conversion.
use Rattle.std.proofs.Common.{◌≡◌, ℕ, suc, ◌+◌, ◌*◌, ◌==◌, ◌&&◌, ◌||◌, nat_lt, Bool, true, false, List, ◌∷◌, length, drop, min, Option, Some, None, is_some, Ok, Err, ℤ, pos, neg_ℤ, unsigned_abs, arith, refl, sym, ap, subst, if◌then◌else◌}
use Rattle.jiff_core.specs.declared.error.Error.{Error}
use Rattle.jiff_core.specs.declared.error.Error.TheVariants.{Parse}
use Rattle.jiff_core.specs.declared.error.Syntax.TheVariants.{Empty, Offset}
use Rattle.jiff_strtime.specs.Directive.{plain, colon_rest, read_extension, read_flag}
use Rattle.jiff_strtime.specs.Number.{Read, match_some, match_result}
use Rattle.jiff_strtime.specs.Reader.{Step, no_minutes, offset_of, offset_sign, part_found, two_digits, read_directive, read_simple, read_step, read_year, set_hour, then_read, turn_of, total_offset}
use Rattle.jiff_strtime.specs.Text.{Parts, no_parts}
use Rattle.std.proofs.Common.{eqb-true}
use Rattle.std.proofs.lemmas.Bool.{true≢false}
use Rattle.std.proofs.lemmas.Bool.Decides.{nat_tests}
use Rattle.std.specs.Option.{unwrap_or}
use Rattle.fn_time.specs.Format.{is_known}

-- ---- the eight letters

if_or : (a b : Bool) (R : Type 0) → (a || b) ≡ true → (a ≡ true → R) → (b ≡ true → R) → R
if_or true b R is first second = first refl
if_or false b R is first second = second is

at_letter : (P : ℕ → Type 0) (c n : ℕ) → P n → (c == n) ≡ true → P c
at_letter P c n p same = subst P (sym (eqb-true c n same)) p

pub by_letter : (P : ℕ → Type 0) (c : ℕ) → is_known c ≡ true → P 37 → P 89 → P 109 → P 100 → P 72 → P 77 → P 83 → P 122 → P c
by_letter P c is p37 p89 p109 p100 p72 p77 p83 p122 =
    if_or (c == 37) _ (P c) is (at_letter P c 37 p37) (λ a.
    if_or (c == 89) _ (P c) a (at_letter P c 89 p89) (λ b.
    if_or (c == 109) _ (P c) b (at_letter P c 109 p109) (λ d.
    if_or (c == 100) _ (P c) d (at_letter P c 100 p100) (λ e.
    if_or (c == 72) _ (P c) e (at_letter P c 72 p72) (λ f.
    if_or (c == 77) _ (P c) f (at_letter P c 77 p77) (λ g.
    if_or (c == 83) _ (P c) g (at_letter P c 83 p83) (λ h.
    if_or (c == 122) _ (P c) h (at_letter P c 122 p122) (λ none. absurd (true≢false (sym none))))))))))

-- ---- a step at a conversion

-- nothing stands between the sign and the letter, which is no dot
pub record IsBare (c : ℕ) : Type 0 where
  pub bare : (cs : List ℕ) → read_extension (c ∷ cs) ≡ Ok (plain, c ∷ cs)
  pub dot : (c == 46) ≡ false

pub letter_is : (c : ℕ) → is_known c ≡ true → IsBare c
unfolding read_flag colon_rest
letter_is c is = record {
  bare = λ cs. by_letter (λ d. read_extension (d ∷ cs) ≡ Ok (plain, d ∷ cs)) c is refl refl refl refl refl refl refl refl;
  dot = by_letter (λ d. (d == 46) ≡ false) c is refl refl refl refl refl refl refl refl;
}

if_and_true : {A : Type 0} (b : Bool) (x y : A) → (if b && true then x else y) ≡ (if b then x else y)
if_and_true true x y = refl
if_and_true false x y = refl

pub some_left : (n : ℕ) → (suc n == 0) ≡ false
some_left n = grind (arith, nat_tests)

-- the letter's directive is read, where the text goes on
pub letter_reads : (c : ℕ) (cs inp : List ℕ) (tm : Parts) → IsBare c → read_step (37 ∷ c ∷ cs) inp tm ≡ (if length inp == 0 then Err (Parse Empty) else turn_of cs (read_directive c plain inp tm))
letter_reads c cs inp tm is = rw (some_left (suc (length cs)), is.bare cs, some_left (length cs), is.dot) (if_and_true (length inp == 0) (Err (Parse Empty)) (turn_of cs (read_directive c plain inp tm)))

-- ---- what a conversion leaves

-- the parts without the seven
abbrev pub others : Parts → Parts
others p = record p { year = None; month = None; day = None; hour = None; minute = None; second = None; offset = None }

-- whether the part of this letter is there, if it is a part of the time
abbrev pub is_set : ℕ → Parts → Bool
is_set letter p = if letter == 72 then is_some p.hour else (if letter == 77 then is_some p.minute else (if letter == 83 then is_some p.second else true))

-- the other parts stay as they were, and what was there stays there
pub record Goes (p q : Parts) : Type 0 where
  pub same : others q ≡ others p
  pub kept : (letter : ℕ) → is_set letter p ≡ true → is_set letter q ≡ true

-- besides, the part of the letter is there
pub record Takes (letter : ℕ) (p q : Parts) : Type 0 where
  pub goes : Goes p q
  pub set : is_set letter q ≡ true

first_kept : (a x y : Bool) → (if a then x else y) ≡ true → (if a then true else y) ≡ true
first_kept true x y is = refl
first_kept false x y is = is

second_kept : (a b h x y : Bool) → (if a then h else (if b then x else y)) ≡ true → (if a then h else (if b then true else y)) ≡ true
second_kept true b h x y is = is
second_kept false b h x y is = first_kept b x y is

third_kept : (a b d h m x y : Bool) → (if a then h else (if b then m else (if d then x else y))) ≡ true → (if a then h else (if b then m else (if d then true else y))) ≡ true
third_kept true b d h m x y is = is
third_kept false b d h m x y is = second_kept b d m x y is

year_set : (tm : Parts) (year : ℤ) → Takes 89 tm (record tm { year = Some year })
year_set tm year = record { goes = record { same = refl; kept = λ letter is. is }; set = refl }

month_set : (tm : Parts) (month : ℕ) → Takes 109 tm (record tm { month = Some month })
month_set tm month = record { goes = record { same = refl; kept = λ letter is. is }; set = refl }

day_set : (tm : Parts) (day : ℕ) → Takes 100 tm (record tm { day = Some day })
day_set tm day = record { goes = record { same = refl; kept = λ letter is. is }; set = refl }

hour_set : (tm : Parts) (hour : ℕ) → Takes 72 tm (set_hour tm hour)
hour_set tm hour = record { goes = record { same = refl; kept = λ letter is. first_kept (letter == 72) _ _ is }; set = refl }

minute_set : (tm : Parts) (minute : ℕ) → Takes 77 tm (record tm { minute = Some minute })
minute_set tm minute = record { goes = record { same = refl; kept = λ letter is. second_kept (letter == 72) (letter == 77) _ _ _ is }; set = refl }

second_set : (tm : Parts) (second : ℕ) → Takes 83 tm (record tm { second = Some second })
second_set tm second = record { goes = record { same = refl; kept = λ letter is. third_kept (letter == 72) (letter == 77) (letter == 83) _ _ _ _ is }; set = refl }

offset_set : (tm : Parts) (offset : ℤ) → Takes 122 tm (record tm { offset = Some offset })
offset_set tm offset = record { goes = record { same = refl; kept = λ letter is. is }; set = refl }

sign_set : (tm : Parts) → Takes 37 tm tm
sign_set tm = record { goes = record { same = refl; kept = λ letter is. is }; set = refl }

-- ---- what comes of a step that went well

by_read : {A B R : Type 0} (r : Read A) (f : A × List ℕ → Read B) (y : B × List ℕ) → then_read r f ≡ Ok y → ((x : A × List ℕ) → f x ≡ Ok y → R) → R
by_read (Err e) f y is go = absurd cc
by_read (Ok x) f y is go = go x is

by_found : {A B R : Type 0} (o : Option A) (e : Error) (f : A → Read B) (y : B × List ℕ) → match_some o (Err e) f ≡ Ok y → ((x : A) → f x ≡ Ok y → R) → R
by_found None e f y is go = absurd cc
by_found (Some x) e f y is go = go x is

by_passed : {B R : Type 0} (b : Bool) (e : Error) (r : Read B) (y : B × List ℕ) → (if b then Err e else r) ≡ Ok y → (r ≡ Ok y → R) → R
by_passed true e r y is go = absurd cc
by_passed false e r y is go = go is

by_test : {B R : Type 0} (b : Bool) (e : Error) (r : Read B) (y : B × List ℕ) → (if b then r else Err e) ≡ Ok y → (r ≡ Ok y → R) → R
by_test true e r y is go = go is
by_test false e r y is go = absurd cc

abbrev left_parts : Step → Parts
left_parts r = match_result r (λ p. p.0) (λ e. no_parts)

made_is : (letter : ℕ) (tm made q : Parts) (x rest : List ℕ) → Takes letter tm made → (let r : Step = Ok (made, x) in r ≡ Ok (q, rest)) → Takes letter tm q
made_is letter tm made q x rest takes is = subst (Takes letter tm) (ap left_parts is) takes

number_takes : (letter : ℕ) (r : Read ℤ) (set : ℕ → Parts) (tm q : Parts) (rest : List ℕ) → ((n : ℕ) → Takes letter tm (set n))
    → then_read r (λ p. Ok (set (unsigned_abs p.0), p.1)) ≡ Ok (q, rest) → Takes letter tm q
number_takes letter r set tm q rest takes is = by_read r (λ p. Ok (set (unsigned_abs p.0), p.1)) (q, rest) is (λ p made. made_is letter tm (set (unsigned_abs p.0)) q p.1 rest (takes (unsigned_abs p.0)) made)

abbrev takes_letter : ℕ → Type 0
takes_letter c = (inp rest : List ℕ) (tm q : Parts) → read_directive c plain inp tm ≡ Ok (q, rest) → Takes c tm q

sign_takes : takes_letter 37
unfolding read_directive read_simple
sign_takes inp rest tm q is = by_test _ _ (Ok (tm, drop 1 inp)) (q, rest) is (λ made. made_is 37 tm tm q (drop 1 inp) rest (sign_set tm) made)

year_takes : takes_letter 89
unfolding read_directive read_simple
year_takes inp rest tm q is = by_read (read_year plain inp) (λ p. Ok (record tm { year = Some p.0 }, p.1)) (q, rest) is (λ p made. made_is 89 tm (record tm { year = Some p.0 }) q p.1 rest (year_set tm p.0) made)

month_takes : takes_letter 109
unfolding read_directive read_simple
month_takes inp rest tm q is = number_takes 109 _ (λ n. record tm { month = Some n }) tm q rest (month_set tm) is

day_takes : takes_letter 100
unfolding read_directive read_simple
day_takes inp rest tm q is = number_takes 100 _ (λ n. record tm { day = Some n }) tm q rest (day_set tm) is

hour_takes : takes_letter 72
unfolding read_directive read_simple
hour_takes inp rest tm q is = number_takes 72 _ (set_hour tm) tm q rest (hour_set tm) is

minute_takes : takes_letter 77
unfolding read_directive read_simple
minute_takes inp rest tm q is = number_takes 77 _ (λ n. record tm { minute = Some n }) tm q rest (minute_set tm) is

second_takes : takes_letter 83
unfolding read_directive read_simple
second_takes inp rest tm q is = number_takes 83 _ (λ n. record tm { second = Some (min n 59) }) tm q rest (λ n. second_set tm (min n 59)) is

total_takes : (negative : Bool) (total : ℕ) (x : List ℕ) (tm q : Parts) (rest : List ℕ) → total_offset negative total x tm ≡ Ok (q, rest) → Takes 122 tm q
total_takes negative total x tm q rest is =
    let seconds = if negative then neg_ℤ (pos total) else pos total in
    by_passed (nat_lt 93_599 total) _ (Ok (record tm { offset = Some seconds }, x)) (q, rest) is (λ made. made_is 122 tm (record tm { offset = Some seconds }) q x rest (offset_set tm seconds) made)

-- seconds, which may be left out, behind minutes
abbrev seconds_read : Option ℕ × List ℕ → Read (Option ℕ)
seconds_read minutes = if no_minutes minutes.0 && false then Ok (None, minutes.1) else part_found (two_digits minutes.1) minutes.1 false

-- minutes and seconds behind hours
abbrev behind_hours : Parts → Bool → ℕ × List ℕ → Step
behind_hours tm negative hours = then_read (part_found (two_digits hours.1) hours.1 true) (λ minutes. then_read (seconds_read minutes) (λ seconds. offset_of negative hours.0 minutes.0 seconds tm))

hours_take : (tm q : Parts) (rest : List ℕ) (negative : Bool) (hours : ℕ × List ℕ) → behind_hours tm negative hours ≡ Ok (q, rest) → Takes 122 tm q
hours_take tm q rest negative hours is =
    by_read (part_found (two_digits hours.1) hours.1 true) (λ minutes. then_read (seconds_read minutes) (λ seconds. offset_of negative hours.0 minutes.0 seconds tm)) (q, rest) is (λ minutes a.
    by_read (seconds_read minutes) (λ seconds. offset_of negative hours.0 minutes.0 seconds tm) (q, rest) a (λ seconds b.
    total_takes negative (hours.0 * 3600 + unwrap_or minutes.0 0 * 60 + unwrap_or seconds.0 0) seconds.1 tm q rest b))

sign_then : (tm q : Parts) (rest : List ℕ) (sign : Bool × List ℕ) → match_some (two_digits sign.1) (Err (Parse Offset)) (behind_hours tm sign.0) ≡ Ok (q, rest) → Takes 122 tm q
sign_then tm q rest sign is = by_found (two_digits sign.1) (Parse Offset) (behind_hours tm sign.0) (q, rest) is (λ hours a. hours_take tm q rest sign.0 hours a)

offset_takes : takes_letter 122
unfolding read_directive read_simple
offset_takes inp rest tm q is =
    by_found (offset_sign inp) (Parse Offset) (λ sign. match_some (two_digits sign.1) (Err (Parse Offset)) (behind_hours tm sign.0)) (q, rest) is (λ sign a. sign_then tm q rest sign a)

pub letter_takes : (c : ℕ) → is_known c ≡ true → takes_letter c
letter_takes c is = by_letter takes_letter c is sign_takes year_takes month_takes day_takes hour_takes minute_takes second_takes offset_takes
