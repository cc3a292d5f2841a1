-- What jiff's strptime leaves of the parts under a whole format.
use Rattle.std.proofs.Common.{◌≡◌, ℕ, zero, suc, ◌+◌, ◌<◌, ◌≤◌, ◌==◌, ◌&&◌, Bool, true, false, List, [], ◌∷◌, length, Result, Ok, Err, refl, sym, ap, subst, ◌∙◌, arith, eqb-true, if◌then◌else◌}
use Rattle.std.proofs.lemmas.Bool.{true≢false}
use Rattle.jiff_core.specs.declared.error.Error.{Error}
use Rattle.jiff_core.specs.declared.error.Error.TheVariants.{Parse}
use Rattle.jiff_core.specs.declared.error.Syntax.TheVariants.{Empty}
use Rattle.jiff_strtime.specs.Directive.{plain}
use Rattle.jiff_strtime.specs.Number.{match_result, skip_spaces}
use Rattle.jiff_strtime.specs.Reader.{Step, Turn, read_byte, read_directive, read_step, read_steps, turn_of}
use Rattle.jiff_strtime.specs.Text.{Parts}
use Rattle.std.specs.Char.{is_ascii_whitespace}
use Rattle.fn_time.specs.Format.{is_known}
use Rattle.fn_time.proofs.Letters.{known_from, times_from}
use Rattle.fn_time.proofs.Steps.{is_set, letter_is, letter_reads, letter_takes, some_left, Goes, Takes}

-- the other parts stay, and the part of each letter that the format has is there
pub record Reads (format : List ℕ) (p q : Parts) : Type 0 where
  pub goes : Goes p q
  pub set : (letter : ℕ) → 0 < times_from letter false format → is_set letter q ≡ true

stays : (p : Parts) → Goes p p
stays p = record { same = refl; kept = λ letter is. is }

then_goes : (p q r : Parts) → Goes p q → Goes q r → Goes p r
then_goes p q r first second = record { same = second.same ∙ first.same; kept = λ letter is. second.kept letter (first.kept letter is) }

none_read : (p : Parts) → Reads [] p p
none_read p = record { goes = stays p; set = λ letter some. absurd (omega (arith, some)) }

-- ---- what comes of steps that went well

abbrev left_parts : Step → Parts → Parts
left_parts r p = match_result r (λ x. x.0) (λ e. p)

is_left : (p q : Parts) (x rest : List ℕ) → (let r : Step = Ok (p, x) in r ≡ Ok (q, rest)) → p ≡ q
is_left p q x rest is = ap (λ r. left_parts r p) is

by_turn : {R : Type 0} (turn : Turn) (steps : List ℕ → List ℕ → Parts → Step) (y : Parts × List ℕ) → match_result turn (λ t. steps t.0 t.2 t.1) (λ e. Err e) ≡ Ok y
    → ((t : List ℕ × Parts × List ℕ) → turn ≡ Ok t → steps t.0 t.2 t.1 ≡ Ok y → R) → R
by_turn (Err e) steps y is go = absurd cc
by_turn (Ok t) steps y is go = go t refl is

by_letter_step : {R : Type 0} (empty : Bool) (cs : List ℕ) (step : Step) (t : List ℕ × Parts × List ℕ) → (if empty then Err (Parse Empty) else turn_of cs step) ≡ Ok t
    → ((x : Parts × List ℕ) → step ≡ Ok x → (let r : Turn = Ok (cs, x.0, x.1) in r ≡ Ok t) → R) → R
by_letter_step true cs step t is go = absurd cc
by_letter_step false cs (Err e) t is go = absurd cc
by_letter_step false cs (Ok x) t is go = go x refl is

-- ---- a format

abbrev IsRead : ℕ → Type 0
IsRead fuel = (format inp rest : List ℕ) (p q : Parts) → known_from false format ≡ true → length format ≤ fuel → read_steps fuel format inp p ≡ Ok (q, rest) → Reads format p q

and_both : (a b : Bool) (R : Type 0) → (a && b) ≡ true → (a ≡ true → b ≡ true → R) → R
and_both true b R is go = go refl is
and_both false b R is go = absurd (true≢false (sym is))

-- ---- a conversion first

times_next : (letter c : ℕ) (cs : List ℕ) → times_from letter false (37 ∷ c ∷ cs) ≡ (if c == letter then 1 else 0) + times_from letter false cs
times_next letter c cs = omega arith

set_first : (c letter n : ℕ) (q : Parts) (is : Bool) → (c == letter) ≡ is → is_set c q ≡ true → (0 < n → is_set letter q ≡ true) → 0 < (if is then 1 else 0) + n → is_set letter q ≡ true
set_first c letter n q true same set later some = ap (λ l. is_set l q) (sym (eqb-true c letter same)) ∙ set
set_first c letter n q false other set later some = later (omega (arith, some))

letter_first : (c : ℕ) (cs : List ℕ) (p m q : Parts) → Takes c p m → Reads cs m q → Reads (37 ∷ c ∷ cs) p q
letter_first c cs p m q takes reads = record {
  goes = then_goes p m q takes.goes reads.goes;
  set = λ letter some. set_first c letter (times_from letter false cs) q (c == letter) refl (reads.goes.kept c takes.set) (reads.set letter) (subst (λ n. 0 < n) (times_next letter c cs) some);
}

abbrev turn_or : Turn → List ℕ × Parts × List ℕ → List ℕ × Parts × List ℕ
turn_or r t = match_result r (λ u. u) (λ e. t)

turn_is : (t u : List ℕ × Parts × List ℕ) → (let r : Turn = Ok t in r ≡ Ok u) → u ≡ t
turn_is t u is = sym (ap (λ r. turn_or r t) is)

at_sign : (fuel : ℕ) → IsRead fuel → (bs inp rest : List ℕ) (p q : Parts) → known_from false (37 ∷ bs) ≡ true → length bs ≤ fuel → read_steps (suc fuel) (37 ∷ bs) inp p ≡ Ok (q, rest) → Reads (37 ∷ bs) p q
unfolding read_steps
at_sign fuel ih [] inp rest p q known short is = absurd (true≢false (sym known))
at_sign fuel ih (c ∷ cs) inp rest p q known short is =
    and_both (is_known c) (known_from false cs) (Reads (37 ∷ c ∷ cs) p q) known (λ letter left.
    by_turn (read_step (37 ∷ c ∷ cs) inp p) (read_steps fuel) (q, rest) is (λ t stepped went.
    by_letter_step (length inp == 0) cs (read_directive c plain inp p) t (sym (letter_reads c cs inp p (letter_is c letter)) ∙ stepped) (λ x made same.
    letter_first c cs p x.0 q (letter_takes c letter inp x.1 p x.0 made)
    (ih cs x.1 rest x.0 q left (omega (arith, short)) (subst (λ u. read_steps fuel u.0 u.2 u.1 ≡ Ok (q, rest)) (turn_is (cs, x.0, x.1) t same) went)))))

-- ---- another byte first

times_other : (letter b : ℕ) (bs : List ℕ) → (b == 37) ≡ false → times_from letter false (b ∷ bs) ≡ times_from letter false bs
times_other letter b bs other = rw other (omega arith)

plain_first : (b : ℕ) (bs : List ℕ) (p q : Parts) → (b == 37) ≡ false → Reads bs p q → Reads (b ∷ bs) p q
plain_first b bs p q other reads = record {
  goes = reads.goes;
  set = λ letter some. reads.set letter (subst (λ n. 0 < n) (times_other letter b bs other) some);
}

by_plain_step : {R : Type 0} (space : Bool) (r : Result (List ℕ) Error) (bs left : List ℕ) (p : Parts) (t : List ℕ × Parts × List ℕ)
    → (if space then Ok (bs, p, left) else match_result r (λ s. Ok (bs, p, s)) (λ e. Err e)) ≡ Ok t → ((left : List ℕ) → (let r : Turn = Ok (bs, p, left) in r ≡ Ok t) → R) → R
by_plain_step true r bs left p t is go = go left is
by_plain_step false (Ok s) bs left p t is go = go s is
by_plain_step false (Err e) bs left p t is go = absurd cc

plain_reads : (b : ℕ) (bs inp : List ℕ) (p : Parts) → (b == 37) ≡ false
    → read_step (b ∷ bs) inp p ≡ (if is_ascii_whitespace b then Ok (bs, p, skip_spaces inp) else match_result (read_byte b inp) (λ s. Ok (bs, p, s)) (λ e. Err e))
plain_reads b bs inp p other = rw (some_left (length bs), other) refl

at_plain : (fuel : ℕ) → IsRead fuel → (b : ℕ) (bs inp rest : List ℕ) (p q : Parts) → (b == 37) ≡ false → known_from false (b ∷ bs) ≡ true → length bs ≤ fuel
    → read_steps (suc fuel) (b ∷ bs) inp p ≡ Ok (q, rest) → Reads (b ∷ bs) p q
unfolding read_steps
at_plain fuel ih b bs inp rest p q other known short is =
    by_turn (read_step (b ∷ bs) inp p) (read_steps fuel) (q, rest) is (λ t stepped went.
    by_plain_step (is_ascii_whitespace b) (read_byte b inp) bs (skip_spaces inp) p t (sym (plain_reads b bs inp p other) ∙ stepped) (λ left same.
    plain_first b bs p q other
    (ih bs left rest p q (subst (λ sign. known_from sign bs ≡ true) other known) short (subst (λ u. read_steps fuel u.0 u.2 u.1 ≡ Ok (q, rest)) (turn_is (bs, p, left) t same) went))))

at_byte : (fuel : ℕ) → IsRead fuel → (b : ℕ) (bs inp rest : List ℕ) (p q : Parts) (sign : Bool) → (b == 37) ≡ sign → known_from false (b ∷ bs) ≡ true → length bs ≤ fuel
    → read_steps (suc fuel) (b ∷ bs) inp p ≡ Ok (q, rest) → Reads (b ∷ bs) p q
at_byte fuel ih b bs inp rest p q true same known short is =
    let sign : 37 ≡ b = sym (eqb-true b 37 same) in
    subst (λ x. Reads (x ∷ bs) p q) sign (at_sign fuel ih bs inp rest p q (subst (λ x. known_from false (x ∷ bs) ≡ true) (sym sign) known) short (subst (λ x. read_steps (suc fuel) (x ∷ bs) inp p ≡ Ok (q, rest)) (sym sign) is))
at_byte fuel ih b bs inp rest p q false other known short is = at_plain fuel ih b bs inp rest p q other known short is

pub format_reads : (fuel : ℕ) → IsRead fuel
unfolding read_steps
format_reads zero [] inp rest p q known short is = subst (Reads [] p) (is_left p q inp rest is) (none_read p)
format_reads zero (b ∷ bs) inp rest p q known short is = absurd (omega (arith, short))
format_reads (suc fuel) [] inp rest p q known short is = format_reads fuel [] inp rest p q known (omega arith) is
format_reads (suc fuel) (b ∷ bs) inp rest p q known short is = at_byte fuel (format_reads fuel) b bs inp rest p q (b == 37) refl known (omega (arith, short)) is
