-- Open brackets, counted.
use Rattle.std.proofs.Common.{◌≡◌, ◌+◌, ◌<◌, ◌≤◌, if◌then◌else◌, true, false, List, [], ◌∷◌, length, refl, sym, arith}
use Rattle.std.specs.List.{list_any}
use Rattle.vrl_token.specs.declared.bracket.Bracket.{Bracket}
use Rattle.vrl_token.specs.declared.bracket.Bracket.TheVariants as bracket
use Rattle.vrl_token.specs.declared.token.Token.{Token}
use Rattle.vrl_token.specs.declared.token.Token.TheVariants as token
use Rattle.vrl_token.specs.Brackets.{arrow_before, bar_token, bodies_in, is_bars, open_behind}
use Rattle.vrl_token.specs.Telling.{bars_in, is_body}

pub any_bars : (bs : List Bracket) → 0 < bars_in bs → list_any is_bars bs ≡ true
any_bars [] some = absurd (omega arith)
any_bars (bracket.Parenthesis ∷ bs) some = any_bars bs some
any_bars (bracket.Square ∷ bs) some = any_bars bs some
any_bars (bracket.Object ∷ bs) some = any_bars bs some
any_bars (bracket.Block ∷ bs) some = any_bars bs some
any_bars (bracket.Body ∷ bs) some = any_bars bs some
any_bars (bracket.Bars ∷ bs) some = refl

pub no_bars : (bs : List Bracket) → bars_in bs ≡ 0 → list_any is_bars bs ≡ false
no_bars [] none = refl
no_bars (bracket.Parenthesis ∷ bs) none = no_bars bs none
no_bars (bracket.Square ∷ bs) none = no_bars bs none
no_bars (bracket.Object ∷ bs) none = no_bars bs none
no_bars (bracket.Block ∷ bs) none = no_bars bs none
no_bars (bracket.Body ∷ bs) none = no_bars bs none
no_bars (bracket.Bars ∷ bs) none = absurd (omega arith)

pub few_bars : (bs : List Bracket) → bars_in bs ≤ length bs
few_bars [] = omega arith
few_bars (bracket.Parenthesis ∷ bs) = let more = few_bars bs in omega arith
few_bars (bracket.Square ∷ bs) = let more = few_bars bs in omega arith
few_bars (bracket.Object ∷ bs) = let more = few_bars bs in omega arith
few_bars (bracket.Block ∷ bs) = let more = few_bars bs in omega arith
few_bars (bracket.Body ∷ bs) = let more = few_bars bs in omega arith
few_bars (bracket.Bars ∷ bs) = let more = few_bars bs in omega arith

pub bars_in-cons : (b : Bracket) (bs : List Bracket) → bars_in (b ∷ bs) ≡ bars_in bs + (if is_bars b then 1 else 0)
bars_in-cons bracket.Parenthesis bs = omega arith
bars_in-cons bracket.Square bs = omega arith
bars_in-cons bracket.Object bs = omega arith
bars_in-cons bracket.Block bs = omega arith
bars_in-cons bracket.Body bs = omega arith
bars_in-cons bracket.Bars bs = omega arith

pub few_bodies : (bs : List Bracket) → bodies_in bs ≤ length bs
few_bodies [] = omega arith
few_bodies (bracket.Parenthesis ∷ bs) = let more = few_bodies bs in omega arith
few_bodies (bracket.Square ∷ bs) = let more = few_bodies bs in omega arith
few_bodies (bracket.Object ∷ bs) = let more = few_bodies bs in omega arith
few_bodies (bracket.Block ∷ bs) = let more = few_bodies bs in omega arith
few_bodies (bracket.Body ∷ bs) = let more = few_bodies bs in omega arith
few_bodies (bracket.Bars ∷ bs) = let more = few_bodies bs in omega arith

pub bodies_in-cons : (b : Bracket) (bs : List Bracket) → bodies_in (b ∷ bs) ≡ bodies_in bs + (if is_body b then 1 else 0)
bodies_in-cons bracket.Parenthesis bs = omega arith
bodies_in-cons bracket.Square bs = omega arith
bodies_in-cons bracket.Object bs = omega arith
bodies_in-cons bracket.Block bs = omega arith
bodies_in-cons bracket.Body bs = omega arith
bodies_in-cons bracket.Bars bs = omega arith

-- the token that `|` is
pub closes_bars : (before : List Token) → arrow_before before ≡ false → 0 < bars_in (open_behind before) → token.CloseBars ≡ bar_token before
closes_bars before none some = sym (rw (none, any_bars (open_behind before) some) refl)

pub merges : (before : List Token) → arrow_before before ≡ false → bars_in (open_behind before) ≡ 0 → token.Merge ≡ bar_token before
merges before none zero_bars = sym (rw (none, no_bars (open_behind before) zero_bars) refl)
