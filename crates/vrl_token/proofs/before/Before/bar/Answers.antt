use Rattle.std.proofs.Common.{◌≡◌, false, ◌∙◌, ap, sym, subst, ◌<◌, arith}
use Rattle.vrl_token.specs.Brackets.{arrow_before, open_behind}
use Rattle.vrl_token.specs.Telling.{bars_in, is_arrow}
use Rattle.vrl_token.proofs.LastTokens.{agrees}
use Rattle.vrl_token.proofs.OpenBrackets.{closes_bars, merges}
use Rattle.vrl_token.proofs.before.Before.bar.Goals as goal

pub returns-then-self-gt0 : goal.returns-then-self-gt0
returns-then-self-gt0 c = λ before is.
    let none : arrow_before before ≡ false = sym (agrees before).arrow ∙ ap is_arrow (sym is.last_is) ∙ sym c.is_arrow.ensures ∙ c.if-is_arrow.false in
    closes_bars before none (subst (λ n. 0 < n) is.is_open.bars_are c.if-self-gt0.true)

pub returns-else-self-gt0 : goal.returns-else-self-gt0
returns-else-self-gt0 c = λ before is.
    let none : arrow_before before ≡ false = sym (agrees before).arrow ∙ ap is_arrow (sym is.last_is) ∙ sym c.is_arrow.ensures ∙ c.if-is_arrow.false in
    let bars = is.is_open.bars_are in
    let few = c.if-self-gt0.false in
    let zero : bars_in (open_behind before) ≡ 0 = omega arith in
    merges before none zero
