use Rattle.std.proofs.Common.{◌≡◌, ◌∷◌, ◌+◌, ◌<◌, ◌≤◌, ◌^◌, if◌then◌else◌, length, reverse, ◌∙◌, ap, sym, arith}
use Rattle.std.proofs.lemmas.List.{length-reverse}
use Rattle.vrl_token.specs.Telling.{bars_in}
use Rattle.vrl_token.specs.Brackets.{bodies_in}
use Rattle.vrl_token.proofs.OpenBrackets.{bars_in-cons, bodies_in-cons, few_bars, few_bodies}
use Rattle.vrl_token.proofs.Readied.{reverse-snoc}
use Rattle.vrl_token.proofs.before.Before.open.Goals as goal

pub returns-clause-opens : goal.returns-clause-opens
returns-clause-opens c = λ brackets is.
    let count : length c.args.self.now.open.items ≡ length brackets = sym (length-reverse c.args.self.now.open.items) ∙ ap length is.brackets_are in
    let bars = is.bars_are in
    let bodies = is.bodies_are in
    let bars_few : bars_in brackets ≤ length brackets = few_bars brackets in
    let bodies_few : bodies_in brackets ≤ length brackets = few_bodies brackets in
    let room = c.args.self.now.open.small in
    let bars_fit : c.args.self.now.bars < 2 ^ 63 = omega arith in
    let bodies_fit : c.args.self.now.bodies < 2 ^ 63 = omega arith in
    record {
      brackets_are = ap reverse c.in_ok-push.ensures.items ∙ reverse-snoc c.args.self.now.open.items c.args.bracket ∙ ap (λ bs. c.args.bracket ∷ bs) is.brackets_are;
      bars_are = c.one_more-self.ensures bars_fit ∙ ap (λ n. n + (if c.is_closure_bars.result then 1 else 0)) is.bars_are ∙ ap (λ t. bars_in brackets + (if t then 1 else 0)) c.is_closure_bars.ensures ∙ sym (bars_in-cons c.args.bracket brackets);
      bodies_are = c.one_more-self-2.ensures bodies_fit ∙ ap (λ n. n + (if c.is_closure_body.result then 1 else 0)) is.bodies_are ∙ ap (λ t. bodies_in brackets + (if t then 1 else 0)) c.is_closure_body.ensures ∙ sym (bodies_in-cons c.args.bracket brackets);
    }
