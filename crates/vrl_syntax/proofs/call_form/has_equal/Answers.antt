use Rattle.std.proofs.Common.{◌≡◌, ◌∷◌, ◌∙◌, rules, sym}
use Rattle.vrl_syntax.proofs.ClosureNames.{equal_from}
use Rattle.vrl_syntax.proofs.call_form.has_equal.Goals as goal

pub returns-then-stands_again : goal.returns-then-stands_again
returns-then-stands_again c =
    let split : c.loop-first.left.now ≡ c.in-Some.first.now ∷ c.in-Some.rest.now = search rules in
    sym (c.loop-first.invariant ∙ equal_from _ _ _ _ split (sym c.stands_again.ensures ∙ c.if-stands_again.true))

pub loop-first-preserved : goal.loop-first-preserved
loop-first-preserved c =
    let split : c.loop-first.left.now ≡ c.in-Some.first.now ∷ c.in-Some.rest.now = search rules in
    c.loop-first.invariant ∙ equal_from _ _ _ _ split (sym c.stands_again.ensures ∙ c.if-stands_again.false)
