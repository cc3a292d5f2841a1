use Rattle.std.proofs.Common.{sym, subst}
use Rattle.vrl_token.specs.Openings.{AreHoles, CutsOpening}
use Rattle.vrl_token.proofs.Parted.{no_template, template_text}
use Rattle.vrl_token.proofs.template.text_token.Goals as goal

pub returns-in-Some-2 : goal.returns-in-Some-2
returns-in-Some-2 c = λ characters inner.
    template_text c.new.result c.in-Some-opening.behind inner (subst (λ o. CutsOpening characters c.split_opening.result.0.now o) c.in-Some-opening.is (c.split_opening.ensures.parts characters inner))
    (rw c.in-Some.is at c.in_ok-first.ensures)
    (λ ds i. rw c.new.ensures ((rw c.in-Some-2.is at c.in_ok-holes.ensures) ds i))

pub returns-in-None : goal.returns-in-None
returns-in-None c = λ characters inner.
    no_template c.in-Some-opening.behind inner (subst (λ o. CutsOpening characters c.split_opening.result.0.now o) c.in-Some-opening.is (c.split_opening.ensures.parts characters inner)) (rw c.in-None.is at c.in_ok-holes.ensures)
