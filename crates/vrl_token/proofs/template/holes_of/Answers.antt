use Rattle.std.proofs.Common.{sym, subst, rules, arith}
use Rattle.vrl_token.specs.Openings.{CutsOpening}
use Rattle.vrl_token.proofs.Parted.{AreHolesSoFar, hole_shorter, holes_none, last_hole, more_holes, no_hole, unknown_hole}
use Rattle.vrl_token.proofs.template.holes_of.Goals as goal

pub loop-name-init : goal.loop-name-init
loop-name-init c = (search rules, λ characters inner. subst (λ out. AreHolesSoFar characters out c.args.text.now) (sym c.new-holes.ensures.items) (holes_none inner))

pub returns-in_default-2 : goal.returns-in_default-2
returns-in_default-2 c = λ characters inner known.
    absurd (unknown_hole c.split_opening.result.1 (c.loop-name.invariant.1 characters inner) c.in-Some.ensures c.split_opening.ensures.parts (rw c.in_default-2.is at c.in_ok-behind.ensures) known)

pub returns-in-None : goal.returns-in-None
returns-in-None c = λ characters inner.
    last_hole (c.loop-name.invariant.1 characters inner) c.in-Some.ensures (λ cs i. subst (λ o. CutsOpening cs c.split_opening.result.0.now o) c.in-None.is (c.split_opening.ensures.parts cs i))
    (rw c.in-Some-2.is at c.in_ok-behind.ensures) c.in_ok-name.ensures c.in_ok-push.ensures.items

pub loop-name-smaller : goal.loop-name-smaller
loop-name-smaller c =
    let less = hole_shorter c.in-Some.ensures in
    let upto = rw c.in-Some-opening.is at c.split_opening.ensures.size in
    omega arith

pub loop-name-preserved : goal.loop-name-preserved
loop-name-preserved c = (
  search rules,
  λ characters inner.
      more_holes c.in-Some-opening.inside (c.loop-name.invariant.1 characters inner) c.in-Some.ensures (λ cs i. subst (λ o. CutsOpening cs c.split_opening.result.0.now o) c.in-Some-opening.is (c.split_opening.ensures.parts cs i))
      (rw c.in-Some-2.is at c.in_ok-behind.ensures) c.in_ok-name.ensures c.in_ok-push.ensures.items,
)

pub returns : goal.returns
returns c = λ characters inner known. no_hole (c.loop-name.invariant.1 characters inner) c.in_default.ensures
