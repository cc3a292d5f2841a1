use Rattle.std.proofs.Common.{◌≡◌, ◌-◌, length, subst, sym, refl, arith}
use Rattle.vrl_token.specs.Openings.{IsOpenedAt}
use Rattle.vrl_token.specs.Quoted.{IsInner}
use Rattle.vrl_token.proofs.Opened.{IsPassed, passed_all, passed_more, passed_none, passed_opens, some_passed}
use Rattle.vrl_token.proofs.Tested.{fails, passes}
use Rattle.vrl_token.proofs.template.opening_length.Goals as goal

pub loop-index-init : goal.loop-index-init
loop-index-init c = passed_none _

pub loop-index-preserved : goal.loop-index-preserved
loop-index-preserved c =
    subst (IsPassed c.as_bytes-bytes.result.now _) (sym c.behind-pending.ensures)
    (passed_more c.as_bytes-bytes.result.now c.loop-index.index _ _ c.loop-index.pending c.loop-index.invariant refl c.loop-index-test.true refl (fails c.opens.ensures c.if-opens.false))

pub returns-then-opens : goal.returns-then-opens
returns-then-opens c =
    subst (λ t. IsOpenedAt t (c.loop-index.index - 1)) c.as_bytes-bytes.ensures.value
    (passed_opens c.as_bytes-bytes.result.now c.loop-index.index _ c.loop-index.pending c.loop-index.invariant c.loop-index-test.true refl (passes c.opens.ensures c.if-opens.true))

pub returns : goal.returns
returns c = λ characters inner.
    let end_is : c.loop-index.index ≡ length c.as_bytes-bytes.result.now = omega arith in
    passed_all c.as_bytes-bytes.result.now c.loop-index.pending characters (rw end_is at c.loop-index.invariant) (subst (λ t. IsInner 34 t characters) (sym c.as_bytes-bytes.ensures.value) inner)
