use Rattle.std.proofs.Common.{◌++◌, length, drop, length-drop, drop-drop, sym, ap, ◌∙◌, subst, arith}
use Rattle.vrl_batch.proofs.Asks.{on_err}
use Rattle.vrl_batch.proofs.Begins.{adds-more}
use Rattle.vrl_batch.proofs.Fronts.{rest_is}
use Rattle.vrl_batch.specs.Begun.{DividesAt}
use Rattle.vrl_batch.specs.Lines.{event_lines_from}
use Rattle.vrl_batch.specs.Moments.{MovesAtMost}
use Rattle.vrl_batch.proofs.begun.Begun.add_lines.Goals as goal

pub loop-used-preserved : goal.loop-used-preserved
loop-used-preserved g c =
    let bytes = c.args.bytes.now in
    let used = c.loop-used.used in
    let more = c.in_ok-used.field-0 in
    let rest = rest_is bytes used in
    let within = rw rest at c.in_ok-used.ensures.within in (
      omega (arith, within, length-drop used bytes),
      omega (arith, c.in_ok-used.ensures.room, c.loop-used.invariant.1),
      λ first ahead front part begun.
          subst (λ x. DividesAt first ahead (front ++ (part ++ bytes)) x c.add_front.new.self (g.C.Clock.ahead c.add_front.new.clock)) (drop-drop more used bytes)
          (adds-more first ahead _ _ (front ++ (part ++ bytes)) (drop used bytes) (drop more (drop used bytes)) c.loop-used.self c.add_front.new.self (c.loop-used.invariant.2 first ahead front part begun)
          (λ f p at. subst (λ x. DividesAt first ahead (f ++ (p ++ x)) (drop more x) c.add_front.new.self (g.C.Clock.ahead c.add_front.new.clock)) rest (c.in_ok-used.ensures.lines first ahead f p at))),
    )

pub returns-in_err-used-clause-asks : goal.returns-in_err-used-clause-asks
returns-in_err-used-clause-asks g c first ahead front part begun =
    let at = c.loop-used.invariant.2 first ahead front part begun in
    on_err c.from_residual.result
    (subst (λ x. MovesAtMost ahead (length (event_lines_from first x)) (g.C.Clock.ahead c.add_front.new.clock))
    (ap (λ x. at.front ++ (at.part ++ x)) (rest_is c.args.bytes.now c.loop-used.used) ∙ sym at.divides)
    (c.in_err-used.ensures.asks first ahead at.front at.part at.is_begun))
