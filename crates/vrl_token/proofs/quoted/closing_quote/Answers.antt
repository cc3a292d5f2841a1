use Rattle.std.proofs.Common.{◌≡◌, length, subst, refl, arith}
use Rattle.vrl_token.specs.Characters.{IsUnclosed}
use Rattle.vrl_token.specs.Quoted.{IsClosedAt}
use Rattle.vrl_token.proofs.Quotes.{scanned_all, scanned_backslash, scanned_closes, scanned_escaped, scanned_none, scanned_plain}
use Rattle.vrl_token.proofs.quoted.closing_quote.Goals.{then-escaped, else-escaped+then-byte-eq92, else-escaped+else-byte-eq92+else-byte-quote}
use Rattle.vrl_token.proofs.quoted.closing_quote.Goals as goal

pub loop-index-init : goal.loop-index-init
loop-index-init c = scanned_none _ _

pub loop-index-preserved : goal.loop-index-preserved
loop-index-preserved c =
    let text = c.as_bytes-bytes.result.now in
    let index = c.loop-index.index in
    let below = c.loop-index-test.true in
    elim c.if-escaped.branch [
      | then-escaped w ↦ rw w.escaped-is (scanned_escaped text index _ _ (rw w.if-escaped.true at c.loop-index.invariant) refl below refl)
      | else-escaped+then-byte-eq92 w ↦ rw w.escaped-is (scanned_backslash text index _ _ (rw w.if-escaped.false at c.loop-index.invariant) refl below refl w.if-byte-eq92.true)
      | else-escaped+else-byte-eq92+else-byte-quote w ↦ rw (w.escaped-is, w.if-escaped.false) (scanned_plain text index _ _ (rw w.if-escaped.false at c.loop-index.invariant) refl below refl w.if-byte-eq92.false w.if-byte-quote.false)
    ]

pub returns : goal.returns
returns c =
    let end_is : c.loop-index.index ≡ length c.as_bytes-bytes.result.now = omega arith in
    subst (IsUnclosed c.args.quote) c.as_bytes-bytes.ensures.value (scanned_all _ _ (rw end_is at c.loop-index.invariant))

pub returns-then-byte-quote : goal.returns-then-byte-quote
returns-then-byte-quote c =
    subst (λ t. IsClosedAt c.args.quote t c.loop-index.index) c.as_bytes-bytes.ensures.value (scanned_closes _ _ (rw c.if-escaped.false at c.loop-index.invariant) c.loop-index-test.true c.if-byte-quote.true)
