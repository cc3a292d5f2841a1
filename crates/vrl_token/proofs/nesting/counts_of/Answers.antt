use Rattle.std.proofs.Common.{sym, subst}
use Rattle.std.proofs.lemmas.List.{take_all}
use Rattle.vrl_token.specs.Depths.{AreCounts, IsTally}
use Rattle.vrl_token.specs.Reading.{backwards}
use Rattle.vrl_token.proofs.Nestings.{backwards_more}
use Rattle.vrl_token.proofs.nesting.counts_of.Goals as goal

pub loop-spanned-preserved : goal.loop-spanned-preserved
loop-spanned-preserved c =
    let before = backwards_more c.args.tokens.now c.loop-spanned.spanned-index c.spanned-item.result c.loop-spanned-test.true c.spanned-item.is in
    subst (λ tokens. IsTally tokens c.add.new.self) (sym before) (c.in_ok-add.ensures _ c.loop-spanned.invariant)

pub returns : goal.returns
returns c =
    let counted = subst (λ tokens. AreCounts (backwards tokens) c.loop-spanned.tally.counts.items) (take_all c.loop-spanned.spanned-index c.args.tokens.now c.loop-spanned-test.false) c.loop-spanned.invariant.counts in
    subst (λ counts. AreCounts (backwards c.args.tokens.now) counts.items) (sym c.into_counts.ensures) counted
