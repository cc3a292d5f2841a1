use Rattle.std.proofs.Common.{refl, take, arith}
use Rattle.vrl_token.specs.Reading.{backwards}
use Rattle.vrl_token.proofs.Nestings.{count_behind, count_first, deep_at, deep_behind, never, not_deep, shallow_all, shallow_first, shallow_more}
use Rattle.vrl_token.proofs.nesting.is_nested_too_deeply.Goals as goal

pub returns-then-is_deep : goal.returns-then-is_deep
returns-then-is_deep c =
    let progress = c.start-progress.ensures _ (count_first c.args.tokens.now _ _ c.in_ok-counts.ensures c.index.ensures) in
    (λ _. deep_at c.args.tokens.now 0 ((c.is_deep.ensures _ _ progress).0 c.if-is_deep.true), λ _. refl)

pub loop-before-init : goal.loop-before-init
loop-before-init c =
    let progress = c.start-progress.ensures _ (count_first c.args.tokens.now _ _ c.in_ok-counts.ensures c.index.ensures) in
    shallow_first _ _ progress (not_deep _ c.if-is_deep.false (c.is_deep.ensures _ _ progress).1)

pub returns-then-is_deep-2 : goal.returns-then-is_deep-2
returns-then-is_deep-2 c =
    let counted = count_behind c.args.tokens.now _ c.loop-before.before _ c.in_ok-counts.ensures c.loop-before-test.true c.index-in-loop-before.ensures in
    let progress = c.in_ok-add.ensures (backwards c.args.tokens.now) (backwards (take c.loop-before.before c.args.tokens.now)) counted c.loop-before.invariant.progress_is in
    (λ _. deep_behind _ _ _ c.loop-before-test.true c.index-tokens-before.is ((c.is_deep-in-loop-before.ensures _ _ progress).0 c.if-is_deep-2.true), λ _. refl)

pub loop-before-preserved : goal.loop-before-preserved
loop-before-preserved c =
    let counted = count_behind c.args.tokens.now _ c.loop-before.before _ c.in_ok-counts.ensures c.loop-before-test.true c.index-in-loop-before.ensures in
    let progress = c.in_ok-add.ensures (backwards c.args.tokens.now) (backwards (take c.loop-before.before c.args.tokens.now)) counted c.loop-before.invariant.progress_is in
    shallow_more _ _ _ _ _ c.loop-before-test.true c.index-tokens-before.is c.loop-before.invariant progress (not_deep _ c.if-is_deep-2.false (c.is_deep-in-loop-before.ensures _ _ progress).1)

pub returns : goal.returns
returns c = (never, λ deep. absurd (shallow_all c.args.tokens.now (λ k within. let past = c.loop-before-test.false in c.loop-before.invariant.shallow k (omega arith)) deep))
