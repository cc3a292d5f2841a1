use Rattle.std.proofs.Common.{◌≡◌, ◌<◌, ◌-◌, suc, length, refl, arith}
use Rattle.std.proofs.lemmas.List.{take_all}
use Rattle.vrl_kind.specs.KindTree.{KindTree}
use Rattle.vrl_kind.proofs.Inclusion.{none}
use Rattle.vrl_kind.proofs.Making.{shortened_first, shortened_next, last_take}
use Rattle.vrl_kind.proofs.make.kept_len.Goals as goal

pub loop-kept-init : goal.loop-kept-init
loop-kept-init c = (omega arith, shortened_first _ _ _ (take_all _ _ (omega arith)))

pub loop-kept-preserved : goal.loop-kept-preserved
loop-kept-preserved c =
    let next : c.loop-kept.kept ≡ suc (c.loop-kept.kept - 1) = omega arith in
    let below : c.loop-kept.kept - 1 < length {A = KindTree} c.args.kinds.now = omega arith in
    (omega arith, shortened_next _ _ _ _ c.loop-kept.kept _ next below c.index-kinds-kept.is (c.if-not-same.ensures.0 refl) c.loop-kept.invariant.1)

pub returns-then-not-same : goal.returns-then-not-same
returns-then-not-same c =
    let next : c.loop-kept.kept ≡ suc (c.loop-kept.kept - 1) = omega arith in
    let below : c.loop-kept.kept - 1 < length {A = KindTree} c.args.kinds.now = omega arith in
    record { last = last_take _ _ _ _ _ next below c.index-kinds-kept.is (λ e. none _ (c.if-not-same.ensures.1 e)); shortened = c.loop-kept.invariant.1 }
