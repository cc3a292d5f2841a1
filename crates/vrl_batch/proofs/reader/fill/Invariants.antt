use Rattle.std.proofs.Common.{◌≡◌, ◌-◌}
use Rattle.vrl_batch.proofs.Fills.{Fills}
use Rattle.vrl_batch.specs.Limits.{input_limit}
use Rattle.vrl_batch.specs.Pieces.{held_by}
use Rattle.vrl_batch.specs.Reads.{stream}
use Rattle.vrl_batch.proofs.reader.fill.Given as goal

-- the batch has the lines of what was held and taken, and no take has failed
abbrev pub invariant-loop-piece : goal.invariant-loop-piece
invariant-loop-piece g l =
    Fills (stream (held_by l.fn.piece l.fn.begun.number) (g.S.Source.left l.fn.source) (g.S.Source.taken l.fn.source) (g.S.Source.ended l.fn.source) (g.C.Clock.ahead l.fn.clock))
    l.piece l.begun (g.S.Source.left l.source) (g.S.Source.taken l.source) (g.S.Source.ended l.source) (g.C.Clock.ahead l.clock)
    × (g.S.Source.faults l.source ≡ g.S.Source.faults l.fn.source)

abbrev pub decreases-loop-piece : goal.decreases-loop-piece
decreases-loop-piece g l = input_limit - l.piece.taken
