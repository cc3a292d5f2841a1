use Rattle.std.proofs.Common.{arith}
use Rattle.vrl_format.specs.Pieces.{remarks_in}
use Rattle.vrl_format.specs.Writing.{writing_in}
use Rattle.vrl_format.proofs.Noted.{blocks_kept}
use Rattle.vrl_format.proofs.walk.Walk.step.Goals as goal

pub take-requires-clause-room : goal.take-requires-clause-room
take-requires-clause-room c =
    let same = blocks_kept (writing_in c.args.self.now.layout) (writing_in c.note.new.self) (remarks_in c.range.result.now) c.in_ok-note.ensures in
    let room = c.requires.room in omega (arith, same, room)
