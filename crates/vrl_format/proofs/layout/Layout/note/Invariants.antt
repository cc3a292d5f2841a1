use denote.Text.{Utf8}
use denote.Shadow.{shadow}
use Rattle.std.proofs.Common.{◌≡◌, length}
use Rattle.vrl_format.specs.Pieces.{remarks_in}
use Rattle.vrl_format.specs.Writing.{noted, writing_in}
use Rattle.vrl_format.proofs.layout.Layout.note.Given as goal

abbrev pub invariant-loop-line : goal.invariant-loop-line
invariant-loop-line l = shadow (Utf8 l.rest) × (l.self.blocks ≡ l.fn.self.blocks) × (noted (writing_in l.self) (remarks_in l.rest) ≡ noted (writing_in l.fn.self) (remarks_in l.between))

abbrev pub decreases-loop-line : goal.decreases-loop-line
decreases-loop-line l = length l.rest
