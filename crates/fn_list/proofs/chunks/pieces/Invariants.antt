use Rattle.std.proofs.Common.{◌≡◌}
use Rattle.fn_list.specs.Pieces.{seen, start, with_characters}
use Rattle.fn_list.proofs.chunks.pieces.Given as goal

abbrev pub invariant-loop-character : goal.invariant-loop-character
invariant-loop-character l = seen l.cutting ≡ with_characters l.size (start l.size) l.yielded
