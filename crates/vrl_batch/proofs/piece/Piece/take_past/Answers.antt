use Rattle.std.proofs.Common.{length-take, length-append, length-drop, arith, rules}
use Rattle.vrl_batch.proofs.Windows.{one_byte}
use Rattle.vrl_batch.proofs.piece.Piece.take_past.Goals as goal

pub returns-clause-missed : goal.returns-clause-missed
returns-clause-missed g c =
    let one = one_byte _ _ c.in_ok-take_front.field-0 _ (search rules) (search rules) c.in_ok-take_front.ensures.bytes c.in_ok-take_front.ensures.left in
    (one.0, one.1, search rules, c.requires.taken, search rules, search rules)

pub invariant_of-self : goal.invariant_of-self
invariant_of-self g c = (search rules, search rules, simp (length-take, length-append, length-drop) (omega arith), search rules)

pub invariant_of-self-then-branch-eq0 : goal.invariant_of-self-then-branch-eq0
invariant_of-self-then-branch-eq0 g c = (search rules, search rules, simp (length-take, length-append, length-drop) (omega arith), search rules)

pub invariant_of-self-2 : goal.invariant_of-self-2
invariant_of-self-2 g c = (search rules, search rules, simp (length-take, length-append, length-drop) (omega arith), search rules)
