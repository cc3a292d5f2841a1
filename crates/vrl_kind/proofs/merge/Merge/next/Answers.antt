use Rattle.vrl_kind.proofs.Merging.{turn_left, turn_right, turn_less, turn_greater, turn_both, none_left}
use Rattle.vrl_kind.proofs.merge.Merge.next.Goals as goal

pub returns-in-None-Some : goal.returns-in-None-Some
returns-in-None-Some c = turn_right _ _ _ _ _ _ _ (none_left _ c.in-None-Some.ensures.cases) c.in-None-Some.ensures'.cases.0 c.of_right.ensures.name c.of_right.ensures.left c.of_right.ensures.right

pub returns-in-Some-None : goal.returns-in-Some-None
returns-in-Some-None c = turn_left _ _ _ _ _ _ _ c.in-Some-None.ensures.cases.0 (none_left _ c.in-Some-None.ensures'.cases) c.of_left.ensures.name c.of_left.ensures.left c.of_left.ensures.right

pub returns-in-Less : goal.returns-in-Less
returns-in-Less c = turn_less _ _ _ _ _ _ _ _ _ (cc (c.in-Less.ensures, c.as_str.ensures, c.as_str-in-Some-Some.ensures)) c.in-Some-Some.ensures.cases.0 c.in-Some-Some.ensures'.cases.0 c.of_left-in-Less.ensures.name c.of_left-in-Less.ensures.left c.of_left-in-Less.ensures.right

pub returns-in-Equal : goal.returns-in-Equal
returns-in-Equal c = turn_both _ _ _ _ _ _ _ (cc (c.in-Equal.ensures, c.as_str.ensures, c.as_str-in-Some-Some.ensures)) c.in-Some-Some.ensures.cases.0 c.in-Some-Some.ensures'.cases.0 c.as_str-in-Equal.ensures

pub returns-in-Greater : goal.returns-in-Greater
returns-in-Greater c = turn_greater _ _ _ _ _ _ _ _ _ (cc (c.in-Greater.ensures, c.as_str.ensures, c.as_str-in-Some-Some.ensures)) c.in-Some-Some.ensures.cases.0 c.in-Some-Some.ensures'.cases.0 c.of_right-in-Greater.ensures.name c.of_right-in-Greater.ensures.left c.of_right-in-Greater.ensures.right
