use Rattle.vrl_kind.proofs.Texts.{no_rests_with_places, rests_without_places}
use Rattle.vrl_kind.proofs.printing.has_no_parts.Goals as goal

pub returns-then-not-is_empty : goal.returns-then-not-is_empty
returns-then-not-is_empty c = λ r. no_rests_with_places _ _ _ _ _ _ _ c.as_slice.ensures c.is_empty.ensures c.if-not-is_empty.true

pub returns : goal.returns
returns c = λ r. rests_without_places _ _ _ _ _ _ _ _ _ c.as_slice.ensures c.is_empty.ensures c.if-not-is_empty.false c.as_slice-2.ensures c.is_empty-2.ensures
