use Rattle.std.proofs.Common.{add-one}
use Rattle.std.proofs.lemmas.List.{take_all}
use Rattle.vrl_kind.proofs.Ahead.{fields_sorted}
use Rattle.vrl_kind.proofs.Gathering.{fields_first, fields_next, fields_end}
use Rattle.vrl_kind.proofs.Joins.{join_along}
use Rattle.vrl_kind.proofs.joining.join_fields_into.Goals as goal

pub loop-field-init : goal.loop-field-init
loop-field-init c = fields_first _ _ _ _ (join_along _ _ _ _ _ c.of.ensures.tree c.of_rest.ensures.tree c.in_ok-all.ensures.union)

pub loop-field-preserved : goal.loop-field-preserved
loop-field-preserved c = fields_next _ _ _ _ _ _ _ _ (add-one c.loop-field.field-index) (fields_sorted _ c.requires.0) c.loop-field-test.true c.field-item.is c.loop-field.invariant c.in_ok-all-2.ensures.union

pub returns : goal.returns
returns c = fields_end _ _ _ _ _ (take_all _ _ c.loop-field-test.false) c.loop-field.invariant
