use Rattle.std.proofs.Common.{sym, ◌∙◌}
use Rattle.vrl_kind.proofs.Naming.{known_end, known_next, view_end, view_none}
use Rattle.vrl_kind.proofs.make.known_falling.Goals as goal

pub loop-name-preserved : goal.loop-name-preserved
loop-name-preserved c = known_next _ _ _ _ _ _ _ _ c.loop-name.invariant (view_end (c.in-Some.name, c.in-Some.kind) _ _ c.in-Some.ensures.items) c.kind_is_canonical.ensures c.in_ok-push_known.ensures

pub returns : goal.returns
returns c = known_end _ _ _ _ c.loop-name.invariant (view_none _ (sym c.loop-name.fields.ok.0 ∙ c.in_default.ensures.cases.0))
