use Rattle.std.proofs.Common.{inr, ap, ◌∙◌}
use Rattle.vrl_kind.specs.View.{fields_view}
use Rattle.vrl_kind.proofs.Inclusion.{none}
use Rattle.vrl_kind.proofs.Making.{fields_view_add}
use Rattle.vrl_kind.proofs.make.push_known.Goals as goal

pub returns-in_ok-push : goal.returns-in_ok-push
returns-in_ok-push c = inr (λ e. none _ (c.if-not-same.ensures.1 e), ap fields_view c.in_ok-push.ensures.items ∙ fields_view_add _ _ _)
