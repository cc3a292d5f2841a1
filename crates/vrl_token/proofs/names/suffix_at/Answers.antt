use Rattle.std.proofs.Common.{◌∙◌, inl, inr, sym}
use Rattle.vrl_token.proofs.Tested.{not_false, not_true, ok_weaker, option_weaker}
use Rattle.vrl_token.proofs.names.suffix_at.Goals as goal

pub returns-then-not-context : goal.returns-then-not-context
returns-then-not-context c = λ before is. inl (sym is.closes ∙ not_true _ c.if-not-context.true)

pub returns : goal.returns
returns c = ok_weaker c.cut_suffix.result (λ found h. option_weaker found (λ none before is. inr none) (λ cut here before is. here before (sym is.closes ∙ not_false _ c.if-not-context.false)) h) c.cut_suffix.ensures
