use Rattle.std.proofs.Common.{sym, ap, ◌∙◌, nat_lt}
use Rattle.vrl_generate.specs.Summary.{IsSummaryOf, is_refused}
use Rattle.vrl_generate.proofs.Counted.{any_counted}
use Rattle.vrl_generate.proofs.summary.Summary.is_marked.Goals as goal

pub returns : goal.returns
unfolding IsSummaryOf
returns c outs within is = ap (λ n. nat_lt 0 n) (is within).refused ∙ sym (any_counted (λ out. is_refused out.outcome) outs)
