use Rattle.std.proofs.Common.{ℕ, rules}
use Rattle.std.proofs.lemmas.List.Sorted.{answers_always}
use Rattle.vrl_diag.specs.declared.diagnostic.Diagnostic.{Diagnostic}
use Rattle.vrl_judge.proofs.Order.{sorted_by_key}
use Rattle.vrl_judge.proofs.ordering.ordered.Goals as goal

pub returns : goal.returns
returns c =
    let key : Diagnostic → ℕ × ℕ × ℕ = λ d. (d.span.start, d.span.end, d.code) in
    record {
      same = c.sort_by_key.ensures.permutation;
      sorted = sorted_by_key _ (c.in_ok-sort_by_key.ensures.sorted key (answers_always _ _ _ (λ f a r g h. search rules)));
    }
