use Rattle.std.proofs.Common.{true≢false, sym, ap, ◌∙◌}
use Rattle.vrl_batch.proofs.Asks.{asks-last, on_err}
use Rattle.vrl_batch.proofs.Begins.{ends-last}
use Rattle.vrl_batch.specs.Parts.{part_of}
use Rattle.vrl_batch.proofs.begun.Begun.end.Goals as goal

pub returns-clause-lines : goal.returns-clause-lines
returns-clause-lines g c first ahead front part begun =
    ends-last first ahead _ _ front part c.args.self.now c.end_part.new.self begun c.requires.unfilled
    (λ none. true≢false (sym (c.is_empty.ensures.wherever (begun.part_is ∙ ap part_of none)) ∙ c.if-is_empty.false))
    (c.in_ok-end_part.ensures.line part begun.part_is)

pub returns-in_err-end_part-clause-asks : goal.returns-in_err-end_part-clause-asks
returns-in_err-end_part-clause-asks g c first ahead front part begun =
    on_err c.from_residual.result
    (asks-last first ahead _ _ front part c.args.self.now begun
    (λ none. true≢false (sym (c.is_empty.ensures.wherever (begun.part_is ∙ ap part_of none)) ∙ c.if-is_empty.false))
    (c.in_err-end_part.ensures.asks part begun.part_is))
