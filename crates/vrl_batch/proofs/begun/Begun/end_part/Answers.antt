use Rattle.std.proofs.Common.{◌≡◌, ◌∙◌, false, ap, sym, rules}
use Rattle.vrl_batch.proofs.Asks.{asks-line, on_err}
use Rattle.vrl_batch.specs.Lines.{is_blank}
use Rattle.vrl_batch.proofs.begun.Begun.end_part.Goals as goal

pub returns-in_err-push-clause-asks : goal.returns-in_err-push-clause-asks
returns-in_err-push-clause-asks g c line part_is =
    let other : c.is_blank.result ≡ false = search rules in
    let seen : c.replace-part.result.blank ≡ is_blank line = ap (λ p. p.blank) (c.replace-part.ensures.value ∙ part_is) in
    on_err c.from_residual.result (asks-line _ _ _ line (sym seen ∙ sym c.is_blank.ensures ∙ other) c.moment.ensures)
