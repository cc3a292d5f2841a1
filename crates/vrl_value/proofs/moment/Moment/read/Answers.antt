use Rattle.std.proofs.Common.{sym, ap, ◌∙◌}
use Rattle.vrl_value.specs.Scan.{written_at}
use Rattle.vrl_value.proofs.Timestamps.{no_parts, found_reading, no_reading}
use Rattle.vrl_value.proofs.moment.Moment.read.Goals as goal

pub returns-in_err-parts-clause-none : goal.returns-in_err-parts-clause-none
returns-in_err-parts-clause-none c = rw c.from_residual.ensures (no_parts c.args.text.now (ap written_at (sym c.as_bytes.ensures.value) ∙ c.in_err-parts.ensures.value))

pub returns-clause-some : goal.returns-clause-some
returns-clause-some c = found_reading c.args.text.now c.in_ok-parts.field-0 c.moment_of.result (ap written_at (sym c.as_bytes.ensures.value) ∙ c.in_ok-parts.ensures.value) c.moment_of.ensures.some

pub returns-clause-none : goal.returns-clause-none
returns-clause-none c = no_reading c.args.text.now c.in_ok-parts.field-0 c.moment_of.result (ap written_at (sym c.as_bytes.ensures.value) ∙ c.in_ok-parts.ensures.value) c.moment_of.ensures.none
