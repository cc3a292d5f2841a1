use Rattle.std.proofs.Common.{refl, arith}
use Rattle.vrl_generate.specs.Summary.{IsSummaryOf}
use Rattle.vrl_generate.proofs.summary.Summary.new.Goals as goal

pub returns : goal.returns
unfolding IsSummaryOf
returns c within = record { lines = refl; written = refl; errors = refl; aborted = refl; refused = refl; bytes = refl; message = c.new.ensures; written_within = omega arith; bytes_within = omega arith }
