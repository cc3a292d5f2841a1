use Rattle.std.proofs.Common.{refl}
use Rattle.vrl_diag.specs.Codes.{rows}
use Rattle.vrl_diag.proofs.titles.rows.Goals as goal

pub returns : goal.returns
unfolding rows
returns c = refl
