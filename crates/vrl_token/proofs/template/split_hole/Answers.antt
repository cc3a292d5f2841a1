use Rattle.vrl_token.proofs.Parted.{no_closing, no_name}
use Rattle.vrl_token.proofs.template.split_hole.Goals as goal

pub returns-in_err-name : goal.returns-in_err-name
returns-in_err-name c = rw c.from_residual.ensures (no_name c.split_run.ensures c.in_err-name.ensures)

pub returns-in_err-rest : goal.returns-in_err-rest
returns-in_err-rest c = rw c.from_residual-in_err-rest.ensures (no_closing c.split_run.ensures c.in_ok-name.ensures c.in_err-rest.ensures)
