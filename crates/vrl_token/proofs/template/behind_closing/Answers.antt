use Rattle.vrl_token.proofs.Parted.{no_first_brace, second_brace}
use Rattle.vrl_token.proofs.template.behind_closing.Goals as goal

pub returns-in_err-second : goal.returns-in_err-second
returns-in_err-second c = rw c.from_residual.ensures (no_first_brace c.split_run.ensures c.in_err-second.ensures)

pub returns : goal.returns
returns c = second_brace c.strip_mark-2.result c.split_run.ensures c.in_ok-second.ensures c.strip_mark-2.ensures
