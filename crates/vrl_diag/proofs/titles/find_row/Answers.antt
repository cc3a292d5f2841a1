use Rattle.std.proofs.Common.{ap, ◌∙◌, ◌==◌, find, option_map}
use Rattle.vrl_diag.specs.Table.{row_in}
use Rattle.vrl_diag.proofs.Rows.{find-map}
use Rattle.vrl_diag.proofs.titles.find_row.Goals as goal

pub returns : goal.returns
returns c = ap (option_map row_in) c.find_in.ensures ∙ find-map c.args.code c.rows.result.now ∙ ap (find (λ r. r.code == c.args.code)) c.rows.ensures
