use Rattle.std.proofs.Common.{◌≢◌, arith}
use Rattle.vrl_token.proofs.Runs.{longest_run_at}
use Rattle.vrl_token.proofs.scan.split_line.Goals as goal

pub split_at-requires : goal.split_at-requires
split_at-requires c = (c.line_length.ensures.within, λ below big. let ends = c.line_length.ensures.after below in absurd (omega arith))

pub returns : goal.returns
returns c = longest_run_at (λ b. b ≢ 10) c.args.text.now _ _ c.line_length.result c.split_at.ensures.front c.split_at.ensures.back c.line_length.ensures.within c.line_length.ensures.before (λ below other. other (c.line_length.ensures.after below))
