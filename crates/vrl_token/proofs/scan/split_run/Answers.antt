use Rattle.vrl_token.specs.Scan.{IsIn}
use Rattle.vrl_token.proofs.Runs.{longest_run_at, IsCharBoundary-behind_run}
use Rattle.vrl_token.proofs.scan.split_run.Goals as goal

pub split_at-requires : goal.split_at-requires
split_at-requires c = IsCharBoundary-behind_run c.args.class c.args.text.now c.run_length.result c.utf8.text c.run_length.ensures.within c.run_length.ensures.before

pub returns : goal.returns
returns c = longest_run_at (IsIn c.args.class) c.args.text.now _ _ c.run_length.result c.split_at.ensures.front c.split_at.ensures.back c.run_length.ensures.within c.run_length.ensures.before c.run_length.ensures.after
