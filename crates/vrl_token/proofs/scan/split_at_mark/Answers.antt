use Rattle.std.proofs.Common.{◌≢◌}
use Rattle.std.proofs.lemmas.Str.Pattern.{split_parts}
use Rattle.vrl_token.proofs.Tested.{weaker}
use Rattle.vrl_token.proofs.Runs.{passes-all, run_before_mark}
use Rattle.vrl_token.proofs.scan.split_at_mark.Goals as goal

pub returns : goal.returns
returns c =
    weaker c.split_once.result (passes-all (λ b. b ≢ c.args.mark) c.args.text.now) (λ cut h. run_before_mark c.args.mark c.args.text.now _ _ h.0 h.1) (split_parts c.args.mark c.args.text.now c.split_once.result c.split_once.ensures.cases c.requires)
