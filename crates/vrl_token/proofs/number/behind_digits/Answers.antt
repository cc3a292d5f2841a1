use Rattle.std.proofs.Common.{rules}
use Rattle.vrl_token.proofs.Digits.{all_digits, first_digits, more_digits}
use Rattle.vrl_token.proofs.number.behind_digits.Goals as goal

pub loop-more-init : goal.loop-more-init
loop-more-init c = (search rules, first_digits c.requires c.split_run.ensures)

pub loop-more-preserved : goal.loop-more-preserved
loop-more-preserved c = (search rules, more_digits c.loop-more.invariant.1 c.in-Some.ensures.0 c.in-Some.ensures.1 c.split_run-in-Some.ensures)

pub returns : goal.returns
returns c = all_digits c.loop-more.invariant.1 c.in_default.ensures
