use Rattle.std.proofs.Common.{rules, sym, ◌∙◌}
use Rattle.vrl_format.proofs.Blanks.{trimmed_on, trimmed_plain}
use Rattle.vrl_format.proofs.comments.trimmed.Goals as goal

pub loop-front-preserved : goal.loop-front-preserved
loop-front-preserved c = (search rules, trimmed_on c.loop-front.rest.now c.in-Some.front.now c.args.text.now c.in-Some.ensures c.loop-front.invariant.1)

pub returns : goal.returns
returns c = sym (trimmed_plain c.loop-front.rest.now c.in_default.ensures) ∙ c.loop-front.invariant.1
