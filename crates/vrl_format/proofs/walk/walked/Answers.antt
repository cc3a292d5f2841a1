use Rattle.std.proofs.Common.{rules}
use Rattle.std.proofs.lemmas.Str.{IsCharBoundary-start}
use Rattle.vrl_format.proofs.Steps.{walked_none, walked_on}
use Rattle.vrl_format.proofs.walk.walked.Goals as goal

pub loop-first-init : goal.loop-first-init
loop-first-init c =
    walked_none c.args.text.now c.args.tokens.now c.new-walk.result c.new-walk.ensures c.requires.short c.requires.spans c.requires.characters (IsCharBoundary-start c.args.text.now c.utf8.text)

pub loop-first-preserved : goal.loop-first-preserved
loop-first-preserved c =
    walked_on c.args.text.now c.args.tokens.now c.loop-first.walk c.step.new.self c.loop-first.place c.loop-first.rest.now c.in-Some.behind.now c.in-Some.first.now (search rules) c.loop-first.invariant c.in_ok-step.ensures
