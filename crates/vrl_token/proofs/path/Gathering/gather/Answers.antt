use Rattle.std.proofs.Common.{◌++◌, rules, arith}
use Rattle.std.proofs.lemmas.Grind.{common_steps}
use Rattle.vrl_token.proofs.Walks.{walked_all, walked_more}
use Rattle.vrl_token.proofs.path.Gathering.gather.Goals as goal

pub loop-segment-preserved : goal.loop-segment-preserved
loop-segment-preserved c = (
  search rules,
  λ before gathered.
      let walked = c.loop-segment.invariant.1 before gathered in
      let cut = c.in-Some.ensures in
      walked_more cut.0 walked cut.2 (c.in_ok-add.ensures (before ++ walked.so_far) cut.0 walked.gathered cut.1),
)

pub returns : goal.returns
returns c = λ before gathered. walked_all (c.loop-segment.invariant.1 before gathered) c.in_default.ensures

pub loop-segment-smaller : goal.loop-segment-smaller
loop-segment-smaller c = grind (arith, common_steps)
