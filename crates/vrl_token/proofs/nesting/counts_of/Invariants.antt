use Rattle.std.proofs.Common.{take}
use Rattle.vrl_token.specs.Depths.{IsTally}
use Rattle.vrl_token.specs.Reading.{backwards}
use Rattle.vrl_token.proofs.nesting.counts_of.Given as goal

abbrev pub invariant-loop-spanned : goal.invariant-loop-spanned
invariant-loop-spanned l = IsTally (backwards (take l.spanned-index l.tokens)) l.tally
