use Rattle.std.proofs.Common.{◌≡◌, length}
use Rattle.vrl_syntax.specs.View.{expr_of}
use Rattle.vrl_word.specs.Words.{with_holes}
use Rattle.vrl_word.proofs.template.with_holes.Given as goal

-- with what is left, the sum so far is the whole one
abbrev pub invariant-loop-hole : goal.invariant-loop-hole
invariant-loop-hole l = with_holes l.span (expr_of l.sum) l.rest ≡ with_holes l.fn.span (expr_of l.fn.first) l.fn.holes

abbrev pub decreases-loop-hole : goal.decreases-loop-hole
decreases-loop-hole l = length l.rest
