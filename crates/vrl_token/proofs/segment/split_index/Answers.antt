use Rattle.vrl_token.proofs.SegmentLemmas.{no_closing}
use Rattle.vrl_token.proofs.segment.split_index.Goals as goal

pub returns-in_err-rest : goal.returns-in_err-rest
returns-in_err-rest c = rw c.from_residual-in_err-rest.ensures (no_closing _ c.in_ok-behind.ensures c.split_minus-negative.ensures c.in_ok-digits.ensures c.in_err-rest.ensures)
