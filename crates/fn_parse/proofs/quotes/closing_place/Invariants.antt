use Rattle.std.proofs.Common.{◌≡◌, ◌+◌, ◌-◌, ◌≤◌, length, option_map}
use Rattle.fn_parse.specs.Quotes.{closing_place}
use Rattle.fn_parse.proofs.quotes.closing_place.Given as goal

abbrev pub invariant-loop-first : goal.invariant-loop-first
invariant-loop-first l = record { within : length l.left ≤ length l.text; whole : option_map (λ n. (length l.text - length l.left) + n) (closing_place l.left) ≡ closing_place l.text }

abbrev pub decreases-loop-first : goal.decreases-loop-first
decreases-loop-first l = length l.left
