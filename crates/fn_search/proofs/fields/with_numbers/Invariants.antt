use Rattle.std.proofs.Common.{◌≡◌, ◌+◌, length}
use Rattle.vrl_value.specs.View.{members_of}
use Rattle.vrl_pattern.specs.Places.{place_spans, AreParts}
use Rattle.fn_search.specs.Fields.{with_numbers}
use Rattle.fn_search.proofs.fields.with_numbers.Given as goal

abbrev pub invariant-loop-number : goal.invariant-loop-number
invariant-loop-number l =
    (with_numbers l.number l.text (place_spans l.left) (members_of l.fields) ≡ with_numbers 0 l.text (place_spans l.groups) (members_of l.initial.fields))
    × AreParts l.text (place_spans l.left) × (l.number + length (place_spans l.left) ≡ length l.groups)

abbrev pub decreases-loop-number : goal.decreases-loop-number
decreases-loop-number l = length (place_spans l.left)
