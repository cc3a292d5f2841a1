use Rattle.std.proofs.Common.{◌≡◌, length}
use Rattle.vrl_value.specs.Tree.{no_members}
use Rattle.vrl_value.specs.View.{members_of}
use Rattle.vrl_pattern.specs.Places.{place_spans, AreParts}
use Rattle.fn_search.specs.Fields.{with_names}
use Rattle.fn_search.proofs.fields.with_names.Given as goal

abbrev pub invariant-loop-name : goal.invariant-loop-name
invariant-loop-name l =
    (with_names l.names_left l.text (place_spans l.left) (members_of l.fields) ≡ with_names l.names l.text (place_spans l.groups) no_members)
    × AreParts l.text (place_spans l.left)

abbrev pub decreases-loop-name : goal.decreases-loop-name
decreases-loop-name l = length l.names_left
