use Rattle.std.proofs.Common.{◌≡◌, ◌++◌, drop, length, map, IsTrue}
use Rattle.std.specs.List.{flat_map}
use Rattle.vrl_value.specs.Regexes.{items_regexes_below}
use Rattle.vrl_value.specs.View.{items_view, tree_of}
use Rattle.vrl_run.specs.Enclosed.{text_line}
use Rattle.vrl_run.proofs.kept.kept_each.Given as goal

-- the lines of what is left, behind those written, are the whole
abbrev pub invariant-loop-event : goal.invariant-loop-event
invariant-loop-event l =
    let left = drop l.event-index l.events in record {
      whole : l.lines.items ++ flat_map (text_line l.metadata l.sources) (map tree_of left) ≡ flat_map (text_line l.metadata l.sources) (map tree_of l.events);
      below : IsTrue (items_regexes_below (length l.sources) (items_view left));
    }
