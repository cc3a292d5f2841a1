use Rattle.std.proofs.Common.{◌≡◌, take}
use Rattle.vrl_kind.specs.Tags.{all_tags}
use Rattle.vrl_builtin.specs.CutDown.{IsCutBy}
use Rattle.vrl_builtin.proofs.cutting.cut_down.Given as goal

abbrev pub invariant-loop-tag : goal.invariant-loop-tag
invariant-loop-tag l = (l.tag-items ≡ all_tags) × IsCutBy l.tags (take l.tag-index all_tags) l.kind l.lower
