use denote.Text.{Utf8}
use denote.Shadow.{shadow}
use Rattle.std.proofs.Common.{◌≡◌, ◌++◌, length, map}
use Rattle.vrl_path.specs.declared.path.Step.TheVariants.{Field}
use Rattle.fn_object.specs.Unflatten.{cut_key}
use Rattle.fn_object.proofs.unflatten.cut_key.Given as goal

abbrev pub invariant-loop-piece : goal.invariant-loop-piece
invariant-loop-piece l = shadow (Utf8 l.rest) × (l.steps.items ++ map Field (cut_key (length l.rest) l.separator l.rest) ≡ map Field (cut_key (length l.name) l.separator l.name))

abbrev pub decreases-loop-piece : goal.decreases-loop-piece
decreases-loop-piece l = length l.rest
