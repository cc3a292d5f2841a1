use Rattle.std.proofs.Common.{◌≡◌, ◌++◌, ◌-◌, replicate, vec_len}
use Rattle.vrl_value.specs.declared.value.Value.TheVariants.{Null}
use Rattle.vrl_value.proofs.padding.pad.Given as goal

-- as many nulls as places were passed
abbrev pub invariant-loop-place : goal.invariant-loop-place
invariant-loop-place l = l.values.items ≡ l.initial.values.items ++ replicate (l._place - vec_len l.initial.values) Null
