use Rattle.std.proofs.Common.{◌≡◌, ◌+◌, drop, option_map}
use Rattle.vrl_binding.specs.Binding.{names_of, positional_at}
use Rattle.vrl_binding.proofs.binding.place_of_positional.Given as goal

abbrev pub invariant-loop-place : goal.invariant-loop-place
invariant-loop-place l = positional_at l.index (names_of l.arguments) ≡ option_map (λ n. l.place + n) (positional_at l.before (names_of (drop l.place l.arguments)))
