use Rattle.std.proofs.Common.{◌≡◌, ◌++◌, drop}
use Rattle.vrl_syntax.specs.View.{args_view}
use Rattle.vrl_syntax.specs.Written.{argument_roots}
use Rattle.vrl_syntax.proofs.written.add_deleted.Given as goal

-- with the roots of the arguments that are left, those so far are all
abbrev pub invariant-loop-arg : goal.invariant-loop-arg
invariant-loop-arg l = l.roots.items ++ argument_roots (args_view (drop l.arg-index l.arg-items)) ≡ l.initial.roots.items ++ argument_roots (args_view l.arg-items)
