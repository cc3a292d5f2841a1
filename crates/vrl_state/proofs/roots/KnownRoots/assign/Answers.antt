use Rattle.std.proofs.Common.{◌≡◌, Some, length, subst, sym, arith}
use Rattle.std.proofs.lemmas.Bool.Decides.{nat_tests}
use Rattle.std.proofs.lemmas.Result.{on_ok_weaker}
use Rattle.vrl_path.specs.declared.path.Step.{Step}
use Rattle.vrl_state.specs.States.{IsWritten}
use Rattle.vrl_state.proofs.Limits.{no_steps}
use Rattle.vrl_state.proofs.roots.KnownRoots.assign.Goals as goal

pub returns-then-is_empty-clause-ok : goal.returns-then-is_empty-clause-ok
returns-then-is_empty-clause-ok c =
    let none : length {A = Step} c.args.path.now ≡ 0 = grind (arith, nat_tests, c.as_slice.ensures, c.is_empty.ensures, c.if-is_empty.true) in
    on_ok_weaker c.assign_whole.result
    (λ is. subst (λ p. IsWritten c.args.root.now p c.args.new.now.value (Some c.args.self.now) (Some c.assign_whole.new.self)) (sym (no_steps c.args.path.now none)) is) c.assign_whole.ensures.ok
