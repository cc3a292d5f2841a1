use Rattle.std.proofs.Common.{◌≡◌, false, not, Option, Some, None, is_some, true≢false, refl, sym, ap, ◌∙◌, subst}
use Rattle.std.proofs.lemmas.Result.{IfOk-weaker}
use Rattle.vrl_kind.specs.KindTree.{KindTree}
use Rattle.vrl_state.specs.States.{IsJoined, RootMap, State}
use Rattle.vrl_syntax.specs.declared.root.Target.{Target}
use Rattle.vrl_syntax.specs.declared.root.Target.TheVariants.{Nowhere, Place}
use Rattle.vrl_judge.specs.Rules.{IsTargetWritten}
use Rattle.vrl_judge.specs.Judging.{known_on, AreWritten, AreWrittenBeside}
use Rattle.vrl_judge.proofs.Joining.{join_none}
use Rattle.vrl_judge.proofs.checker.Checker.write_behind_error.Goals as goal

-- where no way leads nothing is written
written_none : (t : Target) (K : KindTree) → IsTargetWritten t K None None
written_none Nowhere K = refl
written_none (Place span root path) K = refl

none_known : (branch : Option State) → is_some branch ≡ false → known_on branch ≡ None
none_known None is = refl
none_known (Some s) is = absurd (true≢false is)

without_error : (t u : Target) (K L : KindTree) (known fail : Option RootMap) → fail ≡ None → AreWrittenBeside t u K L known fail known
without_error t u K L known fail none = record {
  failed = None;
  written = record { between = None; first = subst (λ f. IsTargetWritten t K f None) (sym none) (written_none t K); second = written_none u L };
  joined = join_none known;
}

behind_error : (t u : Target) (K L : KindTree) (known fail start failed marked after : Option RootMap) → start ≡ fail → AreWritten t u K L start failed → marked ≡ known → IsJoined marked failed after → AreWrittenBeside t u K L known fail after
behind_error t u K L known fail start failed marked after starts written back joined = record {
  failed = failed;
  written = subst (λ f. AreWritten t u K L f failed) starts written;
  joined = subst (λ m. IsJoined m failed after) back joined;
}

pub returns-then-is_none-clause-written : goal.returns-then-is_none-clause-written
returns-then-is_none-clause-written c = without_error c.args.ok.now c.args.err.now c.args.empty.now c.args.text.now c.args.self.now.state.known (known_on c.args.fail) (none_known c.args.fail (c.is_none.ensures ∙ ap not c.if-is_none.true))

pub returns-clause-written : goal.returns-clause-written
returns-clause-written c =
    IfOk-weaker c.join_behind.result _ _
    (λ _ joined. behind_error c.args.ok.now c.args.err.now c.args.empty.now c.args.text.now c.args.self.now.state.known (known_on c.args.fail) c.go_to.new.self.state.known c.write_two.new.self.state.known c.in_ok-mark.mark.known c.join_behind.new.self.state.known
    c.go_to.ensures.known c.in_ok-write_two.ensures.written (ap (λ s. s.known) c.in_ok-mark.ensures.mark) joined)
    c.join_behind.ensures.known
