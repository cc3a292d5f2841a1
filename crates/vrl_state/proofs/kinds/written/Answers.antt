use Rattle.std.proofs.Common.{◌≡◌, sym, ◌∙◌, subst}
use Rattle.std.proofs.lemmas.Result.{IfOk-weaker}
use Rattle.vrl_state.specs.States.{IsWrittenKind}
use Rattle.vrl_state.proofs.kinds.written.Goals as goal

pub returns : goal.returns
returns c = IfOk-weaker c.share.result (λ shared. shared.value ≡ c.write_cut.new.kind) _
    (λ shared same. subst (IsWrittenKind c.args.kind.now.value c.args.path.now c.args.new.now) (sym same)
    (subst (λ K. IsWrittenKind K c.args.path.now c.args.new.now c.write_cut.new.kind) (c.in_ok-own.ensures ∙ c.deref.ensures) c.in_ok-write_cut.ensures.ok))
    c.share.ensures
