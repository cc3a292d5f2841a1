use Rattle.std.proofs.Common.{◌≡◌, sym, ◌∙◌, subst}
use Rattle.std.proofs.lemmas.Result.{IfOk-weaker}
use Rattle.vrl_state.specs.States.{IsLeftKind}
use Rattle.vrl_state.proofs.kinds.taken_out.Goals as goal

pub returns : goal.returns
returns c = IfOk-weaker c.share.result (λ shared. shared.value ≡ c.remove_cut.new.kind) _
    (λ shared same. subst (IsLeftKind c.args.kind.now.value c.args.path.now) (sym same)
    (subst (λ K. IsLeftKind K c.args.path.now c.remove_cut.new.kind) (c.in_ok-own.ensures ∙ c.deref.ensures) c.in_ok-remove_cut.ensures.ok))
    c.share.ensures
