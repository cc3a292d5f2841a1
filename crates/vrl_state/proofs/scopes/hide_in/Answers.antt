use Rattle.std.proofs.Common.{◌≡◌, ◌∷◌, IfOk, option_map, subst, sym, ◌∙◌}
use Rattle.std.proofs.lemmas.Result.{IfOk-weaker}
use Rattle.vrl_state.specs.States.{hiding, IsRootKindIf}
use Rattle.vrl_state.specs.View.{scope_of}
use Rattle.vrl_state.proofs.Turning.{hidden_roots, opened_not, opened_now}
use Rattle.vrl_state.proofs.scopes.hide_in.Goals as goal

pub returns-then-not-has : goal.returns-then-not-has
returns-then-not-has c =
    let scope = c.args.scope.now in
    subst (λ o. IfOk c.open-then-not-has.result (λ scopes. scopes ≡ hiding c.args.name.now (option_map (λ kind. kind.now.value) o) (scope_of scope.known scope.hidden) ∷ scope.outer)) (sym c.in-Some.is)
    (IfOk-weaker c.open-then-not-has.result _ _ (λ scopes is. opened_not c.args.name.now c.in-Some.kind.now.value scope.known scope.hidden scope.outer scopes (sym c.has.ensures ∙ c.if-not-has.true) is) c.open-then-not-has.ensures)

pub open-requires-2 : goal.open-requires-2
open-requires-2 c =
    hidden_roots c.args.scope.now.hidden c.in_ok-hidden.hidden c.args.name.now c.in-Some.kind.now.value c.in_ok-hidden.ensures
    (subst (λ o. IsRootKindIf (option_map (λ kind. kind.now.value) o)) c.in-Some.is c.requires.kind) c.requires.hidden

pub returns : goal.returns
returns c =
    let scope = c.args.scope.now in
    subst (λ o. IfOk c.open-2.result (λ scopes. scopes ≡ hiding c.args.name.now (option_map (λ kind. kind.now.value) o) (scope_of scope.known scope.hidden) ∷ scope.outer)) (sym c.in-Some.is)
    (IfOk-weaker c.open-2.result _ _
    (λ scopes is. opened_now c.args.name.now c.in-Some.kind.now.value scope.known scope.hidden c.in_ok-hidden.hidden scope.outer scopes (sym c.has.ensures ∙ c.if-not-has.false) (sym c.has-2.ensures ∙ c.if-has.false) c.in_ok-hidden.ensures is)
    c.open-2.ensures)
