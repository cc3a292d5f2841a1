use Rattle.std.proofs.Common.{◌≡◌, ◌∷◌, option_map, rules, sym, ap, ◌∙◌}
use Rattle.vrl_state.specs.States.{kept}
use Rattle.vrl_state.specs.View.{scope_of}
use Rattle.vrl_state.proofs.blocks.leave.Goals as goal

pub returns-clause-left : goal.returns-clause-left
returns-clause-left c =
    let n = c.in-Some.scope.value in
    let known : c.leave_scope.new.known ≡ option_map (kept (scope_of n.known n.hidden)) c.args.known.now = search rules in
    let scopes : c.args.scopes.now ≡ scope_of n.known n.hidden ∷ c.in_ok-outer.outer = search rules in
    record { scope = scope_of n.known n.hidden; scopes = scopes ∙ ap (λ ss. scope_of n.known n.hidden ∷ ss) (sym c.drop.view_is); known = known }
