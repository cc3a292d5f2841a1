use Rattle.std.proofs.Common.{is_some, nat_cmp, sym, ap, ◌∙◌}
use Rattle.std.proofs.lemmas.Result.{IfOk-weaker}
use Rattle.std.specs.Cmp.Lexicographic.{slice_cmp}
use Rattle.std.specs.FinMap as map
use Rattle.vrl_state.specs.States.{knows}
use Rattle.vrl_state.proofs.Versions.{has_name}
use Rattle.vrl_state.proofs.blocks.known_names.Goals as goal

pub returns-in-None : goal.returns-in-None
returns-in-None c = λ x.
    has_name c.new.result x ∙ ap (λ v. map.contains_key v x) c.new.ensures ∙ ap is_some (map.get-empty (slice_cmp nat_cmp) x) ∙ ap (λ k. knows k x) (sym c.in-None.is)

pub returns-in-Some : goal.returns-in-Some
returns-in-Some c = IfOk-weaker c.names.result _ _ (λ names is x. has_name names x ∙ ap (λ v. map.contains_key v x) is ∙ ap (λ k. knows k x) (sym c.in-Some.is)) c.names.ensures
