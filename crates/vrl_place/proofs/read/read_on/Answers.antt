use Rattle.std.proofs.Common.{◌≡◌, ◌<◌, ◌+◌, ℕ, suc, List, ◌∷◌, length, drop, get_or, drop-cons, add-one, sym, ap, ◌∙◌, subst, arith}
use Rattle.std.proofs.lemmas.List.{drop_all}
use Rattle.vrl_path.specs.declared.path.Step.{Step as CodeStep}
use Rattle.vrl_kind.specs.Kinds.{tags_at}
use Rattle.vrl_place.specs.Inner.{spot_sets}
use Rattle.vrl_place.specs.Read.{HasJust, allowed, read, read_step}
use Rattle.vrl_place.proofs.Reading.{read_further, read_same}
use Rattle.vrl_place.proofs.read.read_on.Goals as goal

next_step : (items : List CodeStep) (i : ℕ) (it : CodeStep) → i < length items → it ≡ get_or items i it → drop i items ≡ it ∷ drop (i + 1) items
next_step items i it within is = rw add-one (drop-cons items i it within ∙ ap (λ x. x ∷ drop (suc i) items) (sym is))

pub loop-step-preserved : goal.loop-step-preserved
loop-step-preserved c = λ K has.
    let items = c.args.steps.now in
    let i = c.loop-step.step-index in
    c.loop-step.invariant K
    (read_same (spot_sets c.of.result) (tags_at c.loop-step.found) K c.step-item.result (drop (i + 1) items) (drop i items) c.of.ensures (next_step items i c.step-item.result c.loop-step-test.true c.step-item.is)
    (read_further (read_step (allowed (spot_sets c.of.result)) c.step-item.result) (tags_at c.in_ok-found.found) K (drop (i + 1) items) c.in_ok-found.ensures has))

pub returns : goal.returns
returns c = c.loop-step.invariant (tags_at c.loop-step.found)
    (subst (λ r. HasJust (tags_at c.loop-step.found) (read (allowed (tags_at c.loop-step.found)) r)) (sym (drop_all c.loop-step.step-index c.args.steps.now (omega arith))) (λ p t. (λ h. h, λ h. h)))
