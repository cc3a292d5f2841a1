use Rattle.std.proofs.Common.{◌≡◌, ◌∷◌, length, map, take, ap, ◌∙◌, arith}
use Rattle.std.proofs.lemmas.Grind.{common_steps}
use Rattle.std.specs.FinMap as finite
use Rattle.vrl_value.specs.View.{tree_of}
use Rattle.vrl_store.specs.Kept.{trees_of}
use Rattle.vrl_store.specs.StoreView.{is_among, name_at, variables_of}
use Rattle.vrl_store.proofs.Left.{left_names}
use Rattle.vrl_store.proofs.StoreReads.{length_map}
use Rattle.vrl_store.proofs.store.Store.leave.Goals as goal

pub returns-clause-left : goal.returns-clause-left
returns-clause-left c = λ names are.
    let before = c.args.self.now in
    let after = c.loop-self.self in
    let kept = after.kept in
    let as_many = c.loop-self.invariant.as_many in
    let first = are.as_many in
    let mapped = length_map before.variables.items in
    let mapped_after = length_map after.variables.items in
    let counted : length after.present.items ≡ c.args.count = omega arith in
    let present : after.present.items ≡ take c.args.count before.present.items = c.loop-self.invariant.present ∙ ap (λ n. take n before.present.items) counted in
    let left = left_names names (trees_of before.variables.items) (trees_of after.variables.items) (0 ∷ after.present.items) are.distinct (omega arith) (omega arith) kept.present kept.counted c.loop-self.invariant.stay in
    let all = left ∙ ap (λ ps. finite.retain_keys (variables_of names (trees_of before.variables.items)) (λ x. is_among x (map (name_at names) (0 ∷ ps)))) present in
    let event = ap tree_of c.loop-self.invariant.event in
    λ i. record { event = event i; variables = all i }

pub loop-self-init : goal.loop-self-init
loop-self-init c = grind (arith, common_steps)

pub loop-self-preserved : goal.loop-self-preserved
loop-self-preserved c = grind (arith, common_steps)
