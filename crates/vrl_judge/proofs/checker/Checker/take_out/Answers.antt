use Rattle.std.proofs.Common.{◌≡◌, [], ap, length, subst, sym, ◌∙◌}
use Rattle.std.proofs.lemmas.Bool.{eqb-true}
use Rattle.std.proofs.lemmas.Result.{IfOk-weaker}
use Rattle.vrl_value.specs.View.{tree_of}
use Rattle.vrl_state.specs.States.{IsPresent, IsWritten}
use Rattle.vrl_judge.proofs.Deleted.{root_present, root_taken, empty_list}
use Rattle.vrl_judge.proofs.checker.Checker.take_out.Goals as goal

pub assign-requires-clause-present : goal.assign-requires-clause-present
assign-requires-clause-present c = subst IsPresent (sym (c.as_shared.ensures ∙ c.in_ok-shared.ensures)) (root_present c.args.root.now (tree_of c.empty_value-left.result) c.in_ok-kind.kind (c.empty_value-left.ensures ∙ c.left_tag.ensures) c.in_ok-kind.ensures.tags)

pub returns-clause-known : goal.returns-clause-known
returns-clause-known c =
    let none : length c.as_slice.result.now ≡ 0 = eqb-true (length c.as_slice.result.now) 0 (sym c.is_empty.ensures ∙ c.if-not-is_empty.false) in
    let empty : c.args.path.now ≡ [] = empty_list c.args.path.now (ap length (sym c.as_slice.ensures) ∙ none) in
    IfOk-weaker c.assign.result _ _
    (λ _ written. root_taken c.args.root.now c.args.path.now (tree_of c.empty_value-left.result) c.in_ok-kind.kind c.args.self.now.state.known c.assign.new.self.known empty (c.empty_value-left.ensures ∙ c.left_tag.ensures) c.kind_is_canonical.ensures c.in_ok-kind.ensures.tags
    (subst (λ K. IsWritten c.args.root.now c.args.path.now K c.args.self.now.state.known c.assign.new.self.known) (c.as_shared.ensures ∙ c.in_ok-shared.ensures) written))
    c.assign.ensures.written
