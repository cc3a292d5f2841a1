use Rattle.std.proofs.Common.{◌≡◌, ◌++◌, ◌∷◌, Greater, Less, Some, option_map, rules, subst, sym, ◌∙◌}
use Rattle.vrl_state.specs.EntryView.{entry_of}
use Rattle.vrl_state.specs.Merging.{IsBeside}
use Rattle.vrl_state.specs.Ordered.{found, IsSorted}
use Rattle.vrl_state.specs.States.{IsVariableWithin}
use Rattle.vrl_state.proofs.Beside.{over_left_near, over_near_left, over_near_right, over_right_near}
use Rattle.vrl_state.proofs.Parts.{over_here, over_parts, AreOver}
use Rattle.vrl_state.proofs.tree.NameTree.+is_over.Goals as goal

pub returns-then-not-is_known_within : goal.returns-then-not-is_known_within
returns-then-not-is_known_within t c =
    let n = c.in-Some.node.value in
    let others = c.args.others.now.entries in
    let all : IsSorted (n.left.entries ++ entry_of n.entry ∷ n.right.entries) = search rules in
    let is : c.args.self.now.entries ≡ n.left.entries ++ entry_of n.entry ∷ n.right.entries = search rules in
    let known : found (entry_of n.entry).0 others ≡ option_map (λ kind. kind.now.value) c.around-near.result.kind = search rules in
    let kind : n.entry.kind.value ≡ c.deref-3.result.now.entry.kind.value = search rules in (
      λ never. cc,
      λ over.
          sym c.if-not-is_known_within.true
          ∙ c.is_known_within.ensures.1 (subst (λ K. IsVariableWithin (option_map (λ kind. kind.now.value) c.around-near.result.kind) (Some K)) kind
          (subst (λ o. IsVariableWithin o (Some n.entry.kind.value)) known (over_here others n.left.entries (entry_of n.entry) n.right.entries all (subst (AreOver others) is over)))),
    )

pub returns-then-not-is_over : goal.returns-then-not-is_over
returns-then-not-is_over t c =
    let n = c.in-Some.node.value in
    let others = c.args.others.now.entries in
    let all : IsSorted (n.left.entries ++ entry_of n.entry ∷ n.right.entries) = search rules in
    let is : c.args.self.now.entries ≡ n.left.entries ++ entry_of n.entry ∷ n.right.entries = search rules in
    let near = c.around-near.result.before.now.entries in
    let beside : IsBeside Less (entry_of n.entry).0 near others = search rules in
    let left : n.left.entries ≡ c.deref-4.result.now.left.entries = search rules in (
      λ never. cc,
      λ over.
          sym c.if-not-is_over.true
          ∙ c.is_over.ensures.1 (subst (AreOver near) left (over_near_left near others n.left.entries (entry_of n.entry) n.right.entries all beside (subst (AreOver others) is over))),
    )

pub returns : goal.returns
returns t c =
    let n = c.in-Some.node.value in
    let others = c.args.others.now.entries in
    let all : IsSorted (n.left.entries ++ entry_of n.entry ∷ n.right.entries) = search rules in
    let is : c.args.self.now.entries ≡ n.left.entries ++ entry_of n.entry ∷ n.right.entries = search rules in
    let known : option_map (λ kind. kind.now.value) c.around-near.result.kind ≡ found (entry_of n.entry).0 others = search rules in
    let kind : c.deref-3.result.now.entry.kind.value ≡ n.entry.kind.value = search rules in
    let left : c.deref-4.result.now.left.entries ≡ n.left.entries = search rules in
    let right : c.deref-5.result.now.right.entries ≡ n.right.entries = search rules in
    let near = c.around-near.result.before.now.entries in
    let far = c.around-near.result.behind.now.entries in
    let before : IsBeside Less (entry_of n.entry).0 near others = search rules in
    let behind : IsBeside Greater (entry_of n.entry).0 far others = search rules in (
      λ yes.
          subst (AreOver others) (sym is)
          (over_parts others n.left.entries (entry_of n.entry) n.right.entries all
          (subst (λ o. IsVariableWithin o (Some n.entry.kind.value)) known
          (subst (λ K. IsVariableWithin (option_map (λ kind. kind.now.value) c.around-near.result.kind) (Some K)) kind (c.is_known_within.ensures.0 c.if-not-is_known_within.false)))
          (over_left_near near others n.left.entries (entry_of n.entry) n.right.entries all before (subst (AreOver near) left (c.is_over.ensures.0 c.if-not-is_over.false)))
          (over_right_near far others n.left.entries (entry_of n.entry) n.right.entries all behind (subst (AreOver far) right (c.is_over-2.ensures.0 yes)))),
      λ over. c.is_over-2.ensures.1 (subst (AreOver far) (sym right) (over_near_right far others n.left.entries (entry_of n.entry) n.right.entries all behind (subst (AreOver others) is over))),
    )
