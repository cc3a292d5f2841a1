use Rattle.std.proofs.Common.{◌≡◌, ◌++◌, ◌∷◌, ◌∙◌, List, refl, rules, subst, sym}
use Rattle.std.proofs.lemmas.Result.{IfOk-weaker}
use Rattle.vrl_state.specs.EntryView.{entry_of}
use Rattle.vrl_state.specs.Ordered.{Entry, IsSorted}
use Rattle.vrl_state.proofs.Cutting.{shared, shared_twice, sorted_behind, sorted_upto}
use Rattle.vrl_state.proofs.tree.lean_left.Goals as goal

pub fork-requires-clause-sorted : goal.fork-requires-clause-sorted
fork-requires-clause-sorted c =
    let n = c.deref-then-height.result.now in
    let m = entry_of c.args.entry.now ∷ c.args.right.now.entries in
    let is : c.args.left.now.entries ≡ n.left.entries ++ entry_of n.entry ∷ n.right.entries = search rules in
    sorted_behind n.left.entries (entry_of n.entry) n.right.entries m (subst (λ (es : List Entry). IsSorted (es ++ m)) is c.requires.sorted)

pub fork-requires-2-clause-sorted : goal.fork-requires-2-clause-sorted
fork-requires-2-clause-sorted c =
    let n = c.deref-4.result.now in
    let m = c.deref-6.result.now in
    let all : IsSorted (n.left.entries ++ entry_of n.entry ∷ (m.left.entries ++ entry_of m.entry ∷ m.right.entries)) = search rules in
    search (rules, sorted_upto n.left.entries (entry_of n.entry) m.left.entries (entry_of m.entry) m.right.entries all)

pub fork-requires-3-clause-sorted : goal.fork-requires-3-clause-sorted
fork-requires-3-clause-sorted c =
    let n = c.deref-4.result.now in
    let u = c.deref-7.result.now in
    let m = entry_of c.args.entry.now ∷ c.args.right.now.entries in
    let is : c.args.left.now.entries ≡ n.left.entries ++ entry_of n.entry ∷ (u.left.entries ++ entry_of u.entry ∷ u.right.entries) = search rules in
    sorted_behind u.left.entries (entry_of u.entry) u.right.entries m
    (sorted_behind n.left.entries (entry_of n.entry) (u.left.entries ++ entry_of u.entry ∷ u.right.entries) m (subst (λ (es : List Entry). IsSorted (es ++ m)) is c.requires.sorted))

pub fork-requires-then-height-clause-sorted : goal.fork-requires-then-height-clause-sorted
fork-requires-then-height-clause-sorted c =
    let a = c.deref-then-height-2.result.now.left.entries in
    let u = entry_of c.deref-then-height-3.result.now.entry in
    let b = c.deref-then-height.result.now.right.entries in
    let is : c.args.left.now.entries ≡ a ++ u ∷ b = search rules in
    subst IsSorted (shared a u b _ _ _ is c.in_ok-lower.ensures.entries) c.requires.sorted

pub returns-then-height-clause-entries : goal.returns-then-height-clause-entries
returns-then-height-clause-entries c =
    let a = c.deref-then-height-2.result.now.left.entries in
    let u = entry_of c.deref-then-height-3.result.now.entry in
    let b = c.deref-then-height.result.now.right.entries in
    let is : c.args.left.now.entries ≡ a ++ u ∷ b = search rules in
    IfOk-weaker c.fork-then-height.result _ _ (λ _ all. all ∙ sym (shared a u b _ _ _ is c.in_ok-lower.ensures.entries)) c.fork-then-height.ensures.entries

pub fork-requires-4-clause-sorted : goal.fork-requires-4-clause-sorted
fork-requires-4-clause-sorted c =
    let a = c.deref-4.result.now.left.entries in
    let u = entry_of c.deref-5.result.now.entry in
    let l = c.deref-6.result.now.left.entries in
    let v = entry_of c.deref-8.result.now.entry in
    let r = c.deref-7.result.now.right.entries in
    let is : c.args.left.now.entries ≡ a ++ u ∷ (l ++ v ∷ r) = search rules in
    subst IsSorted (shared a u (l ++ v ∷ r) _ _ _ is refl ∙ sym (shared_twice a u l v r _ _ _ c.in_ok-before.ensures.entries c.in_ok-behind.ensures.entries)) c.requires.sorted

pub returns-clause-entries : goal.returns-clause-entries
returns-clause-entries c =
    let a = c.deref-4.result.now.left.entries in
    let u = entry_of c.deref-5.result.now.entry in
    let l = c.deref-6.result.now.left.entries in
    let v = entry_of c.deref-8.result.now.entry in
    let r = c.deref-7.result.now.right.entries in
    let is : c.args.left.now.entries ≡ a ++ u ∷ (l ++ v ∷ r) = search rules in
    let all = shared_twice a u l v r _ _ _ c.in_ok-before.ensures.entries c.in_ok-behind.ensures.entries ∙ sym (shared a u (l ++ v ∷ r) _ _ _ is refl) in
    IfOk-weaker c.fork-4.result _ _ (λ _ made. made ∙ all) c.fork-4.ensures.entries
