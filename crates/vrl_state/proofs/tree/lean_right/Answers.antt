use Rattle.std.proofs.Common.{◌≡◌, ◌++◌, ◌∷◌, ◌∙◌, List, ap, rules, subst, sym}
use Rattle.std.proofs.lemmas.Result.{IfOk-weaker}
use Rattle.vrl_state.specs.EntryView.{entry_of}
use Rattle.vrl_state.specs.Ordered.{Entry, IsSorted}
use Rattle.vrl_state.proofs.Cutting.{shared, shared_twice, sorted_behind, sorted_upto}
use Rattle.vrl_state.proofs.tree.lean_right.Goals as goal

pub fork-requires-clause-sorted : goal.fork-requires-clause-sorted
fork-requires-clause-sorted c =
    let n = c.deref-then-height.result.now in
    let is : c.args.right.now.entries ≡ n.left.entries ++ entry_of n.entry ∷ n.right.entries = search rules in
    sorted_upto c.args.left.now.entries (entry_of c.args.entry.now) n.left.entries (entry_of n.entry) n.right.entries
    (subst (λ (es : List Entry). IsSorted (c.args.left.now.entries ++ entry_of c.args.entry.now ∷ es)) is c.requires.sorted)

pub fork-requires-2-clause-sorted : goal.fork-requires-2-clause-sorted
fork-requires-2-clause-sorted c =
    let n = c.in-Some.upper.value in
    let m = c.deref-4.result.now in
    let is : c.args.right.now.entries ≡ (m.left.entries ++ entry_of m.entry ∷ m.right.entries) ++ entry_of n.entry ∷ n.right.entries = search rules in
    sorted_upto c.args.left.now.entries (entry_of c.args.entry.now) m.left.entries (entry_of m.entry) m.right.entries
    (sorted_upto c.args.left.now.entries (entry_of c.args.entry.now) (m.left.entries ++ entry_of m.entry ∷ m.right.entries) (entry_of n.entry) n.right.entries
    (subst (λ (es : List Entry). IsSorted (c.args.left.now.entries ++ entry_of c.args.entry.now ∷ es)) is c.requires.sorted))

pub fork-requires-3-clause-sorted : goal.fork-requires-3-clause-sorted
fork-requires-3-clause-sorted c =
    let n = c.in-Some.upper.value in
    let m = c.in-Some-node.middle.value in
    let all : IsSorted ((m.left.entries ++ entry_of m.entry ∷ m.right.entries) ++ entry_of n.entry ∷ n.right.entries) = search rules in
    search (rules, sorted_behind m.left.entries (entry_of m.entry) m.right.entries (entry_of n.entry ∷ n.right.entries) all)

pub fork-requires-then-height-clause-sorted : goal.fork-requires-then-height-clause-sorted
fork-requires-then-height-clause-sorted c =
    let b = c.deref-then-height.result.now.left.entries in
    let m = entry_of c.deref-then-height-2.result.now.entry ∷ c.deref-then-height-3.result.now.right.entries in
    let is : c.args.right.now.entries ≡ b ++ m = search rules in
    subst IsSorted (sym (shared _ _ b m _ _ c.in_ok-lower.ensures.entries is)) c.requires.sorted

pub returns-then-height-clause-entries : goal.returns-then-height-clause-entries
returns-then-height-clause-entries c =
    let b = c.deref-then-height.result.now.left.entries in
    let m = entry_of c.deref-then-height-2.result.now.entry ∷ c.deref-then-height-3.result.now.right.entries in
    let is : c.args.right.now.entries ≡ b ++ m = search rules in
    IfOk-weaker c.fork-then-height.result _ _ (λ _ all. all ∙ shared _ _ b m _ _ c.in_ok-lower.ensures.entries is) c.fork-then-height.ensures.entries

pub fork-requires-4-clause-sorted : goal.fork-requires-4-clause-sorted
fork-requires-4-clause-sorted c =
    let l = c.deref-4.result.now.left.entries in
    let v = entry_of c.deref-8.result.now.entry in
    let r = c.deref-5.result.now.right.entries in
    let m = entry_of c.deref-6.result.now.entry ∷ c.deref-7.result.now.right.entries in
    let is : c.args.right.now.entries ≡ (l ++ v ∷ r) ++ m = search rules in
    let all = shared_twice _ _ l v r m _ _ c.in_ok-before.ensures.entries c.in_ok-behind.ensures.entries in
    subst IsSorted (ap (λ (es : List Entry). c.args.left.now.entries ++ entry_of c.args.entry.now ∷ es) is ∙ sym all) c.requires.sorted

pub returns-clause-entries : goal.returns-clause-entries
returns-clause-entries c =
    let l = c.deref-4.result.now.left.entries in
    let v = entry_of c.deref-8.result.now.entry in
    let r = c.deref-5.result.now.right.entries in
    let m = entry_of c.deref-6.result.now.entry ∷ c.deref-7.result.now.right.entries in
    let is : c.args.right.now.entries ≡ (l ++ v ∷ r) ++ m = search rules in
    let all = shared_twice _ _ l v r m _ _ c.in_ok-before.ensures.entries c.in_ok-behind.ensures.entries in
    IfOk-weaker c.fork-4.result _ _ (λ _ made. made ∙ all ∙ ap (λ (es : List Entry). c.args.left.now.entries ++ entry_of c.args.entry.now ∷ es) (sym is)) c.fork-4.ensures.entries
