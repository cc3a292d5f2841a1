use Rattle.std.proofs.Common.{◌≡◌, ◌∷◌, ◌++◌, true, Greater, Less, bytes_eq, rules, subst, sym, ap, ◌∙◌}
use Rattle.std.proofs.lemmas.Slice.Eq.{bytes_eq-Decides}
use Rattle.vrl_state.specs.EntryView.{entry_of}
use Rattle.vrl_state.specs.Merging.{IsBeside}
use Rattle.vrl_state.specs.Ordered.{found, IsSorted}
use Rattle.vrl_state.proofs.Beside.{beside_left, beside_right}
use Rattle.vrl_state.proofs.Parts.{found_here}
use Rattle.vrl_state.proofs.tree.NameTree.around.Goals as goal

pub returns-then-eq-clause-before : goal.returns-then-eq-clause-before
returns-then-eq-clause-before c =
    let n = c.deref-then-eq.result.now in
    let all : IsSorted (n.left.entries ++ entry_of n.entry ∷ n.right.entries) = search rules in
    let is : c.args.self.now.entries ≡ n.left.entries ++ entry_of n.entry ∷ n.right.entries = search rules in
    let same : bytes_eq c.args.name.now (entry_of n.entry).0 ≡ true = search rules in
    subst (IsBeside Less c.args.name.now n.left.entries) (sym is) (beside_left c.args.name.now n.left.entries (entry_of n.entry) n.right.entries all ((bytes_eq-Decides c.args.name.now (entry_of n.entry).0).0 same))

pub returns-then-eq-clause-kind : goal.returns-then-eq-clause-kind
returns-then-eq-clause-kind c =
    let n = c.deref-then-eq-2.result.now in
    let all : IsSorted (n.left.entries ++ entry_of n.entry ∷ n.right.entries) = search rules in
    let is : c.args.self.now.entries ≡ n.left.entries ++ entry_of n.entry ∷ n.right.entries = search rules in
    let same : bytes_eq c.args.name.now (entry_of n.entry).0 ≡ true = search rules in
    sym (ap (found c.args.name.now) is ∙ found_here c.args.name.now n.left.entries (entry_of n.entry) n.right.entries all ((bytes_eq-Decides c.args.name.now (entry_of n.entry).0).0 same))

pub returns-then-eq-clause-behind : goal.returns-then-eq-clause-behind
returns-then-eq-clause-behind c =
    let n = c.deref-then-eq-3.result.now in
    let all : IsSorted (n.left.entries ++ entry_of n.entry ∷ n.right.entries) = search rules in
    let is : c.args.self.now.entries ≡ n.left.entries ++ entry_of n.entry ∷ n.right.entries = search rules in
    let same : bytes_eq c.args.name.now (entry_of n.entry).0 ≡ true = search rules in
    subst (IsBeside Greater c.args.name.now n.right.entries) (sym is) (beside_right c.args.name.now n.left.entries (entry_of n.entry) n.right.entries all ((bytes_eq-Decides c.args.name.now (entry_of n.entry).0).0 same))
