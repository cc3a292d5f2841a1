use Rattle.std.proofs.Common.{◌≡◌, ◌++◌, ◌∷◌, rules}
use Rattle.vrl_state.specs.EntryView.{entry_of}
use Rattle.vrl_state.proofs.Parts.{puts-append}
use Rattle.vrl_state.proofs.tree.NameTree.+put_into.Goals as goal

pub returns : goal.returns
returns t c =
    let n = c.in-Some.node.value in
    let is : c.args.self.now.entries ≡ n.left.entries ++ entry_of n.entry ∷ n.right.entries = search rules in
    search (rules, puts-append n.left.entries (entry_of n.entry ∷ n.right.entries) c.args.others.now.entries)
