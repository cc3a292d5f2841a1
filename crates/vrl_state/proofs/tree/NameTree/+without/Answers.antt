use Rattle.std.proofs.Common.{◌≡◌, ◌++◌, ◌∷◌, Less, Equal, Greater, rules}
use Rattle.vrl_state.specs.EntryView.{entry_of}
use Rattle.vrl_state.specs.Ordered.{IsSorted}
use Rattle.vrl_state.proofs.Cutting.{name_cmp, keep_left, keep_here, keep_right, sorted_keep_left, sorted_keep_here, sorted_keep_right}
use Rattle.vrl_state.proofs.tree.NameTree.+without.Goals as goal

pub balanced-requires-clause-sorted : goal.balanced-requires-clause-sorted
balanced-requires-clause-sorted t c =
    let n = c.in-Some.node.value in
    let all : IsSorted (n.left.entries ++ entry_of n.entry ∷ n.right.entries) = search rules in
    let is : name_cmp (c.args.name.now) (entry_of n.entry).0 ≡ Less = search rules in
    search (rules, sorted_keep_left (c.args.name.now) n.left.entries (entry_of n.entry) n.right.entries all is)

pub glued-requires-clause-sorted : goal.glued-requires-clause-sorted
glued-requires-clause-sorted t c =
    let n = c.in-Some.node.value in
    let all : IsSorted (n.left.entries ++ entry_of n.entry ∷ n.right.entries) = search rules in
    let is : name_cmp (c.args.name.now) (entry_of n.entry).0 ≡ Equal = search rules in
    search (rules, sorted_keep_here (c.args.name.now) n.left.entries (entry_of n.entry) n.right.entries all is)

pub balanced-requires-in-Greater-clause-sorted : goal.balanced-requires-in-Greater-clause-sorted
balanced-requires-in-Greater-clause-sorted t c =
    let n = c.in-Some.node.value in
    let all : IsSorted (n.left.entries ++ entry_of n.entry ∷ n.right.entries) = search rules in
    let is : name_cmp (c.args.name.now) (entry_of n.entry).0 ≡ Greater = search rules in
    search (rules, sorted_keep_right (c.args.name.now) n.left.entries (entry_of n.entry) n.right.entries all is)

pub returns-in_ok-left-in-Less-clause-entries : goal.returns-in_ok-left-in-Less-clause-entries
returns-in_ok-left-in-Less-clause-entries t c =
    let n = c.in-Some.node.value in
    let all : IsSorted (n.left.entries ++ entry_of n.entry ∷ n.right.entries) = search rules in
    let is : name_cmp (c.args.name.now) (entry_of n.entry).0 ≡ Less = search rules in
    search (rules, keep_left (c.args.name.now) n.left.entries (entry_of n.entry) n.right.entries all is)

pub returns-in-Equal-clause-entries : goal.returns-in-Equal-clause-entries
returns-in-Equal-clause-entries t c =
    let n = c.in-Some.node.value in
    let all : IsSorted (n.left.entries ++ entry_of n.entry ∷ n.right.entries) = search rules in
    let is : name_cmp (c.args.name.now) (entry_of n.entry).0 ≡ Equal = search rules in
    search (rules, keep_here (c.args.name.now) n.left.entries (entry_of n.entry) n.right.entries all is)

pub returns-in_ok-right-in-Greater-clause-entries : goal.returns-in_ok-right-in-Greater-clause-entries
returns-in_ok-right-in-Greater-clause-entries t c =
    let n = c.in-Some.node.value in
    let all : IsSorted (n.left.entries ++ entry_of n.entry ∷ n.right.entries) = search rules in
    let is : name_cmp (c.args.name.now) (entry_of n.entry).0 ≡ Greater = search rules in
    search (rules, keep_right (c.args.name.now) n.left.entries (entry_of n.entry) n.right.entries all is)
