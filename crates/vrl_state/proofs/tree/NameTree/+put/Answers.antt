use Rattle.std.proofs.Common.{◌≡◌, ◌++◌, ◌∷◌, Less, Equal, Greater, rules}
use Rattle.vrl_state.specs.EntryView.{entry_of}
use Rattle.vrl_state.specs.Ordered.{IsSorted}
use Rattle.vrl_state.proofs.Cutting.{name_cmp, put_left, put_here, put_right, sorted_put_left, sorted_put_here, sorted_put_right}
use Rattle.vrl_state.proofs.tree.NameTree.+put.Goals as goal

pub balanced-requires-clause-sorted : goal.balanced-requires-clause-sorted
balanced-requires-clause-sorted t c =
    let n = c.in-Some.node.value in
    let all : IsSorted (n.left.entries ++ entry_of n.entry ∷ n.right.entries) = search rules in
    let is : name_cmp ((entry_of c.args.entry.now).0) (entry_of n.entry).0 ≡ Less = search rules in
    search (rules, sorted_put_left (entry_of c.args.entry.now) n.left.entries (entry_of n.entry) n.right.entries all is)

pub fork-requires-in-Equal-clause-sorted : goal.fork-requires-in-Equal-clause-sorted
fork-requires-in-Equal-clause-sorted t c =
    let n = c.in-Some.node.value in
    let all : IsSorted (n.left.entries ++ entry_of n.entry ∷ n.right.entries) = search rules in
    let is : name_cmp ((entry_of c.args.entry.now).0) (entry_of n.entry).0 ≡ Equal = search rules in
    search (rules, sorted_put_here (entry_of c.args.entry.now) n.left.entries (entry_of n.entry) n.right.entries all is)

pub balanced-requires-in-Greater-clause-sorted : goal.balanced-requires-in-Greater-clause-sorted
balanced-requires-in-Greater-clause-sorted t c =
    let n = c.in-Some.node.value in
    let all : IsSorted (n.left.entries ++ entry_of n.entry ∷ n.right.entries) = search rules in
    let is : name_cmp ((entry_of c.args.entry.now).0) (entry_of n.entry).0 ≡ Greater = search rules in
    search (rules, sorted_put_right (entry_of c.args.entry.now) n.left.entries (entry_of n.entry) n.right.entries all is)

pub returns-in_ok-left-in-Less-clause-entries : goal.returns-in_ok-left-in-Less-clause-entries
returns-in_ok-left-in-Less-clause-entries t c =
    let n = c.in-Some.node.value in
    let all : IsSorted (n.left.entries ++ entry_of n.entry ∷ n.right.entries) = search rules in
    let is : name_cmp ((entry_of c.args.entry.now).0) (entry_of n.entry).0 ≡ Less = search rules in
    search (rules, put_left (entry_of c.args.entry.now) n.left.entries (entry_of n.entry) n.right.entries is)

pub returns-in-Equal-clause-entries : goal.returns-in-Equal-clause-entries
returns-in-Equal-clause-entries t c =
    let n = c.in-Some.node.value in
    let all : IsSorted (n.left.entries ++ entry_of n.entry ∷ n.right.entries) = search rules in
    let is : name_cmp ((entry_of c.args.entry.now).0) (entry_of n.entry).0 ≡ Equal = search rules in
    search (rules, put_here (entry_of c.args.entry.now) n.left.entries (entry_of n.entry) n.right.entries all is)

pub returns-in_ok-right-in-Greater-clause-entries : goal.returns-in_ok-right-in-Greater-clause-entries
returns-in_ok-right-in-Greater-clause-entries t c =
    let n = c.in-Some.node.value in
    let all : IsSorted (n.left.entries ++ entry_of n.entry ∷ n.right.entries) = search rules in
    let is : name_cmp ((entry_of c.args.entry.now).0) (entry_of n.entry).0 ≡ Greater = search rules in
    search (rules, put_right (entry_of c.args.entry.now) n.left.entries (entry_of n.entry) n.right.entries all is)
