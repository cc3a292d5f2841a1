use Rattle.std.proofs.Common.{◌≡◌, ◌++◌, ◌∷◌, Less, Greater, is_some, rules, subst, sym}
use Rattle.vrl_state.specs.EntryView.{entry_of}
use Rattle.vrl_state.specs.Merging.{IsBeside, IsKeptAt, IsKeptPart}
use Rattle.vrl_state.specs.Ordered.{found, IsSorted}
use Rattle.vrl_state.proofs.Beside.{kept_left, kept_right}
use Rattle.vrl_state.proofs.Parts.{kept_parts}
use Rattle.vrl_state.proofs.tree.NameTree.+keep_into.Goals as goal

pub returns : goal.returns
returns t c =
    let n = c.in-Some.node.value in
    let names = c.args.names.now.entries in
    let before = c.args.kept.now.entries in
    let mid = c.keep_into.new.kept.entries in
    let next = c.keep_name.new.kept.entries in
    let after = c.keep_into-2.new.kept.entries in
    let all : IsSorted (n.left.entries ++ entry_of n.entry ∷ n.right.entries) = search rules in
    let is : c.args.self.now.entries ≡ n.left.entries ++ entry_of n.entry ∷ n.right.entries = search rules in
    let first' : IsKeptPart n.left.entries c.around-near.result.before.now.entries before mid = search rules in
    let near : IsBeside Less (entry_of n.entry).0 c.around-near.result.before.now.entries names = search rules in
    let first : IsKeptPart n.left.entries names before mid = kept_left c.around-near.result.before.now.entries names before mid n.left.entries (entry_of n.entry) n.right.entries all near first' in
    let second : IsKeptAt (is_some (found (entry_of n.entry).0 names)) (entry_of n.entry).0 mid next = search rules in
    let third' : IsKeptPart n.right.entries c.around-near.result.behind.now.entries next after = search rules in
    let far : IsBeside Greater (entry_of n.entry).0 c.around-near.result.behind.now.entries names = search rules in
    let third : IsKeptPart n.right.entries names next after = kept_right c.around-near.result.behind.now.entries names next after n.left.entries (entry_of n.entry) n.right.entries all far third' in
    subst (λ es. IsKeptPart es names before after) (sym is) (kept_parts names before mid next after n.left.entries (entry_of n.entry) n.right.entries all first second third)
