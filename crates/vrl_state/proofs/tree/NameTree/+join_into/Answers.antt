use Rattle.std.proofs.Common.{◌≡◌, ◌++◌, ◌∷◌, ℕ, List, Less, Greater, ap, arith, length, length-append, rules, subst, sym}
use Rattle.vrl_state.specs.EntryView.{entry_of}
use Rattle.vrl_state.specs.Merging.{IsBeside, IsJoinedAt, IsJoinedPart, IsPartOf}
use Rattle.vrl_state.specs.Ordered.{found, Entry, IsSorted}
use Rattle.vrl_state.specs.States.{IsRootKindIf}
use Rattle.vrl_state.proofs.Beside.{joined_left, joined_right, kinds_part}
use Rattle.vrl_state.proofs.Parts.{joined_parts, kinds_here, kinds_left, kinds_right, part_here, part_left, part_right}
use Rattle.vrl_state.proofs.tree.NameTree.+join_into.Goals as goal

pub join_into-requires : goal.join_into-requires
join_into-requires t c =
    let n = c.deref-3.result.now in
    let all : IsSorted (n.left.entries ++ entry_of n.entry ∷ n.right.entries) = search rules in
    let is : c.args.self.now.entries ≡ n.left.entries ++ entry_of n.entry ∷ n.right.entries = search rules in
    let kinds : (x : List ℕ) → IsRootKindIf (found x (n.left.entries ++ entry_of n.entry ∷ n.right.entries)) = subst (λ (es : List Entry). (x : List ℕ) → IsRootKindIf (found x es)) is c.requires.kinds in
    let part : IsPartOf (n.left.entries ++ entry_of n.entry ∷ n.right.entries) c.args.joined.now.entries = subst (λ (es : List Entry). IsPartOf es c.args.joined.now.entries) is c.requires.part in (
      omega (arith, c.decreases, ap length is, length-append n.left.entries (entry_of n.entry ∷ n.right.entries)),
      (kinds_left IsRootKindIf n.left.entries (entry_of n.entry) n.right.entries tt all kinds, (kinds_part IsRootKindIf c.around-near.result.before.now.entries c.args.others.now.entries tt c.around-near.ensures.before.holds c.requires.others, part_left c.args.joined.now.entries n.left.entries (entry_of n.entry) n.right.entries all part)),
    )

pub join_entry-requires-clause-kind : goal.join_entry-requires-clause-kind
join_entry-requires-clause-kind t c =
    let n = c.deref-4.result.now in
    let all : IsSorted (n.left.entries ++ entry_of n.entry ∷ n.right.entries) = search rules in
    let is : c.args.self.now.entries ≡ n.left.entries ++ entry_of n.entry ∷ n.right.entries = search rules in
    kinds_here IsRootKindIf n.left.entries (entry_of n.entry) n.right.entries all (subst (λ (es : List Entry). (x : List ℕ) → IsRootKindIf (found x es)) is c.requires.kinds)

pub join_entry-requires-clause-part : goal.join_entry-requires-clause-part
join_entry-requires-clause-part t c =
    let n = c.deref-4.result.now in
    let all : IsSorted (n.left.entries ++ entry_of n.entry ∷ n.right.entries) = search rules in
    let is : c.args.self.now.entries ≡ n.left.entries ++ entry_of n.entry ∷ n.right.entries = search rules in
    let part : IsPartOf (n.left.entries ++ entry_of n.entry ∷ n.right.entries) c.args.joined.now.entries = subst (λ (es : List Entry). IsPartOf es c.args.joined.now.entries) is c.requires.part in
    let others = c.args.others.now.entries in
    let before = c.args.joined.now.entries in
    let mid = c.join_into.new.joined.entries in
    let first' : IsJoinedPart n.left.entries c.around-near.result.before.now.entries before mid = search rules in
    let near : IsBeside Less (entry_of n.entry).0 c.around-near.result.before.now.entries others = search rules in
    let first : IsJoinedPart n.left.entries others before mid = joined_left c.around-near.result.before.now.entries others before mid n.left.entries (entry_of n.entry) n.right.entries all near first' in
    part_here c.args.others.now.entries c.args.joined.now.entries c.join_into.new.joined.entries n.left.entries (entry_of n.entry) n.right.entries all part first

pub join_into-requires-2 : goal.join_into-requires-2
join_into-requires-2 t c =
    let n = c.deref-5.result.now in
    let others = c.args.others.now.entries in
    let before = c.args.joined.now.entries in
    let mid = c.join_into.new.joined.entries in
    let next = c.join_entry.new.joined.entries in
    let all : IsSorted (n.left.entries ++ entry_of n.entry ∷ n.right.entries) = search rules in
    let is : c.args.self.now.entries ≡ n.left.entries ++ entry_of n.entry ∷ n.right.entries = search rules in
    let kinds : (x : List ℕ) → IsRootKindIf (found x (n.left.entries ++ entry_of n.entry ∷ n.right.entries)) = subst (λ (es : List Entry). (x : List ℕ) → IsRootKindIf (found x es)) is c.requires.kinds in
    let part : IsPartOf (n.left.entries ++ entry_of n.entry ∷ n.right.entries) before = subst (λ (es : List Entry). IsPartOf es before) is c.requires.part in
    let first' : IsJoinedPart n.left.entries c.around-near.result.before.now.entries before mid = search rules in
    let near : IsBeside Less (entry_of n.entry).0 c.around-near.result.before.now.entries others = search rules in
    let first : IsJoinedPart n.left.entries others before mid = joined_left c.around-near.result.before.now.entries others before mid n.left.entries (entry_of n.entry) n.right.entries all near first' in
    let second : IsJoinedAt (entry_of n.entry) (found (entry_of n.entry).0 others) mid next = search rules in (
      omega (arith, c.decreases, ap length is, length-append n.left.entries (entry_of n.entry ∷ n.right.entries)),
      (kinds_right IsRootKindIf n.left.entries (entry_of n.entry) n.right.entries tt all kinds, (kinds_part IsRootKindIf c.around-near.result.behind.now.entries others tt c.around-near.ensures.behind.holds c.requires.others, part_right others before mid next n.left.entries (entry_of n.entry) n.right.entries all part first second)),
    )

pub returns : goal.returns
returns t c =
    let n = c.in-Some.node.value in
    let others = c.args.others.now.entries in
    let before = c.args.joined.now.entries in
    let mid = c.join_into.new.joined.entries in
    let next = c.join_entry.new.joined.entries in
    let after = c.join_into-2.new.joined.entries in
    let all : IsSorted (n.left.entries ++ entry_of n.entry ∷ n.right.entries) = search rules in
    let is : c.args.self.now.entries ≡ n.left.entries ++ entry_of n.entry ∷ n.right.entries = search rules in
    let first' : IsJoinedPart n.left.entries c.around-near.result.before.now.entries before mid = search rules in
    let near : IsBeside Less (entry_of n.entry).0 c.around-near.result.before.now.entries others = search rules in
    let first : IsJoinedPart n.left.entries others before mid = joined_left c.around-near.result.before.now.entries others before mid n.left.entries (entry_of n.entry) n.right.entries all near first' in
    let second : IsJoinedAt (entry_of n.entry) (found (entry_of n.entry).0 others) mid next = search rules in
    let third' : IsJoinedPart n.right.entries c.around-near.result.behind.now.entries next after = search rules in
    let far : IsBeside Greater (entry_of n.entry).0 c.around-near.result.behind.now.entries others = search rules in
    let third : IsJoinedPart n.right.entries others next after = joined_right c.around-near.result.behind.now.entries others next after n.left.entries (entry_of n.entry) n.right.entries all far third' in
    subst (λ es. IsJoinedPart es others before after) (sym is) (joined_parts others before mid next after n.left.entries (entry_of n.entry) n.right.entries all first second third)
