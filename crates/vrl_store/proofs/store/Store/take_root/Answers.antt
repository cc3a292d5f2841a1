use Rattle.std.proofs.Common.{◌≡◌, ◌<◌, ◌∷◌, length, get_or, set, refl, Some, None, rules, sym, ap, ◌∙◌, subst, arith}
use Rattle.std.proofs.lemmas.Grind.{common_steps}
use Rattle.vrl_value.specs.View.{tree_of}
use Rattle.vrl_store.specs.Kept.{is_numbered, trees_of, IsShallow}
use Rattle.vrl_store.proofs.Started.{null_tree}
use Rattle.vrl_store.proofs.StoreReads.{root_variable, seen}
use Rattle.vrl_store.proofs.Taken.{root_left}
use Rattle.vrl_store.proofs.Written.{kept_there, numbered_at, set_same}
use Rattle.vrl_store.proofs.store.Store.take_root.Goals as goal

pub begin-requires-clause-absent : goal.begin-requires-clause-absent
begin-requires-clause-absent c =
    let items = c.args.self.now.variables.items in
    let n = c.in-Variable.number in
    let within : n < length items = rw c.in-Variable.is at c.requires.base in
    let none : None ≡ get_or items n None = search rules in
    ap (λ vs. is_numbered (trees_of vs) n) (ap (set items n) c.in-None.is ∙ set_same items n None none) ∙ numbered_at items n None within none

pub begin-requires-clause-shallow : goal.begin-requires-clause-shallow
begin-requires-clause-shallow c = λ marked. c.left_of-left.ensures.shallow

pub returns-in-Some-clause-value : goal.returns-in-Some-clause-value
returns-in-Some-clause-value c = λ names are.
    let s = c.args.self.now in
    let n = c.in-Variable.number in
    let within : n < length s.variables.items = rw c.in-Variable.is at c.requires.base in
    let is : Some c.in-Some.variable ≡ get_or s.variables.items n (Some c.in-Some.variable) = search rules in
    rw c.in-Variable.is (ap tree_of c.replace-in-Some.ensures.value ∙ sym (root_variable names s n (Some c.in-Some.variable) are within is))

pub returns-in-Some-clause-removed : goal.returns-in-Some-clause-removed
returns-in-Some-clause-removed c = λ names are.
    let s = c.args.self.now in
    let n = c.in-Variable.number in
    let within : n < length s.variables.items = rw c.in-Variable.is at c.requires.base in
    let left = ap tree_of c.replace-in-Some.ensures.after ∙ c.left_of-left.ensures.left names are.distinct are.first in
    rw c.in-Variable.is (root_left names s (set s.variables.items n (Some c.replace-in-Some.new.dest)) n c.replace-in-Some.new.dest are within refl left)

pub returns-in_ok-begin-in-None-clause-value : goal.returns-in_ok-begin-in-None-clause-value
returns-in_ok-begin-in-None-clause-value c = λ names are.
    let s = c.args.self.now in
    let n = c.in-Variable.number in
    let within : n < length s.variables.items = rw c.in-Variable.is at c.requires.base in
    let none : None ≡ get_or s.variables.items n None = search rules in
    rw c.in-Variable.is (null_tree ∙ sym (root_variable names s n None are within none))

pub returns-in_ok-begin-in-None-clause-removed : goal.returns-in_ok-begin-in-None-clause-removed
returns-in_ok-begin-in-None-clause-removed c = λ names are.
    let s = c.args.self.now in
    let n = c.in-Variable.number in
    let within : n < length s.variables.items = rw c.in-Variable.is at c.requires.base in
    let items = c.begin.new.self.variables.items in
    let none : None ≡ get_or s.variables.items n None = search rules in
    let old : set s.variables.items n c.index_mut.result.now ≡ s.variables.items = ap (set s.variables.items n) c.in-None.is ∙ set_same s.variables.items n None none in
    let got = c.in_ok-begin-in-None.ensures in
    let left = c.left_of-left.result in
    rw c.in-Variable.is (ap (λ event. seen names event items) got.event ∙ root_left names s items n left are within (got.value ∙ ap (λ vs. set vs n (Some left)) old) (c.left_of-left.ensures.left names are.distinct are.first))

pub invariant_of-self-in-Some : goal.invariant_of-self-in-Some
invariant_of-self-in-Some c =
    let s = c.args.self.now in
    let n = c.in-Variable.number in
    let within : n < length s.variables.items = rw c.in-Variable.is at c.requires.base in
    let is : Some c.in-Some.variable ≡ get_or s.variables.items n (Some c.in-Some.variable) = search rules in
    let shallow : IsShallow (tree_of c.replace-in-Some.new.dest) = subst (λ v. IsShallow (tree_of v)) (sym c.replace-in-Some.ensures.after) c.left_of-left.ensures.shallow in
    record { kept = kept_there s.are_shallow s.variables.items (0 ∷ s.present.items) n c.in-Some.variable c.replace-in-Some.new.dest s.kept within is (λ marked. shallow); within = s.within; nothing = s.nothing }

pub invariant_of-self-in-None : goal.invariant_of-self-in-None
invariant_of-self-in-None c = grind (arith, common_steps)

pub returns-in_err-begin-in-None-clause-same : goal.returns-in_err-begin-in-None-clause-same
returns-in_err-begin-in-None-clause-same c = grind (arith, common_steps)
