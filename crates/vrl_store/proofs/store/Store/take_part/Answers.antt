use Rattle.std.proofs.Common.{◌≡◌, ◌<◌, true, ◌∷◌, length, get_or, Some, None, rules, ◌∙◌}
use Rattle.vrl_value.specs.View.{tree_of}
use Rattle.vrl_store.specs.Kept.{IsShallow}
use Rattle.vrl_store.proofs.Taken.{left_there, nothing_there, part_there, same_absent, shallow_left}
use Rattle.vrl_store.proofs.Written.{kept_there, shallow_at}
use Rattle.vrl_store.proofs.store.Store.take_part.Goals as goal

pub returns-in-Some-clause-value : goal.returns-in-Some-clause-value
returns-in-Some-clause-value c = λ names are.
    let s = c.args.self.now in
    let n = c.in-Variable.number in
    let within : n < length s.variables.items = rw c.in-Variable.is at c.requires.base in
    let is : Some c.in-Some.variable ≡ get_or s.variables.items n (Some c.in-Some.variable) = search rules in
    rw c.in-Variable.is (c.take_from-in-Some.ensures.value ∙ part_there names s n c.args.path.now c.in-Some.variable are within is)

pub returns-in-Some-clause-removed : goal.returns-in-Some-clause-removed
returns-in-Some-clause-removed c = λ names are.
    let s = c.args.self.now in
    let n = c.in-Variable.number in
    let within : n < length s.variables.items = rw c.in-Variable.is at c.requires.base in
    let is : Some c.in-Some.variable ≡ get_or s.variables.items n (Some c.in-Some.variable) = search rules in
    rw c.in-Variable.is (left_there names s n c.args.path.now c.in-Some.variable c.take_from-in-Some.new.value are c.requires.part within is c.take_from-in-Some.ensures.rest)

pub returns-in-None-clause-value : goal.returns-in-None-clause-value
returns-in-None-clause-value c = λ names are.
    let s = c.args.self.now in
    let n = c.in-Variable.number in
    let within : n < length s.variables.items = rw c.in-Variable.is at c.requires.base in
    let none : None ≡ get_or s.variables.items n None = search rules in
    rw c.in-Variable.is (nothing_there names s n c.args.path.now are within none)

pub returns-in-None-clause-removed : goal.returns-in-None-clause-removed
returns-in-None-clause-removed c = λ names are.
    let s = c.args.self.now in
    let n = c.in-Variable.number in
    let within : n < length s.variables.items = rw c.in-Variable.is at c.requires.base in
    let none : None ≡ get_or s.variables.items n None = search rules in
    rw c.in-Variable.is (same_absent names s n c.args.path.now c.index_mut.result.now are c.requires.part within none c.in-None.is)

pub invariant_of-self : goal.invariant_of-self
invariant_of-self c =
    let s = c.args.self.now in
    record { kept = s.kept; within = λ is. shallow_left s.event c.take_from.new.value c.args.path.now (s.within is) c.take_from.ensures.rest; nothing = s.nothing }

pub invariant_of-self-in-Some : goal.invariant_of-self-in-Some
invariant_of-self-in-Some c =
    let s = c.args.self.now in
    let n = c.in-Variable.number in
    let within : n < length s.variables.items = rw c.in-Variable.is at c.requires.base in
    let is : Some c.in-Some.variable ≡ get_or s.variables.items n (Some c.in-Some.variable) = search rules in
    let shallow : s.are_shallow ≡ true → IsShallow (tree_of c.take_from-in-Some.new.value) =
    λ marked. shallow_left c.in-Some.variable c.take_from-in-Some.new.value c.args.path.now (shallow_at s.variables.items n c.in-Some.variable within is (s.kept.shallow marked)) c.take_from-in-Some.ensures.rest in
    record { kept = kept_there s.are_shallow s.variables.items (0 ∷ s.present.items) n c.in-Some.variable c.take_from-in-Some.new.value s.kept within is shallow; within = s.within; nothing = s.nothing }
