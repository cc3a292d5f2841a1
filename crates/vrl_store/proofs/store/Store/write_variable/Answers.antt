use Rattle.std.proofs.Common.{◌≡◌, true, ◌∷◌, get_or, set, Some, None, rules, ap, ◌∙◌}
use Rattle.vrl_value.specs.View.{tree_of}
use Rattle.vrl_store.specs.Kept.{is_numbered, trees_of, IsShallow}
use Rattle.vrl_store.proofs.Written.{kept_there, numbered_at, set_same, shallow_at, shallow_written, within_there, written_in}
use Rattle.vrl_store.proofs.store.Store.write_variable.Goals as goal

pub set_in-requires-clause-shallow : goal.set_in-requires-clause-shallow
set_in-requires-clause-shallow c = λ marked.
    let items = c.args.self.now.variables.items in
    let is : Some c.in-Some.variable ≡ get_or items c.args.number (Some c.in-Some.variable) = search rules in
    shallow_at items c.args.number c.in-Some.variable c.requires.known is (c.args.self.now.kept.shallow marked)

pub write_new-requires-clause-absent : goal.write_new-requires-clause-absent
write_new-requires-clause-absent c =
    let items = c.args.self.now.variables.items in
    let none : None ≡ get_or items c.args.number None = search rules in
    ap (λ vs. is_numbered (trees_of vs) c.args.number) (ap (set items c.args.number) c.in-None.is ∙ set_same items c.args.number None none)
    ∙ numbered_at items c.args.number None c.requires.known none

pub returns-in-Some-clause-written : goal.returns-in-Some-clause-written
returns-in-Some-clause-written c = λ names are.
    let s = c.args.self.now in
    let is : Some c.in-Some.variable ≡ get_or s.variables.items c.args.number (Some c.in-Some.variable) = search rules in
    written_in names s c.args.number c.args.path.now (tree_of c.args.value) c.in-Some.variable c.set_in.new.root c.set_in.result are c.requires.known is
    c.set_in.ensures.ok c.set_in.ensures.within c.set_in.ensures.deep c.set_in.ensures.err

pub returns-in-Some-clause-want : goal.returns-in-Some-clause-want
returns-in-Some-clause-want c = λ want names are.
    let s = c.args.self.now in
    let is : Some c.in-Some.variable ≡ get_or s.variables.items c.args.number (Some c.in-Some.variable) = search rules in
    within_there names s c.args.number c.args.path.now (tree_of c.args.value) (Some c.in-Some.variable) are c.requires.known is (c.set_in.ensures.want want)

pub invariant_of-self : goal.invariant_of-self
invariant_of-self c =
    let s = c.args.self.now in
    let is : Some c.in-Some.variable ≡ get_or s.variables.items c.args.number (Some c.in-Some.variable) = search rules in
    let before : s.are_shallow ≡ true → IsShallow (tree_of c.in-Some.variable) = λ marked. shallow_at s.variables.items c.args.number c.in-Some.variable c.requires.known is (s.kept.shallow marked) in
    let shallow : s.are_shallow ≡ true → IsShallow (tree_of c.set_in.new.root) =
    λ marked. shallow_written (tree_of c.in-Some.variable) (tree_of c.set_in.new.root) c.set_in.result (before marked) c.set_in.ensures.within c.set_in.ensures.err in
    record { kept = kept_there s.are_shallow s.variables.items (0 ∷ s.present.items) c.args.number c.in-Some.variable c.set_in.new.root s.kept c.requires.known is shallow; within = s.within; nothing = s.nothing }
