use Rattle.std.proofs.Common.{◌≡◌, ◌<◌, length, get_or, Some, None, rules, sym, ap, ◌∙◌}
use Rattle.vrl_value.specs.View.{tree_of}
use Rattle.vrl_store.proofs.Started.{null_tree}
use Rattle.vrl_store.proofs.StoreReads.{root_variable}
use Rattle.vrl_store.proofs.store.Store.root.Goals as goal

pub returns-in-Some : goal.returns-in-Some
returns-in-Some c = λ names are.
    let s = c.args.self.now in
    let n = c.in-Variable.number in
    let within : n < length s.variables.items = rw c.in-Variable.is at c.requires.base in
    let got : Some c.in-Some.value ≡ get_or s.variables.items n (Some c.in-Some.value) = search rules in
    rw c.in-Variable.is (sym (root_variable names s n (Some c.in-Some.value) are within got))

pub returns-in-None : goal.returns-in-None
returns-in-None c = λ names are.
    let s = c.args.self.now in
    let n = c.in-Variable.number in
    let within : n < length s.variables.items = rw c.in-Variable.is at c.requires.base in
    let got : None ≡ get_or s.variables.items n None = search rules in
    rw c.in-Variable.is (ap tree_of s.nothing ∙ null_tree ∙ sym (root_variable names s n None are within got))
