use Rattle.std.proofs.Common.{◌≡◌, None, ap, ◌∙◌, subst}
use Rattle.std.proofs.lemmas.Result.{err_from_is_err_and}
use Rattle.vrl_value.specs.View.{tree_of}
use Rattle.std.specs.declared.result.Result.TheVariants.{Err}
use Rattle.vrl_path.specs.declared.fault.SetFault.TheVariants as fault
use Rattle.vrl_store.specs.Kept.{IsShallow}
use Rattle.vrl_store.proofs.StoreReads.{seen}
use Rattle.vrl_store.proofs.Written.{absent_at, unwritten_in, within_there, written_there}
use Rattle.vrl_store.proofs.store.Store.write_new.Goals as goal

pub begin-requires-clause-shallow : goal.begin-requires-clause-shallow
begin-requires-clause-shallow c = λ marked. c.in_ok-variable.ensures.within

pub returns-in_err-variable-clause-written : goal.returns-in_err-variable-clause-written
returns-in_err-variable-clause-written c = λ names are.
    let f = c.in_err-variable.field-0.0 in
    let p = err_from_is_err_and c.from_residual.result c.from_residual.ensures.1 in
    let is = unwritten_in names c.args.self.now c.args.number c.args.path.now (tree_of c.args.value) f are c.requires.known c.requires.absent (λ deep. c.in_err-variable.ensures.deep (ap Err deep)) in
    rw (p.1, p.2) is

pub returns-clause-written : goal.returns-clause-written
returns-clause-written c = λ names are.
    let s = c.args.self.now in
    let items = c.begin.new.self.variables.items in
    let none = absent_at s.variables.items c.args.number c.requires.known c.requires.absent in
    let made = c.in_ok-variable.ensures in
    let got = c.in_ok-begin.ensures in
    let there = written_there names s items c.args.number c.args.path.now (tree_of c.args.value) None c.in_ok-variable.variable are c.requires.known none got.value made.ok made.within in
    (there.0, ap (λ event. seen names event items) got.event ∙ there.1)

pub returns-in_err-variable-clause-want : goal.returns-in_err-variable-clause-want
returns-in_err-variable-clause-want c = λ want names are.
    let s = c.args.self.now in
    let p = err_from_is_err_and c.from_residual.result c.from_residual.ensures.1 in
    let first = p.1 in
    let second = p.2 in
    let memory : c.in_err-variable.field-0.0 ≡ fault.Memory = cc in
    let none = absent_at s.variables.items c.args.number c.requires.known c.requires.absent in
    within_there names s c.args.number c.args.path.now (tree_of c.args.value) None are c.requires.known none (c.in_err-variable.ensures.want (ap Err memory))

pub returns-in_err-begin-clause-want : goal.returns-in_err-begin-clause-want
returns-in_err-begin-clause-want c = λ want names are.
    let s = c.args.self.now in
    let none = absent_at s.variables.items c.args.number c.requires.known c.requires.absent in
    within_there names s c.args.number c.args.path.now (tree_of c.args.value) None are c.requires.known none (subst IsShallow c.in_ok-variable.ensures.ok c.in_ok-variable.ensures.within)
