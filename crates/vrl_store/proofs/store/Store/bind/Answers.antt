use Rattle.std.proofs.Common.{◌≡◌, sym, ap, ap₂, ◌∙◌, subst}
use Rattle.std.specs.Prelude.{OnErr}
use Rattle.std.proofs.lemmas.Result.{err_from_is_err_and}
use Rattle.vrl_store.specs.Kept.{trees_of}
use Rattle.vrl_store.specs.StoreView.{store_in, AreNames, Names}
use Rattle.vrl_store.proofs.Bound.{if_there, none_hidden, same_front}
use Rattle.vrl_store.proofs.StoreReads.{seen, variable_found, variable_given}
use Rattle.vrl_store.proofs.store.Store.bind.Goals as goal

pub exchange-requires-clause-there : goal.exchange-requires-clause-there
exchange-requires-clause-there c = sym c.has.ensures ∙ c.if-has.true

pub begin-requires-clause-absent : goal.begin-requires-clause-absent
begin-requires-clause-absent c = sym c.has.ensures ∙ c.if-has.false

pub returns-then-has-clause-bound : goal.returns-then-has-clause-bound
returns-then-has-clause-bound c = λ names are.
    let s = c.args.self.now in
    let items = c.exchange.new.self.variables.items in
    ap (λ event. seen names event items) c.exchange.ensures.event ∙ variable_given names s items c.args.number c.args.value are c.requires.known c.exchange.ensures.value

pub returns-then-has-clause-hidden : goal.returns-then-has-clause-hidden
returns-then-has-clause-hidden c = λ names are. c.exchange.ensures.given ∙ sym (variable_found names c.args.self.now c.args.number are c.requires.known)

pub returns-then-has-clause-there : goal.returns-then-has-clause-there
returns-then-has-clause-there c = if_there c.exchange.result (c.args.self.now.kept.counted c.args.number (sym c.has.ensures ∙ c.if-has.true))

pub returns-then-has-clause-front : goal.returns-then-has-clause-front
returns-then-has-clause-front c = same_front c.exchange.ensures.present

pub returns-clause-bound : goal.returns-clause-bound
returns-clause-bound c = λ names are.
    let s = c.args.self.now in
    let items = c.begin.new.self.variables.items in
    let got = c.in_ok-begin.ensures in
    ap (λ event. seen names event items) got.event ∙ variable_given names s items c.args.number c.args.value are c.requires.known got.value

pub returns-clause-hidden : goal.returns-clause-hidden
returns-clause-hidden c = λ names are.
    let s = c.args.self.now in
    sym (variable_found names s c.args.number are c.requires.known ∙ none_hidden (trees_of s.variables.items) c.args.number (sym c.has.ensures ∙ c.if-has.false))

pub returns-in_err-begin-clause-same : goal.returns-in_err-begin-clause-same
returns-in_err-begin-clause-same c =
    let got = c.in_err-begin.ensures in
    let p = err_from_is_err_and c.from_residual.result c.from_residual.ensures.1 in
    let s = c.args.self.now in
    subst (λ r. OnErr r ((names : Names) → AreNames names s → store_in names c.begin.new.self ≡ store_in names s)) (sym p.1) (λ names are. ap₂ (seen names) got.event got.same)
