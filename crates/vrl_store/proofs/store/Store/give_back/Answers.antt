use Rattle.std.proofs.Common.{ap, ◌∙◌}
use Rattle.vrl_store.proofs.StoreReads.{seen, variable_given}
use Rattle.vrl_store.proofs.Bound.{number_there, number_within}
use Rattle.vrl_store.proofs.store.Store.give_back.Goals as goal

pub exchange-bound-requires-clause-known : goal.exchange-bound-requires-clause-known
exchange-bound-requires-clause-known c = number_within c.args.self.now c.args.number c.requires

pub exchange-bound-requires-clause-there : goal.exchange-bound-requires-clause-there
exchange-bound-requires-clause-there c = number_there c.args.self.now c.args.number c.requires

pub returns-clause-back : goal.returns-clause-back
returns-clause-back c = λ names are.
    let s = c.args.self.now in
    let items = c.exchange-bound.new.self.variables.items in
    ap (λ event. seen names event items) c.exchange-bound.ensures.event ∙ variable_given names s items c.args.number c.args.hidden.value are (number_within s c.args.number c.requires) c.exchange-bound.ensures.value
