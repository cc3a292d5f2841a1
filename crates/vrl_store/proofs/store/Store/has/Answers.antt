use Rattle.std.proofs.Common.{◌≡◌, get_or, rules, sym, ◌∙◌}
use Rattle.vrl_store.proofs.Bound.{there_some}
use Rattle.vrl_store.proofs.Written.{numbered_at}
use Rattle.vrl_store.proofs.store.Store.has.Goals as goal

pub returns : goal.returns
returns c =
    let items = c.args.self.now.variables.items in
    let here : c.index.result.now ≡ get_or items c.args.number c.index.result.now = search rules in
    c.is_some.ensures ∙ sym (numbered_at items c.args.number c.index.result.now c.requires here ∙ there_some c.index.result.now)
