use Rattle.std.proofs.Common.{map, sym, subst}
use Rattle.vrl_value.specs.Tree.{array}
use Rattle.vrl_value.specs.View.{tree_of}
use Rattle.vrl_store.specs.Results.{Gives}
use Rattle.vrl_resolve.specs.Calls.{within_limit}
use Rattle.vrl_resolve.proofs.Turns.{items_alone}
use Rattle.vrl_resolve.proofs.iteration.finish_items.Goals as goal

pub returns-in-Filter-clause-gives : goal.returns-in-Filter-clause-gives
returns-in-Filter-clause-gives c =
    let made = map tree_of c.args.made.items in
    rw c.in-Filter.is
    (subst (λ ts. Gives (within_limit (array ts)) c.within_limit.result) (sym (items_alone made)) (subst (λ v. Gives (within_limit v) c.within_limit.result) c.array_of.ensures c.within_limit.ensures.gives))
