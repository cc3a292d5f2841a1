use Rattle.std.proofs.Common.{map}
use Rattle.vrl_value.specs.View.{tree_of}
use Rattle.vrl_resolve.proofs.Turns.{filter_takes, on_ok}
use Rattle.vrl_resolve.proofs.iteration.push_item.Goals as goal

pub returns-in-Filter-clause-taken : goal.returns-in-Filter-clause-taken
returns-in-Filter-clause-taken c =
    rw c.in-Filter.is
    (on_ok c.push_kept.result
    (λ kept. filter_takes c.in-Filter.field-0 c.in-Filter.field-1 c.is_true.result (tree_of c.args.given) (map tree_of c.args.made.now.items) (map tree_of c.push_kept.new.made.items) c.args.held c.is_true.ensures kept)
    c.push_kept.ensures.kept)
