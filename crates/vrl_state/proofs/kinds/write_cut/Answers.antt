use Rattle.std.proofs.Common.{subst}
use Rattle.vrl_place.specs.Far.{IsWrittenCut}
use Rattle.vrl_state.proofs.kinds.write_cut.Goals as goal

pub returns-clause-ok : goal.returns-clause-ok
returns-clause-ok c =
    subst (λ K. IsWrittenCut c.args.kind.now c.args.path.now K c.write_cut.new.kind) c.in_ok-copy.ensures c.in_ok-write_cut.ensures.ok
