use Rattle.vrl_state.proofs.Limits.{cut_root}
use Rattle.vrl_state.proofs.roots.KnownRoots.set.Goals as goal

pub put-requires : goal.put-requires
put-requires c = cut_root c.args.listed.now.kind _ c.kind_is_canonical.ensures c.requires c.in_ok-kind.ensures
