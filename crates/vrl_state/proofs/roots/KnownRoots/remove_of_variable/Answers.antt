use Rattle.vrl_state.proofs.Limits.{removed_root}
use Rattle.vrl_state.proofs.roots.KnownRoots.remove_of_variable.Goals as goal

pub put-requires : goal.put-requires
put-requires c = removed_root _ _ c.args.path.now c.in-Some.ensures.root c.in_ok-left-in-Some.ensures
