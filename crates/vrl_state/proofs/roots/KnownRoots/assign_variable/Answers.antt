use Rattle.vrl_state.proofs.Limits.{written_root}
use Rattle.vrl_state.proofs.roots.KnownRoots.assign_variable.Goals as goal

pub put-requires : goal.put-requires
put-requires c = written_root _ c.args.new.now _ c.args.path.now c.requires.present c.in_ok-kind.ensures
