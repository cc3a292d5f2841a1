use Rattle.std.proofs.Common.{[]}
use Rattle.vrl_state.proofs.Limits.{written_root}
use Rattle.vrl_state.proofs.roots.KnownRoots.assign_whole.Goals as goal

pub put-requires : goal.put-requires
put-requires c = written_root c.args.new.now.value c.args.new.now.value _ [] c.requires (c.in_ok-kind.ensures c.args.new.now.value)
