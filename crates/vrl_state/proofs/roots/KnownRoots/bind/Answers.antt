use Rattle.vrl_state.proofs.Limits.{put_name}
use Rattle.vrl_state.proofs.roots.KnownRoots.bind.Goals as goal

pub invariant_of-self-2 : goal.invariant_of-self-2
invariant_of-self-2 c = put_name c.self.inside.event.value c.self.inside.variables c.insert.new.self _ c.args.kind.value c.in_ok-insert.ensures.ok c.requires c.self.invariant
