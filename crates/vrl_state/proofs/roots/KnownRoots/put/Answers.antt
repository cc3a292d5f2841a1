use Rattle.vrl_state.proofs.Limits.{put_name}
use Rattle.vrl_state.proofs.roots.KnownRoots.put.Goals as goal

pub invariant_of-self-in-Name : goal.invariant_of-self-in-Name
invariant_of-self-in-Name c = put_name c.self.inside.event.value c.self.inside.variables c.insert.new.self _ c.args.kind.value c.in_ok-insert-in-Name.ensures.ok c.requires c.self.invariant
