use Rattle.vrl_kind.proofs.kind.Kind.list.Goals as goal

pub returns : goal.returns
returns c = rw (c.never.ensures.tree) at c.with_list.ensures
