use Rattle.vrl_resolve.proofs.Begins.{distinct_names}
use Rattle.vrl_resolve.proofs.link.Linker.into_names.Goals as goal

pub returns-clause-distinct : goal.returns-clause-distinct
returns-clause-distinct c = distinct_names _ c.len.ensures.unique
