use Rattle.std.proofs.Common.{◌∙◌}
use Rattle.vrl_store.proofs.FirstVariable.{metadata_read}
use Rattle.vrl_store.proofs.store.Store.into_parts.Goals as goal

pub returns-clause-metadata : goal.returns-clause-metadata
returns-clause-metadata c = metadata_read c.args.names.now c.args.self _ c.requires (c.in_ok-beside.ensures.equal ∙ c.root.ensures c.args.names.now c.requires)
