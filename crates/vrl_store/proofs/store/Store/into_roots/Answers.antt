use Rattle.std.proofs.Common.{◌∙◌}
use Rattle.vrl_store.proofs.FirstVariable.{metadata_found}
use Rattle.vrl_store.proofs.store.Store.into_roots.Goals as goal

pub metadata_of-requires : goal.metadata_of-requires
metadata_of-requires c = c.args.self.kept.present.0

pub returns-clause-metadata : goal.returns-clause-metadata
returns-clause-metadata c = λ names are. metadata_found names c.args.self are ∙ c.metadata_of.ensures
