use Rattle.vrl_syntax.specs.Stores.{metadata_name}
use Rattle.vrl_resolve.proofs.Begins.{alone_named}
use Rattle.vrl_resolve.proofs.link.Linker.new.Goals as goal

pub returns-clause-names : goal.returns-clause-names
returns-clause-names c =
    alone_named c.new-names.result.keys c.insert_full.new.self.keys c.in_ok-from_str.field-0 metadata_name c.new-names.ensures.empty c.in_ok-insert_full.ensures.keys c.in_ok-from_str.ensures.ok
