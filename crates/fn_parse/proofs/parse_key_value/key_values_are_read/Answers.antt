use Rattle.fn_parse.proofs.Parted.{only_fields_are_read}
use Rattle.fn_parse.proofs.Told.{fields_are_read}
use Rattle.fn_parse.proofs.parse_key_value.key_values_are_read.Goals as goal

pub returns-clause-fields : goal.returns-clause-fields
returns-clause-fields c = fields_are_read

pub returns-clause-only : goal.returns-clause-only
returns-clause-only c = only_fields_are_read
