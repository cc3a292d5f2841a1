use Rattle.std.proofs.Common.{Some, None}
use Rattle.fn_parse.specs.Found.{value_found}
use Rattle.fn_parse.proofs.Cuts.{key_alone, key_valued}
use Rattle.fn_parse.proofs.key_value.with_key.Goals as goal

pub returns-in_default : goal.returns-in_default
returns-in_default c = key_alone c.args.key_delimiter.now c.args.field_delimiter.now c.args.key.now c.args.behind.now c.requires.key c.in_default.ensures

pub returns-in-Some-value_at : goal.returns-in-Some-value_at
returns-in-Some-value_at c =
    let cut = c.in-Some.ensures in
    key_valued c.args.key_delimiter.now c.args.field_delimiter.now c.args.key.now c.args.behind.now c.in-Some.text.now (Some (value_found c.in-Some-value_at.found)) c.requires.key cut.0 cut.1 c.in-Some-value_at.ensures

pub returns-in-None : goal.returns-in-None
returns-in-None c =
    let cut = c.in-Some.ensures in
    key_valued c.args.key_delimiter.now c.args.field_delimiter.now c.args.key.now c.args.behind.now c.in-Some.text.now None c.requires.key cut.0 cut.1 c.in-None.ensures
