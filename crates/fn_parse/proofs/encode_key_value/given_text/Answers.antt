use Rattle.std.proofs.Common.{length}
use Rattle.vrl_value.specs.View.{members_of}
use Rattle.vrl_builtin.specs.View.{arguments_of}
use Rattle.fn_parse.proofs.Encoded.{object_below}
use Rattle.fn_parse.proofs.encode_key_value.given_text.Goals as goal

pub fields_text-requires : goal.fields_text-requires
fields_text-requires c = object_below (length c.args.sources.now) (arguments_of c.args.arguments.now) (members_of c.in-Some.fields.now) c.requires c.in-Some.ensures
