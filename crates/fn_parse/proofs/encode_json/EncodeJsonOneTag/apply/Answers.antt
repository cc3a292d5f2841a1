use Rattle.std.proofs.Common.{length}
use Rattle.vrl_builtin.specs.View.{arguments_of}
use Rattle.fn_parse.proofs.Below.{argument_below}
use Rattle.fn_parse.proofs.encode_json.EncodeJsonOneTag.apply.Goals as goal

pub json_text-requires : goal.json_text-requires
json_text-requires c =
    rw (c.sources-sources.ensures, c.value.ensures) (argument_below (length c.args.setting.now.searches.now) (arguments_of c.args.arguments.now) c.requires.regexes)
