use Rattle.fn_parse.proofs.Cuts.{begins_later, stripped_or_lacks}
use Rattle.fn_parse.proofs.key_value.behind_delimiter.Goals as goal

pub returns-then-left-text : goal.returns-then-left-text
returns-then-left-text c = begins_later c.args.delimiter.now c.args.text.now c.args.left c.requires c.if-left-text.true

pub returns : goal.returns
returns c = stripped_or_lacks c.args.delimiter.now c.args.text.now c.strip_prefix.result c.strip_prefix.ensures.cases
