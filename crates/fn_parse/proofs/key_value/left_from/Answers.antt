use Rattle.fn_parse.proofs.Cuts.{next_is}
use Rattle.fn_parse.proofs.key_value.left_from.Goals as goal

pub returns : goal.returns
returns c = next_is c.args.delimiter.now c.args.text.now c.split_before.result.0.now c.split_before.result.1.now c.split_before.ensures
