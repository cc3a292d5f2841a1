use Rattle.std.proofs.Common.{◌∙◌}
use Rattle.vrl_builtin.proofs.Signed.{read_signed}
use Rattle.vrl_builtin.proofs.numeral.read_integer.Goals as goal

pub returns : goal.returns
returns c = c.ok.ensures.value ∙ read_signed c.args.base c.args.text.now c.from_str_radix.result c.from_str_radix.ensures.value
