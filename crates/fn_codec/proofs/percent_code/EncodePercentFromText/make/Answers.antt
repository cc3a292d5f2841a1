use Rattle.std.proofs.Common.{rules, ◌≡◌, ◌∙◌, arith}
use Rattle.percent_encoding.specs.Percent.{percent_encode}
use Rattle.percent_encoding.specs.declared.ascii_set.TheConstants.{NON_ALPHANUMERIC}
use Rattle.fn_codec.proofs.Escapes.{percent_is}
use Rattle.fn_codec.proofs.percent_code.EncodePercentFromText.make.Goals as goal

pub returns : goal.returns
returns c =
    let is : c.new.result ≡ percent_encode NON_ALPHANUMERIC c.args.text.now = search rules in
    is ∙ percent_is c.args.text.now (λ i within. omega (arith, c.type_inv.text i))
