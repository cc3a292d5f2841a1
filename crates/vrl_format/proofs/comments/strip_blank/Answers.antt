use Rattle.std.proofs.Common.{None, arith}
use Rattle.std.proofs.lemmas.Str.Pattern.{strip_suffix_char}
use Rattle.vrl_format.proofs.Blanks.{last_stripped}
use Rattle.vrl_format.proofs.comments.strip_blank.Goals as goal

pub returns : goal.returns
returns c =
    last_stripped c.args.text.now c.strip_suffix-3.result
    (strip_suffix_char 32 c.args.text.now None c.in_default.ensures.cases (omega arith))
    (strip_suffix_char 9 c.args.text.now None c.in_default-strip_suffix.ensures.cases (omega arith))
    (strip_suffix_char 13 c.args.text.now c.strip_suffix-3.result c.strip_suffix-3.ensures.cases (omega arith))
