use Rattle.std.proofs.Common.{None, arith}
use Rattle.std.proofs.lemmas.Str.Pattern.{strip_prefix_char}
use Rattle.fn_parse.proofs.Quoted.{lone_backslash}
use Rattle.fn_parse.proofs.quotes.split_escape.Goals as goal

pub returns-clause-value : goal.returns-clause-value
returns-clause-value c =
    lone_backslash c.args.behind.now (strip_prefix_char 0x22 c.args.behind.now None c.in_default.ensures.cases (omega arith)) (strip_prefix_char 0x5C c.args.behind.now None c.in_default-strip_prefix.ensures.cases (omega arith))
