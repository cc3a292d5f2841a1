use Rattle.std.proofs.Common.{None}
use Rattle.std.proofs.lemmas.Str.Pattern.{strip_prefix_char}
use Rattle.vrl_pattern.proofs.Openings.{stripped_none}
use Rattle.vrl_pattern.proofs.groups.without_front.Goals as goal

pub returns-in-None-clause-value : goal.returns-in-None-clause-value
returns-in-None-clause-value c = stripped_none c.args.mark c.args.text.now (strip_prefix_char c.args.mark c.args.text.now None c.in-None.ensures.cases c.requires)
