use Rattle.std.proofs.Common.{ap}
use Rattle.vrl_word.specs.Words.{regex_of}
use Rattle.vrl_parse.specs.Descent.{suffix_word}
use Rattle.vrl_parse.proofs.Steps.{takes_first}
use Rattle.vrl_parse.proofs.parser.Parser.suffix.Goals as goal

pub returns-in-Suffix-clause-takes : goal.returns-in-Suffix-clause-takes
returns-in-Suffix-clause-takes c =
    takes_first c.args.self.now.patterns suffix_word _ c.in_ok-first.ensures.cases.0 (ap regex_of c.in-Suffix.is) (record { is = c.in-Suffix.is })
