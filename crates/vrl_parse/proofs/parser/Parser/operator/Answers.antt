use Rattle.std.proofs.Common.{◌≡◌, Some}
use Rattle.vrl_word.specs.Words.{operator_of}
use Rattle.vrl_parse.specs.Descent.{operator_word}
use Rattle.vrl_parse.proofs.Steps.{regex_of-operator, takes_first}
use Rattle.vrl_parse.proofs.parser.Parser.operator.Goals as goal

pub returns-clause-takes : goal.returns-clause-takes
returns-clause-takes c =
    let says : operator_of c.in_ok-first.first.now.token ≡ Some (c.args.level, c.in_ok-its_level.op) = cc in
    takes_first c.args.self.now.patterns (operator_word c.args.level) _ c.in_ok-first.ensures.cases.0 (regex_of-operator _ says) says
