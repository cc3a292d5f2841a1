use Rattle.std.proofs.Common.{◌≡◌, ap, ◌∙◌, rules}
use Rattle.vrl_word.specs.Signs.{token_of}
use Rattle.vrl_word.specs.Words.{regex_of}
use Rattle.vrl_parse.specs.Descent.{sign_word}
use Rattle.vrl_parse.proofs.Steps.{regex_of-sign, takes_first}
use Rattle.vrl_parse.proofs.parser.Parser.take.Goals as goal

pub returns-clause-takes : goal.returns-clause-takes
returns-clause-takes c =
    let is : c.in_ok-first.first.now.token ≡ token_of c.args.sign = c.is_sign.ensures.0 (search rules) in
    takes_first c.args.self.now.patterns (sign_word (token_of c.args.sign)) tt c.in_ok-first.ensures.cases.0 (ap regex_of is ∙ regex_of-sign c.args.sign) (record { is = is })
