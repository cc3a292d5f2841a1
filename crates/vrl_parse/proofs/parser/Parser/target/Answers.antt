use Rattle.std.proofs.Common.{◌≡◌, Some, sym, ◌∙◌}
use Rattle.vrl_word.specs.Words.{target_at}
use Rattle.vrl_parse.specs.Descent.{target_word}
use Rattle.vrl_parse.proofs.Steps.{regex_of-target, takes_first}
use Rattle.vrl_parse.proofs.parser.Parser.target.Goals as goal

pub returns-in-Some-2-clause-takes : goal.returns-in-Some-2-clause-takes
returns-in-Some-2-clause-takes c =
    let says : target_at c.in-Some.first.now.token c.in-Some.first.now.span ≡ Some c.in-Some-2.target = sym c.in_ok-target.ensures.found ∙ c.in-Some-2.is in
    takes_first c.args.self.now.patterns target_word _ c.in-Some.ensures.cases.0 (regex_of-target _ _ says) says
