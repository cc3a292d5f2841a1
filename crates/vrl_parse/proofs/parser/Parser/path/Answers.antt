use Rattle.std.proofs.Common.{◌≡◌, Some, sym, ◌∙◌}
use Rattle.vrl_word.specs.Words.{path_of}
use Rattle.vrl_parse.specs.Descent.{path_word}
use Rattle.vrl_parse.proofs.Steps.{regex_of-path, takes_first}
use Rattle.vrl_parse.proofs.parser.Parser.path.Goals as goal

pub returns-in-Some-2-clause-takes : goal.returns-in-Some-2-clause-takes
returns-in-Some-2-clause-takes c =
    let says : path_of c.in-Some.first.now.token ≡ Some c.in-Some-2.path = sym c.in_ok-path.ensures.found ∙ c.in-Some-2.is in
    takes_first c.args.self.now.patterns path_word _ c.in-Some.ensures.cases.0 (regex_of-path _ says) says
