use Rattle.std.proofs.Common.{◌≡◌, Some, sym, ◌∙◌}
use Rattle.vrl_word.specs.Words.{function_of}
use Rattle.vrl_parse.specs.Descent.{function_word}
use Rattle.vrl_parse.proofs.Steps.{regex_of-function, takes_first}
use Rattle.vrl_parse.proofs.parser.Parser.function.Goals as goal

pub returns-in-Some-2-clause-takes : goal.returns-in-Some-2-clause-takes
returns-in-Some-2-clause-takes c =
    let says : function_of c.in-Some.first.now.token ≡ Some c.in-Some-2.function = sym c.in_ok-function.ensures.found ∙ c.in-Some-2.is in
    takes_first c.args.self.now.patterns function_word _ c.in-Some.ensures.cases.0 (regex_of-function _ says) says
