use Rattle.std.proofs.Common.{◌≡◌, Some, ap, option_map, sym, ◌∙◌}
use Rattle.vrl_syntax.specs.View.{expr_of}
use Rattle.vrl_word.specs.Words.{template_at}
use Rattle.vrl_parse.specs.Descent.{template_word}
use Rattle.vrl_parse.proofs.Steps.{regex_of-template, takes_first}
use Rattle.vrl_parse.proofs.parser.Parser.template.Goals as goal

pub returns-in-Some-2-clause-takes : goal.returns-in-Some-2-clause-takes
returns-in-Some-2-clause-takes c =
    let says : template_at c.in-Some.first.now.token c.in-Some.first.now.span ≡ Some (expr_of c.in-Some-2.template) = sym c.in_ok-template.ensures.found ∙ ap (option_map expr_of) c.in-Some-2.is in
    takes_first c.args.self.now.patterns template_word _ c.in-Some.ensures.cases.0 (regex_of-template _ _ says) says
