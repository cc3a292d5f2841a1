use Rattle.std.proofs.Common.{◌≡◌, ap, sym, ◌∙◌}
use Rattle.vrl_token.specs.declared.token.Token.TheVariants as token
use Rattle.vrl_word.specs.Words.{regex_of}
use Rattle.vrl_parse.specs.Descent.{name_word}
use Rattle.vrl_parse.proofs.Steps.{takes_first}
use Rattle.vrl_parse.proofs.parser.Parser.name.Goals as goal

pub returns-in_ok-copy-in-Name-clause-takes : goal.returns-in_ok-copy-in-Name-clause-takes
returns-in_ok-copy-in-Name-clause-takes c =
    let is : c.in-Some.first.now.token ≡ token.Name c.in_ok-copy-in-Name.field-0 = c.in-Name.is ∙ ap token.Name (sym c.in_ok-copy-in-Name.ensures) in
    takes_first c.args.self.now.patterns name_word _ c.in-Some.ensures.cases.0 (ap regex_of is) (record { is = is })
