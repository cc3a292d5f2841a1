use Rattle.std.proofs.Common.{◌≡◌, ap, sym, ◌∙◌}
use Rattle.vrl_token.specs.declared.token.Token.TheVariants as token
use Rattle.vrl_word.specs.Words.{regex_of}
use Rattle.vrl_parse.specs.Descent.{key_word}
use Rattle.vrl_parse.proofs.Steps.{takes_first}
use Rattle.vrl_parse.proofs.parser.Parser.key.Goals as goal

pub returns-in_ok-copy-in-Text-clause-takes : goal.returns-in_ok-copy-in-Text-clause-takes
returns-in_ok-copy-in-Text-clause-takes c =
    let is : c.in-Some.first.now.token ≡ token.Text c.in_ok-copy-in-Text.field-0 = c.in-Text.is ∙ ap token.Text (sym c.in_ok-copy-in-Text.ensures) in
    takes_first c.args.self.now.patterns key_word _ c.in-Some.ensures.cases.0 (ap regex_of is) (record { is = is })
