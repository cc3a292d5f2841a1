use Rattle.std.proofs.Common.{option_map, rules, sym, ap, ◌∙◌}
use Rattle.vrl_value.specs.View.{tree_of}
use Rattle.vrl_parse.specs.Descent.{literal_word}
use Rattle.vrl_parse.proofs.Steps.{copied_says, holds_first, takes_counted}
use Rattle.vrl_parse.proofs.parser.Parser.literal.Goals as goal

pub returns-in_ok-self-in-Some-2-clause-takes : goal.returns-in_ok-self-in-Some-2-clause-takes
returns-in_ok-self-in-Some-2-clause-takes c =
    takes_counted c.args.self.now.patterns literal_word _ c.in-Some.ensures.cases.0 c.in_ok-self-in-Some-2.ensures.count (sym c.in_ok-value.ensures.found ∙ ap (option_map tree_of) c.in-Some-2.is)

pub returns-in_err-value-clause-memory : goal.returns-in_err-value-clause-memory
returns-in_err-value-clause-memory c = λ is.
    let says = copied_says c.in-Some.first.now.token c.args.self.now.patterns (c.in_err-value.ensures.memory (search rules)) in
    holds_first c.args.self.now.patterns literal_word says.0 c.in-Some.ensures.cases.0 says.1
