use Rattle.std.proofs.Common.{rules, ◌≡◌, []}
use Rattle.vrl_token.specs.Brackets.{tokens_from}
use Rattle.vrl_token.specs.Reading.{IsTextFault, IsTokenized, deep_nesting}
use Rattle.vrl_token.proofs.FaultCodes.{first_codes, first_excludes, first_within, passed_on}
use Rattle.vrl_token.proofs.Placed.{tokens_in_order, tokens_on_characters}
use Rattle.vrl_token.proofs.Stepped.{tokens_have_steps}
use Rattle.vrl_token.proofs.reading.tokens.Goals as goal

pub returns-in_err-lexemes-clause-code : goal.returns-in_err-lexemes-clause-code
returns-in_err-lexemes-clause-code c = passed_on c.from_residual.result c.in_err-lexemes.field-0.0 _ c.from_residual.ensures.1 (first_codes c.args.text.now c.in_err-lexemes.field-0.0 c.in_err-lexemes.ensures.fault)

pub returns-in_err-lexemes-clause-place : goal.returns-in_err-lexemes-clause-place
returns-in_err-lexemes-clause-place c = passed_on c.from_residual.result c.in_err-lexemes.field-0.0 _ c.from_residual.ensures.1 (first_within c.args.text.now c.in_err-lexemes.field-0.0 c.in_err-lexemes.ensures.fault)

pub returns-in_err-lexemes-clause-no_tokens : goal.returns-in_err-lexemes-clause-no_tokens
returns-in_err-lexemes-clause-no_tokens c =
    passed_on c.from_residual.result c.in_err-lexemes.field-0.0 _ c.from_residual.ensures.1 (first_excludes c.tokens_are_determined.ensures c.args.text.now c.in_err-lexemes.field-0.0 c.in_err-lexemes.ensures.fault)

pub returns-then-branch-clause-no_tokens : goal.returns-then-branch-clause-no_tokens
returns-then-branch-clause-no_tokens c =
    let wrong : IsTextFault c.args.text.now deep_nesting = search rules in
    rw c.too_deep.ensures (λ tokens is. c.tokens_are_determined.ensures.not_both c.args.text.now tokens deep_nesting is wrong)

pub returns-clause-spans : goal.returns-clause-spans
returns-clause-spans c =
    let is : IsTokenized c.args.text.now c.new.result.tokens = search rules in
    tokens_in_order c.args.text.now c.new.result.tokens is.has

pub returns-clause-steps : goal.returns-clause-steps
returns-clause-steps c =
    let is : IsTokenized c.args.text.now c.new.result.tokens = search rules in
    tokens_have_steps c.args.text.now c.new.result.tokens is.has

pub returns-clause-characters : goal.returns-clause-characters
returns-clause-characters c =
    let tells : c.new.result.tokens ≡ tokens_from [] c.in_ok-lexemes.field-0.items = search rules in
    tokens_on_characters c.args.text.now c.new.result.tokens c.in_ok-lexemes.field-0.items tells c.in_ok-lexemes.ensures.characters
