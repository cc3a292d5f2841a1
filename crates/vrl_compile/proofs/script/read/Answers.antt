use Rattle.vrl_compile.proofs.Compiling.{handed_on, text_fault, tokens_fault}
use Rattle.vrl_compile.proofs.script.read.Goals as goal

pub returns-in_err-tokens-clause-fault : goal.returns-in_err-tokens-clause-fault
returns-in_err-tokens-clause-fault c =
    let f = c.in_err-tokens.field-0.0 in
    handed_on c.from_residual.result f _ c.from_residual.ensures.1 (text_fault c.args.text.now f c.in_err-tokens.ensures.fault c.in_err-tokens.ensures.code)

pub returns-in_err-script-clause-fault : goal.returns-in_err-script-clause-fault
returns-in_err-script-clause-fault c =
    let f = c.in_err-script.field-0.0 in
    handed_on c.from_residual-in_err-script.result f _ c.from_residual-in_err-script.ensures.1
    (tokens_fault c.args.text.now c.in_ok-tokens.tokens f c.in_ok-tokens.ensures.ok c.in_ok-tokens.ensures.end_is c.in_err-script.ensures.fault c.in_err-script.ensures.codes)
