use Rattle.vrl_format.proofs.Answers.{handed_on, script_fault}
use Rattle.vrl_format.proofs.formatting.read.Goals as goal

pub returns-in_err-parse-clause-fault : goal.returns-in_err-parse-clause-fault
returns-in_err-parse-clause-fault c =
    let f = c.in_err-parse.field-0.0 in
    handed_on c.from_residual-in_err-parse.result f _ c.from_residual-in_err-parse.ensures.1
    (script_fault c.args.text.now c.in_ok-found.found f c.in_ok-found.ensures.ok c.in_ok-found.ensures.end_is c.in_err-parse.ensures.fault)
