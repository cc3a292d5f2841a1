use Rattle.vrl_parse.specs.Descent.{ran, taken}
use Rattle.vrl_parse.proofs.Walks.{leave, missed}
use Rattle.vrl_parse.proofs.parser.Parser.summed.Goals as goal

pub returns-in_err-template-clause-refuses : goal.returns-in_err-template-clause-refuses
returns-in_err-template-clause-refuses c = leave c.from_residual.result _ _ _ c.from_residual.ensures c.in_err-template.ensures.refuses missed

pub returns-clause-takes : goal.returns-clause-takes
returns-clause-takes c = taken c.in_ok-template.ensures.takes ran
