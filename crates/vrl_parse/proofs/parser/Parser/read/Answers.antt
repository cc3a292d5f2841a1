use Rattle.vrl_parse.specs.Descent.{taken}
use Rattle.vrl_parse.proofs.Walks.{answered, leave, missed}
use Rattle.vrl_parse.proofs.parser.Parser.read.Goals as goal

pub returns-in_err-root-clause-refuses : goal.returns-in_err-root-clause-refuses
returns-in_err-root-clause-refuses c = leave c.from_residual.result _ _ _ c.from_residual.ensures c.in_err-root.ensures.refuses missed

pub returns-clause-takes : goal.returns-clause-takes
returns-clause-takes c = taken c.in_ok-root.ensures.takes (answered c.read.ensures)
