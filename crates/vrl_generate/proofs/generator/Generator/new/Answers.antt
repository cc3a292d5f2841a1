use Rattle.vrl_generate.specs.Made.{made_state}
use Rattle.vrl_generate.proofs.Coming.{are_made, length-behind}
use Rattle.vrl_generate.proofs.generator.Generator.new.Goals as goal

pub returns-clause-lines : goal.returns-clause-lines
unfolding made_state
returns-clause-lines c = are_made c.args.seed 0 c.args.count

pub returns-clause-count : goal.returns-clause-count
returns-clause-count c = length-behind 0 c.args.seed c.args.count
