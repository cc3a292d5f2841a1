use Rattle.vrl_pattern.proofs.Verdicts.{says, told}
use Rattle.vrl_pattern.proofs.building.built.Goals as goal

pub returns : goal.returns
returns c =
    told c.args.source.now c.new.result c.verdict.result
    (says c.args.source.now c.new.result c.new.ensures.source c.new.ensures.config c.new.ensures.read c.new.ensures.by_grammar c.new.ensures.kind) c.verdict.ensures
