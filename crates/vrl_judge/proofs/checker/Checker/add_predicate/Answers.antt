use Rattle.vrl_judge.proofs.Between.{predicate_beside, reported_are}
use Rattle.vrl_judge.proofs.Joining.{common}
use Rattle.vrl_judge.proofs.checker.Checker.add_predicate.Goals as goal

pub add-requires : goal.add-requires
add-requires c = common c.args.self.now.state.scopes c.args.ways.now.ends c.in_ok-predicate.predicate c.requires.ways.ends (reported_are c.args.self.now.state.scopes _ c.args.self.now c.predicate.new.self c.args.part.ends c.in_ok-predicate.predicate c.in_ok-predicate.ensures c.requires.part)

pub returns : goal.returns
returns c = predicate_beside c.args.span c.args.part c.args.ways.now c.args.self.now c.predicate.new.self c.in_ok-predicate.predicate c.add.new.self c.requires.ways c.requires.part c.in_ok-predicate.ensures c.in_ok-add.ensures.joined c.in_ok-add.ensures.scopes
