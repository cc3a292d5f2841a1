use Rattle.std.proofs.Common.{subst}
use Rattle.vrl_state.specs.States.{IsEither}
use Rattle.vrl_judge.proofs.Between.{block_beside}
use Rattle.vrl_judge.proofs.Joining.{common, kept_way}
use Rattle.vrl_judge.proofs.checker.Checker.add_block.Goals as goal

pub add_way-requires : goal.add_way-requires
add_way-requires c = (c.args.self.now.state.scopes, c.requires.ways.ok, kept_way c.args.self.now.state.scopes _ c.back-left.result c.back-left.ensures.branch)

pub absorb-requires : goal.absorb-requires
absorb-requires c = common c.args.self.now.state.scopes c.args.ways.now.ends c.args.block.ends c.requires.ways.ends c.requires.block

pub returns : goal.returns
returns c =
    block_beside c.args.mark c.args.block c.args.ways.now _ c.args.self.now c.back-left.new.self c.back-left.result c.requires.ways c.requires.block c.back-left.ensures.checker c.back-left.ensures.branch
    (subst (λ K. IsEither c.args.ways.now.kind K c.widen.new.kind) c.in_ok-kind.ensures.kind c.in_ok-widen.ensures) c.in_ok-add_way.ensures.joined c.in_ok-add_way.ensures.scopes c.in_ok-kind.ensures.joined c.in_ok-kind.ensures.scopes
