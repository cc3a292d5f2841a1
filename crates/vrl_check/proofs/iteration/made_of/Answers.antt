use Rattle.std.proofs.Common.{subst}
use Rattle.vrl_state.specs.States.{IsCutOf}
use Rattle.vrl_judge.specs.Closures.{call_at}
use Rattle.vrl_judge.specs.Judging.{no_ends}
use Rattle.vrl_judge.proofs.Joining.{common, no_return}
use Rattle.vrl_check.proofs.iteration.made_of.Goals as goal

pub absorb-requires : goal.absorb-requires
absorb-requires c = common c.args.checker.now.state.scopes c.args.collection.ends c.args.run.finding.ends c.requires.ends c.requires.run

pub add_fail-requires : goal.add_fail-requires
add_fail-requires c =
    let scopes = c.args.checker.now.state.scopes in
    common scopes c.absorb.new.self (record no_ends { fail = c.args.collection.fail }) (c.in_ok-_body.ensures.scopes scopes c.requires.ends c.requires.run) (record { fail = c.requires.fail; ret = no_return scopes })

pub returns : goal.returns
returns c =
    let scopes = c.args.checker.now.state.scopes in
    let stand = c.in_ok-_body.ensures.scopes scopes c.requires.ends c.requires.run in
    record {
      kind = subst (λ K. IsCutOf (call_at c.args.form c.args.collection.kind K) c.in_ok-kind.kind) c.as_kind.ensures c.in_ok-kind.ensures.kind;
      root = c.in_ok-kind.ensures.root;
      both = c.absorb.new.self;
      joined = c.in_ok-_body.ensures.joined;
      stand = stand;
      failing = c.add_fail.new.self;
      or_fail = record { fail = c.in_ok-add_fail.ensures.joined; others = c.in_ok-add_fail.ensures.others };
      are = c.in_ok-add_fail.ensures.scopes scopes stand c.requires.fail;
      reported = c.in_ok-report.ensures;
    }
