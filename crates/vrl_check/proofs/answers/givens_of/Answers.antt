use Rattle.std.proofs.Common.{map, subst, sym}
use Rattle.vrl_builtin.specs.View.{parameter_row}
use Rattle.vrl_judge.specs.Rules.{argument_at}
use Rattle.vrl_check.specs.Judgement.{bound, AreAskedAbout}
use Rattle.vrl_check.proofs.CallsGiven.{given_end, given_end_early, given_next}
use Rattle.vrl_check.proofs.answers.givens_of.Goals as goal

pub returns-in_default-split_first-clause-given : goal.returns-in_default-split_first-clause-given
returns-in_default-split_first-clause-given c js told =
    subst (AreAskedAbout (map parameter_row c.args.parameters.now) (bound c.args.places.now js)) (sym c.new.ensures)
    (given_end_early c.args.args.now c.args.parts.now c.args.parameters.now c.args.places.now c.loop-parameter.givens.items c.loop-parameter.left.now c.loop-parameter.bound.now c.in_default-split_first.ensures.cases c.loop-parameter.invariant js told)

pub loop-parameter-preserved : goal.loop-parameter-preserved
loop-parameter-preserved c =
    given_next c.args.args.now c.args.parts.now c.args.parameters.now c.args.places.now c.loop-parameter.givens.items c.push.new.self.items c.in_ok-given.given c.loop-parameter.left.now c.in-Some.others.now c.in-Some.parameter.now
    c.loop-parameter.bound.now c.in-Some-split_first.rest.now c.in-Some-split_first.place.now c.in-Some.ensures.cases.0 c.in-Some-split_first.ensures.cases.0 c.in_ok-push.ensures.items
    (λ js told. c.in_ok-given.ensures.given (argument_at js c.in-Some-split_first.place.now) (c.argument_at.ensures.found js told))
    (λ count below. c.in_ok-given.ensures.regexes count (c.argument_at.ensures.regexes count below))
    c.loop-parameter.invariant

pub returns-clause-given : goal.returns-clause-given
returns-clause-given c js told =
    subst (AreAskedAbout (map parameter_row c.args.parameters.now) (bound c.args.places.now js)) (sym c.new-2.ensures)
    (given_end c.args.args.now c.args.parts.now c.args.parameters.now c.args.places.now c.loop-parameter.givens.items c.loop-parameter.left.now c.loop-parameter.bound.now c.in_default.ensures.cases c.loop-parameter.invariant js told)
