use Rattle.std.proofs.Common.{subst, sym}
use Rattle.vrl_kind.specs.Kinds.{found_at}
use Rattle.vrl_state.specs.States.{IsCutOf, IsEither}
use Rattle.vrl_judge.specs.Assigning.{AreAssigned}
use Rattle.vrl_syntax.specs.ErrorAssignments.{empty_value}
use Rattle.vrl_judge.specs.Judging.{known_on, AreBothWritten, IsWay}
use Rattle.vrl_judge.proofs.Assigning.{are_assigned, empty_present, fail_behind, not_absent}
use Rattle.vrl_judge.proofs.checker.Checker.both_assigned.Goals as goal

pub write_both-requires-clause-present : goal.write_both-requires-clause-present
write_both-requires-clause-present c = not_absent c.args.part.kind c.requires.kind.present

pub write_both-requires-clause-empty : goal.write_both-requires-clause-empty
write_both-requires-clause-empty c = empty_present _ c.in_ok-empty.empty c.in_ok-empty.ensures

pub write_both-requires-clause-way : goal.write_both-requires-clause-way
write_both-requires-clause-way c = subst (IsWay c.error_codes.new.self.state.scopes) (sym c.take-fail.ensures.value)
    (fail_behind c.args.span c.args.ok.now c.args.err.now c.args.part c.args.self.now c.put_empty.new.self c.error_codes.new.self c.error_codes.new.ends c.in_ok-whole.whole c.requires.ends c.put_empty.ensures.state c.in_ok-error_codes.ensures)

pub returns : goal.returns
returns c =
    subst (λ f. AreAssigned c.args.span c.args.ok.now c.args.err.now c.args.place c.args.part c.args.self.now c.write_both.new.self (record { kind = c.in_ok-whole.whole; ends = record c.error_codes.new.ends { fail = f } })) (sym c.take-fail.ensures.after)
    (are_assigned c.args.span c.args.ok.now c.args.err.now c.args.place c.args.part c.args.self.now c.put_empty.new.self c.error_codes.new.self c.write_both.new.self c.error_codes.new.ends c.empty_tag-tag.result c.in_ok-empty.empty c.in_ok-whole.whole
    c.empty_tag-tag.ensures c.requires.ends c.put_empty.ensures.state c.put_empty.ensures.diagnostics c.put_empty.ensures.patterns c.put_empty.ensures.loops c.put_empty.ensures.inside c.put_empty.ensures.empties
    (subst (λ t. IsCutOf (found_at (empty_value t)) c.in_ok-empty.empty) c.empty_tag-tag.ensures c.in_ok-empty.ensures)
    (subst (λ K. IsEither K c.in_ok-empty.empty c.in_ok-whole.whole) c.as_kind.ensures (subst (λ E. IsEither c.as_kind.result.now E c.in_ok-whole.whole) c.as_kind-2.ensures c.in_ok-whole.ensures)) c.in_ok-error_codes.ensures
    (subst (λ f. AreBothWritten c.args.ok.now c.args.err.now c.args.part.kind c.in_ok-empty.empty c.error_codes.new.self.state.known (known_on f) c.write_both.new.self.state.known) c.take-fail.ensures.value c.in_ok-write_both.ensures.written)
    c.write_both.ensures.others)
