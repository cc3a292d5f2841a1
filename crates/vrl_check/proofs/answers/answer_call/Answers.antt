use Rattle.std.proofs.Common.{subst, sym}
use Rattle.std.proofs.lemmas.Result.{IfOk-weaker}
use Rattle.vrl_syntax.specs.View.{call_of}
use Rattle.vrl_syntax.specs.declared.tree.Call.{out-Call}
use Rattle.vrl_check.specs.Calling.{call_args, call_bang, call_closure, call_name, HasCodes, IsBoundCallAs, IsNamed}
use Rattle.vrl_check.proofs.CallsAllowed.{may_be_asked}
use Rattle.vrl_check.proofs.CallsFound.{call_seen}
use Rattle.vrl_check.proofs.CallsJudged.{deleted_keeps, deletion_judged, existence_judged, function_judged}
use Rattle.vrl_judge.proofs.Results.{by_both}
use Rattle.vrl_check.specs.declared.calls.Callee.TheVariants as callee
use Rattle.vrl_check.proofs.answers.answer_call.Goals as goal

pub answered-requires-clause-asked : goal.answered-requires-clause-asked
answered-requires-clause-asked c =
    let gs = call_args c.args.call.now in
    let closure = call_closure c.args.call.now in
    may_be_asked c.in-Function.function gs closure c.args.arguments c.args.bound.now (subst (λ n. HasCodes n gs closure c.args.arguments c.args.bound.now) c.in-Function.is c.requires.codes)

pub deleted-requires : goal.deleted-requires
deleted-requires c =
    let x = c.args.call.now in
    deleted_keeps (call_of x) (call_name x) (out-Call x).name_span (call_bang x) (call_args x) (call_closure x) (call_seen x) (subst (IsNamed (call_name x)) c.in-Deletion.is c.requires.name) c.requires.form

pub returns-in-Function : goal.returns-in-Function
returns-in-Function c =
    let x = c.args.call.now in
    let gs = call_args x in
    let f = c.in-Function.function in
    let after = c.answered.new.checker in
    let codes = subst (λ n. HasCodes n gs (call_closure x) c.args.arguments c.args.bound.now) c.in-Function.is c.requires.codes in
    IfOk-weaker c.answered.result _ _
    (λ finding answers span. subst (λ n. IsBoundCallAs n span (call_of x) (call_bang x) gs (call_closure x) c.args.arguments c.args.checker.now after finding) (sym c.in-Function.is)
    (subst (λ form. IsBoundCallAs (callee.Function f) span form (call_bang x) gs (call_closure x) c.args.arguments c.args.checker.now after finding) (sym (call_seen x))
    (function_judged f (call_name x) (out-Call x).name_span span (call_bang x) gs (call_closure x) c.args.arguments c.args.bound.now c.args.checker.now after finding (subst (IsNamed (call_name x)) c.in-Function.is c.requires.name)
    codes.places_are answers c.answered.ensures.checker)))
    c.answered.ensures.answered

pub returns-in-Deletion : goal.returns-in-Deletion
returns-in-Deletion c =
    let x = c.args.call.now in
    let gs = call_args x in
    let after = c.deleted.new.checker in
    IfOk-weaker c.deleted.result _ _
    (λ finding deletes span. subst (λ n. IsBoundCallAs n span (call_of x) (call_bang x) gs (call_closure x) c.args.arguments c.args.checker.now after finding) (sym c.in-Deletion.is)
    (subst (λ form. IsBoundCallAs callee.Deletion span form (call_bang x) gs (call_closure x) c.args.arguments c.args.checker.now after finding) (sym (call_seen x))
    (deletion_judged (call_name x) (out-Call x).name_span span (call_bang x) gs (call_closure x) c.args.arguments c.args.checker.now after finding (subst (IsNamed (call_name x)) c.in-Deletion.is c.requires.name) deletes)))
    c.deleted.ensures

pub returns-in-Existence : goal.returns-in-Existence
returns-in-Existence c =
    let x = c.args.call.now in
    let gs = call_args x in
    by_both c.existing.result _ _ _
    (λ finding kind same span. subst (λ n. IsBoundCallAs n span (call_of x) (call_bang x) gs (call_closure x) c.args.arguments c.args.checker.now c.args.checker.now finding) (sym c.in-Existence.is)
    (subst (λ form. IsBoundCallAs callee.Existence span form (call_bang x) gs (call_closure x) c.args.arguments c.args.checker.now c.args.checker.now finding) (sym (call_seen x))
    (existence_judged (call_name x) (out-Call x).name_span span (call_bang x) gs (call_closure x) c.args.arguments c.args.checker.now finding (subst (IsNamed (call_name x)) c.in-Existence.is c.requires.name)
    kind same)))
    c.existing.ensures.kind c.existing.ensures.ends
