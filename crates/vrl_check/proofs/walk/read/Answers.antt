use Rattle.std.proofs.Common.{ap, option_map, subst, sym, ◌∙◌, IfSome}
use Rattle.std.proofs.lemmas.Result.{IfOk-weaker}
use Rattle.vrl_state.specs.States.{IsRootKind}
use Rattle.vrl_check.proofs.Forms.{read_given, read_judged, unknown_given}
use Rattle.vrl_check.proofs.walk.read.Goals as goal

pub returns-in_ok-read_root-in-Some-clause-given : goal.returns-in_ok-read_root-in-Some-clause-given
returns-in_ok-read_root-in-Some-clause-given c =
    let known = ap (option_map (λ k. k.value)) (sym c.in-Some.is) ∙ c.in_ok-found.ensures.kind in
    let root = subst (λ found. IfSome found (λ k. IsRootKind k.value)) c.in-Some.is c.in_ok-found.ensures.root in
    read_given c.args.span c.args.root.now c.args.path.now c.args.checker.now c.value.result c.in-Some.kind.value _ known root c.in_ok-read_root-in-Some.ensures c.value.ensures.kind c.value.ensures.ends

pub returns-in_ok-read_root-in-Some-clause-judged : goal.returns-in_ok-read_root-in-Some-clause-judged
returns-in_ok-read_root-in-Some-clause-judged c =
    let root = subst (λ found. IfSome found (λ k. IsRootKind k.value)) c.in-Some.is c.in_ok-found.ensures.root in
    read_judged c.args.path.now c.args.checker.now c.value.result c.in-Some.kind.value _ root c.in_ok-read_root-in-Some.ensures c.value.ensures.kind c.value.ensures.ends

pub returns-in-None-clause-given : goal.returns-in-None-clause-given
returns-in-None-clause-given c =
    let known = ap (option_map (λ k. k.value)) (sym c.in-None.is) ∙ c.in_ok-found.ensures.kind in
    IfOk-weaker c.unknown.result _ _ (λ finding has. unknown_given c.args.span c.args.root.now c.args.path.now c.args.checker.now _ finding known has) c.unknown.ensures

pub returns-in-None-clause-judged : goal.returns-in-None-clause-judged
returns-in-None-clause-judged c = IfOk-weaker c.unknown.result _ _ (λ finding has. (_, has)) c.unknown.ensures
