use Rattle.std.proofs.Common.{false, map, sym, subst, ap, ◌∙◌, None, unwrap_or}
use Rattle.vrl_syntax.specs.View.{exprs_of}
use Rattle.vrl_judge.specs.Judging.{branches_known}
use Rattle.vrl_judge.specs.Ordered.{AreOrdered}
use Rattle.vrl_state.specs.Known.{known_as}
use Rattle.vrl_judge.specs.declared.checker.Checker.{Checker}
use Rattle.vrl_check.specs.Answer.{outside}
use Rattle.vrl_check.specs.declared.judged.Judged.{Judged}
use Rattle.vrl_check.proofs.Answering.{script_judged, AreAnswered}
use Rattle.vrl_judge.proofs.Joining.{is_present}
use Rattle.vrl_check.proofs.script.check.Goals as goal

pub script_start-requires : goal.script_start-requires
script_start-requires c = is_present c.args.start.now c.requires.present

pub returns : goal.returns
returns c =
    let before : Checker = record { alloc = c.args.alloc; patterns = c.args.patterns; state = c.in_ok-state.state; diagnostics = c.new.result; empties = c.new-2.result; loops = c.new-3.result; inside = false } in
    let finding = c.in_ok-finding.finding in
    let after = c.script_items.new.checker in
    let judged : Judged = record { kind = c.in_ok-kind.kind; ok = c.in_ok-ok.ok; fail = c.in_ok-fail.fail; ret = c.into_parts-fail.result.1; empties = c.new-4.result; loops = c.new-5.result; diagnostics = c.new-6.result } in
    let parts = c.into_parts-kind.ensures in
    let fail = c.into_parts-fail.ensures.fail ∙ ap (λ es. es.fail) parts.ends in
    let ret = c.into_parts-fail.ensures.ret ∙ ap (λ es. es.ret) parts.ends in
    let answered : AreAnswered after.state finding judged = record { kind = c.in_ok-kind.ensures ∙ parts.kind; ok = c.in_ok-ok.ensures; fail = c.in_ok-fail.ensures ∙ ap (λ way. unwrap_or way (outside None)) fail; ret = ret } in
    script_judged c.args.start.now (exprs_of c.args.script.now.items) before after finding judged c.in_ok-state.ensures c.new.ensures.items c.new-2.ensures.items c.new-3.ensures.items c.in_ok-finding.ensures
    answered c.new-4.ensures c.new-5.ensures (subst (AreOrdered after.diagnostics.items) (sym c.new-6.ensures) c.in_ok-diagnostics.ensures)
