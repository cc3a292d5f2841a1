use Rattle.std.proofs.Common.{◌+◌, drop}
use Rattle.std.proofs.lemmas.Result.{IfOk-weaker}
use Rattle.vrl_syntax.specs.View.{expr_of, exprs_of, exprs_view}
use Rattle.vrl_check.proofs.Partway.{next_item, no_item_left, script_can_next, script_common, script_end, script_first, script_next}
use Rattle.vrl_check.proofs.script.script_items.Goals as goal

pub loop-item-init : goal.loop-item-init
loop-item-init c = script_first c.args.checker.now (exprs_of c.args.items.now) (exprs_view c.as_slice-item-items.result.now) c.value-last.result c.in_ok-scalar.field-0 c.as_slice-item-items.ensures c.value-last.ensures.kind c.value-last.ensures.ends c.in_ok-scalar.ensures c.requires.items c.requires.outside

pub script_item-requires : goal.script_item-requires
script_item-requires c =
    let l = c.loop-item in
    let next = next_item c.as_slice-item-items.result.now l.item-index c.item-item.result c.loop-item-test.true c.item-item.is in
    script_can_next _ _ _ _ _ _ _ next l.invariant

pub go_on-requires : goal.go_on-requires
go_on-requires c =
    let l = c.loop-item in
    script_common _ l.checker c.script_item.new.checker _ _ (expr_of c.item-item.result) _ c.in_ok-part.part l.invariant c.in_ok-part.ensures

pub loop-item-preserved : goal.loop-item-preserved
loop-item-preserved c =
    let l = c.loop-item in
    let all = c.as_slice-item-items.result.now in
    let next = next_item all l.item-index c.item-item.result c.loop-item-test.true c.item-item.is in
    script_next _ l.checker c.script_item.new.checker _ _ (exprs_view (drop (l.item-index + 1) all)) (expr_of c.item-item.result) _ _ c.in_ok-part.part next l.invariant c.in_ok-part.ensures c.in_ok-go_on.ensures.kind c.in_ok-go_on.ensures.joined (c.in_ok-go_on.ensures.scopes _)

pub returns : goal.returns
returns c =
    let l = c.loop-item in
    IfOk-weaker c.settled.result _ _ (λ finding settles. script_end _ _ _ _ _ finding (no_item_left c.as_slice-item-items.result.now l.item-index c.loop-item-test.false) l.invariant settles) c.settled.ensures
