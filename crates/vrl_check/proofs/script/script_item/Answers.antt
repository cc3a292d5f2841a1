use Rattle.std.proofs.Common.{◌≡◌, rules, subst, sym}
use Rattle.vrl_syntax.specs.View.{expr_of}
use Rattle.vrl_syntax.specs.declared.tree.Form.{the_lemmas}
use Rattle.vrl_check.specs.Walking.{IsItemAs}
use Rattle.vrl_check.proofs.Forms.{item_judged}
use Rattle.vrl_judge.proofs.Results.{by_both}
use Rattle.vrl_check.proofs.script.script_item.Goals as goal
use Rattle.vrl_syntax.specs.Tree.{span_of}

pub returns : goal.returns
returns c =
    let span_is : c.args.item.now.span ≡ span_of (expr_of c.args.item.now) = search (rules, the_lemmas) in
    by_both c.reported.result _ _ _
    (λ finding same reported. subst (IsItemAs (expr_of c.args.item.now) c.args.checker.now c.reported.new.self) (sym same)
    (item_judged (expr_of c.args.item.now) c.args.item.now.span c.args.checker.now c.expr.new.checker c.reported.new.self c.in_ok-part.part c.is_fallible-fallible.result finding.ends span_is c.is_fallible-fallible.ensures c.in_ok-part.ensures reported))
    c.reported.ensures.same c.reported.ensures.reported
