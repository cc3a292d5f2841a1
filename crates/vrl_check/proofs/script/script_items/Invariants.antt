use Rattle.std.proofs.Common.{drop}
use Rattle.vrl_syntax.specs.View.{exprs_of, exprs_view}
use Rattle.vrl_check.proofs.Partway.{IsScriptPartway}
use Rattle.vrl_check.proofs.script.script_items.Given as goal

-- what is judged of the items that are left, behind those so far, is judged of all
abbrev pub invariant-loop-item : goal.invariant-loop-item
invariant-loop-item l = IsScriptPartway l.initial.checker l.checker (exprs_of l.items) (exprs_view (drop l.item-index l.item-items)) l.last
