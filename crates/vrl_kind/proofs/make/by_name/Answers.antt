use Rattle.std.proofs.Common.{sym, ap, ◌∙◌, length, arith}
use Rattle.vrl_kind.proofs.Naming.{named_first, named_next, named_end}
use Rattle.vrl_kind.proofs.make.by_name.Goals as goal

pub loop-name-init : goal.loop-name-init
loop-name-init c =
    let gives = c.into_iter-name-iterator.ensures.into_iter_gives in
    (gives.1 ∙ c.args.fields.ok.0 ∙ ap length (sym gives.0), named_first _ _ _ gives.0 c.new-named.ensures.empty)

pub loop-name-preserved : goal.loop-name-preserved
loop-name-preserved c =
    (omega (arith, c.in-Some.ensures.steps.1, ap length c.in-Some.ensures.steps.0), named_next _ _ _ _ _ _ _ c.loop-name.invariant.1 c.in-Some.ensures.steps.0 c.into_string.ensures c.in_ok-insert.ensures.entries)

pub returns : goal.returns
returns c = named_end _ _ _ c.loop-name.invariant.1 (sym c.loop-name.invariant.0 ∙ c.in-None.ensures.steps.0)
