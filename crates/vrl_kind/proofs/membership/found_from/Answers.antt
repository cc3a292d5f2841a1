use Rattle.std.proofs.Common.{nat_cmp, sym, ap, ◌∙◌}
use Rattle.std.specs.Cmp.Lexicographic.{slice_cmp}
use Rattle.vrl_kind.specs.View.{fields_view}
use Rattle.vrl_kind.proofs.Inhabiting.{absent_is, skipped_next, skipped_lacking, skipped_here, skipped_past, skipped_all}
use Rattle.vrl_kind.proofs.Merging.{none_left}
use Rattle.vrl_kind.proofs.membership.found_from.Goals as goal

pub returns-then-not-has : goal.returns-then-not-has
returns-then-not-has c = skipped_lacking _ _ _ _ _ _ c.loop-first.invariant (ap fields_view c.in-Some.ensures.cases.0) (ap (λ m. slice_cmp nat_cmp m c.args.name.now) (sym c.as_str.ensures) ∙ sym c.in-Less.ensures) (absent_is c.in-Some.first.now.kind ∙ sym c.has.ensures ∙ c.if-not-has.true)

pub loop-first-preserved : goal.loop-first-preserved
loop-first-preserved c = skipped_next _ _ _ _ _ _ c.loop-first.invariant (ap fields_view c.in-Some.ensures.cases.0) (ap (λ m. slice_cmp nat_cmp m c.args.name.now) (sym c.as_str.ensures) ∙ sym c.in-Less.ensures) (absent_is c.in-Some.first.now.kind ∙ sym c.has.ensures ∙ c.if-not-has.false)

pub returns-in-Equal : goal.returns-in-Equal
returns-in-Equal c = skipped_here _ _ _ _ _ _ c.loop-first.invariant (ap fields_view c.in-Some.ensures.cases.0) (ap (λ m. slice_cmp nat_cmp m c.args.name.now) (sym c.as_str.ensures) ∙ sym c.in-Equal.ensures)

pub returns-in-Greater : goal.returns-in-Greater
returns-in-Greater c = skipped_past _ _ _ _ _ _ c.loop-first.invariant (ap fields_view c.in-Some.ensures.cases.0) (ap (λ m. slice_cmp nat_cmp m c.args.name.now) (sym c.as_str.ensures) ∙ sym c.in-Greater.ensures)

pub returns : goal.returns
returns c = skipped_all _ _ _ c.loop-first.invariant (ap fields_view (none_left _ c.in_default.ensures.cases))
