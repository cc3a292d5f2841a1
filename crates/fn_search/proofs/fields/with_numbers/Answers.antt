use Rattle.std.proofs.Common.{◌+◌, ◌<◌, length, add-one, arith, sym, ap, subst, ◌∙◌}
use Rattle.vrl_value.specs.View.{members_of}
use Rattle.vrl_pattern.specs.Places.{place_spans, AreParts}
use Rattle.fn_search.specs.Fields.{with_numbers}
use Rattle.fn_search.proofs.Fielded.{later_length, number_step, parts_later}
use Rattle.fn_search.proofs.fields.with_numbers.Goals as goal

pub loop-number-preserved : goal.loop-number-preserved
loop-number-preserved c =
    let text = c.args.text.now in
    let n = c.loop-number.number in
    let gs = place_spans c.loop-number.left.now in
    let later = c.later_groups-left.ensures in
    let some : 0 < length gs = omega (arith, c.loop-number.invariant.2, c.loop-number-test.true) in
    let less = later_length gs some in (
      (λ i. with_numbers (n + 1) text (later i) (c.in_ok-put_numbered.ensures i)) ∙ number_step n (n + 1) text gs (members_of c.loop-number.fields) (add-one n) some ∙ c.loop-number.invariant.0,
      subst (AreParts text) (sym later) (parts_later text gs c.loop-number.invariant.1),
      ap (λ xs. n + 1 + length xs) later ∙ omega (arith, less, c.loop-number.invariant.2),
    )
