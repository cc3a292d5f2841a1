use Rattle.std.proofs.Common.{◌≡◌, ◌++◌, [], ◌∷◌, Some, false, unsigned_abs, to_z, of_z, w32, ap, ◌∙◌, arith}
use Rattle.std.proofs.lemmas.Int.{ints}
use Rattle.jiff.specs.Words.{datetime_text}
use Rattle.vrl_value.specs.MomentText.{fewest_places, moment_text}
use Rattle.vrl_value.proofs.Shown.{datetime_text-moment_text, with_precision}
use Rattle.vrl_value.proofs.moment.Moment.text.Goals as goal

pub returns : goal.returns
returns c =
    let shown = c.utc_clock-shown.result in
    let nanos : unsigned_abs (to_z w32 (of_z w32 c.subsec_nanosecond.result)) ≡ shown.time.subsec_nanosecond = omega (arith, ints, shown.time.subsec_in) in
    let printed = with_precision c.new.result.lowercase c.precision-printer.result.lowercase c.new.result.separator c.precision-printer.result.separator c.places_of-places.result c.new.result.precision c.precision-printer.result.precision c.to_plain.result shown c.precision-printer.ensures c.new.ensures c.to_plain.ensures in
    c.new-2.ensures
    ∙ c.in_ok-format.ensures.ok
    ∙ ap (λ bs. bs ++ 90 ∷ []) (c.as_str-text.ensures.value ∙ c.datetime_text-written.ensures ∙ printed ∙ ap (λ p. datetime_text false 84 (Some p) shown) (c.places_of-places.ensures ∙ ap fewest_places nanos))
    ∙ datetime_text-moment_text shown c.nanos.result c.nanos.ensures.range (omega (arith, ints))
    ∙ ap moment_text c.nanos.ensures.value
