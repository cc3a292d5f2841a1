use Rattle.std.proofs.Common.{◌≡◌, pos, ap, ◌∙◌, arith}
use Rattle.std.proofs.lemmas.Int.{ints}
use Rattle.vrl_value.proofs.Clock.{valid_date, valid_time, shown_nanos}
use Rattle.vrl_value.proofs.reading.clock.Goals as goal

pub returns-clause-some : goal.returns-clause-some
returns-clause-some c =
    let p = c.args.parts in
    let d = c.in-Ok.date in
    let t = c.in-Ok-new.time in
    let year : d.year ≡ pos p.year = omega (arith, ints, c.in-Ok.ensures.value, c.requires.year) in
    let month : d.month ≡ p.month = omega (arith, ints, c.in-Ok.ensures.value, c.requires.month) in
    let day : d.day ≡ p.day = omega (arith, ints, c.in-Ok.ensures.value, c.requires.day) in
    let hour : t.hour ≡ p.hour = omega (arith, ints, c.in-Ok-new.ensures.value, c.requires.hour) in
    let minute : t.minute ≡ p.minute = omega (arith, ints, c.in-Ok-new.ensures.value, c.requires.minute) in
    let second : t.second ≡ p.second = omega (arith, ints, c.in-Ok-new.ensures.value, c.requires.second) in
    let nanos : t.subsec_nanosecond ≡ p.nanosecond = omega (arith, ints, c.in-Ok-new.ensures.value, c.requires.nanosecond) in
    let date = c.from_parts.ensures.date in
    let time = c.from_parts.ensures.time in
    shown_nanos c.from_parts.result p.year p.month p.day p.hour p.minute p.second p.nanosecond (ap (λ x. x.year) date ∙ year) (ap (λ x. x.month) date ∙ month) (ap (λ x. x.day) date ∙ day) (ap (λ x. x.hour) time ∙ hour) (ap (λ x. x.minute) time ∙ minute) (ap (λ x. x.second) time ∙ second) (ap (λ x. x.subsec_nanosecond) time ∙ nanos)

pub returns-clause-valid : goal.returns-clause-valid
returns-clause-valid c =
    let p = c.args.parts in
    let d = c.in-Ok.date in
    let t = c.in-Ok-new.time in (
      valid_date d p.year p.month p.day (omega (arith, ints, c.in-Ok.ensures.value, c.requires.year)) (omega (arith, ints, c.in-Ok.ensures.value, c.requires.month)) (omega (arith, ints, c.in-Ok.ensures.value, c.requires.day)),
      valid_time t p.hour p.minute p.second p.nanosecond (omega (arith, ints, c.in-Ok-new.ensures.value, c.requires.hour)) (omega (arith, ints, c.in-Ok-new.ensures.value, c.requires.minute)) (omega (arith, ints, c.in-Ok-new.ensures.value, c.requires.second)) (omega (arith, ints, c.in-Ok-new.ensures.value, c.requires.nanosecond)),
    )
