use Rattle.std.proofs.Common.{◌≡◌, ◌++◌, ◌∷◌, [], rules}
use Rattle.std.specs.Prelude.{codes}
use Rattle.vrl_token.specs.Reading.{IsNoScript}
use Rattle.remap_fmt.proofs.ScriptAnswers.{layout_left, no_text_left, refused_left, too_long_left}
use Rattle.remap_fmt.proofs.answering.answer.Goals as goal

pub returns-in-Err-clause-leaves : goal.returns-in-Err-clause-leaves
returns-in-Err-clause-leaves g c =
    let none : IsNoScript c.args.script.now = search rules in
    no_text_left _ c.in-Err.fault _ _ _ none c.in-Err.ensures.fault
    (c.refuse.ensures.leaves (g.O.Sink.written c.args.output.now))

pub returns-in-Ok-Text-clause-leaves : goal.returns-in-Ok-Text-clause-leaves
returns-in-Ok-Text-clause-leaves g c =
    let is_text : ¬ IsNoScript c.args.script.now = search rules in
    let given : c.as_bytes.result.now ≡ c.in-Ok-Text.layout = search rules in
    let told = c.give.ensures in
    layout_left _ c.in-Ok.text.now c.in-Ok-Text.field-0 c.in-Ok-Text.layout _ _ _ _ _ is_text
    c.in-Ok.ensures.text c.in-Ok-Text.ensures.answer
    c.in-Ok-Text.field-0-is given told.whole told.front told.either

pub returns-in-Ok-Refused-clause-leaves : goal.returns-in-Ok-Refused-clause-leaves
returns-in-Ok-Refused-clause-leaves g c =
    let is_text : ¬ IsNoScript c.args.script.now = search rules in
    refused_left _ c.in-Ok.text.now c.in-Ok-Refused.field-0 c.in-Ok-Refused.fault _ _ _ is_text
    c.in-Ok.ensures.text
    c.in-Ok-Refused.ensures.answer c.in-Ok-Refused.field-0-is
    (c.refuse-in-Ok-Refused.ensures.leaves (g.O.Sink.written c.args.output.now))

pub returns-in-Ok-TooLong-clause-leaves : goal.returns-in-Ok-TooLong-clause-leaves
returns-in-Ok-TooLong-clause-leaves g c =
    let is_text : ¬ IsNoScript c.args.script.now = search rules in
    let given : c.as_bytes-in-Ok-TooLong.result.now ≡ codes "too long" ++ 10 ∷ [] = search rules in
    let told = c.give-in-Ok-TooLong.ensures in
    too_long_left _ c.in-Ok.text.now c.in-Ok-TooLong.field-0 _ _ _ _ _ is_text c.in-Ok.ensures.text
    c.in-Ok-TooLong.ensures.answer
    c.in-Ok-TooLong.field-0-is given told.whole told.front told.either
