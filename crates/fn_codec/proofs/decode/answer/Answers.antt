use Rattle.std.proofs.Common.{rules, ◌≡◌, Some, Ok}
use Rattle.fn_codec.proofs.Texts.{found_is}
use Rattle.fn_codec.proofs.decode.answer.Goals as goal

pub returns-in-Ok-Some-clause-answer : goal.returns-in-Ok-Some-clause-answer
returns-in-Ok-Some-clause-answer c = λ told given.
    let is : c.args.found ≡ Ok (Some c.in-Ok-Some.bytes) = search rules in
    let found : Some c.in-Ok-Some.bytes.items ≡ told = rw is at given in
    found_is c.args.name.now c.args.words.now c.in-Ok-Some.bytes.items told c.text_of.result found (c.text_of.ensures.answer c.args.words.now)
