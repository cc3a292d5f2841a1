use Rattle.std.proofs.Common.{◌≡◌, ◌++◌, ◌∷◌, [], None, rules}
use Rattle.std.specs.Prelude.{codes}
use Rattle.remap_fmt.specs.Answer.{script_in, texts}
use Rattle.remap_fmt.proofs.Calls.{refused_call, script_call, unloaded_call, wanting_call}
use Rattle.remap_fmt.proofs.call.fmt.Goals as goal

pub returns-in_default-clause-call : goal.returns-in_default-clause-call
returns-in_default-clause-call g c =
    let none : script_in (texts c.args.words.now) ≡ None = search rules in
    let given : c.as_bytes.result.now ≡ codes "usage: remap_fmt SCRIPT" ++ 10 ∷ [] = search rules in
    let told = c.give.ensures in
    refused_call _ _ _ _ _ _ _ none given told.whole told.front told.either

pub returns-in-Ok-clause-call : goal.returns-in-Ok-clause-call
returns-in-Ok-clause-call g c =
    script_call _ _ c.in-Some.name.now c.in-Ok.script _ _ _ _ c.in-Some.ensures
    c.in-Ok.ensures.bytes c.as_slice.ensures c.answer.ensures.leaves

pub returns-in-Err-Failed-clause-call : goal.returns-in-Err-Failed-clause-call
returns-in-Err-Failed-clause-call g c = unloaded_call _ _ c.in-Some.name.now _ c.in-Some.ensures

pub returns-in-Err-Memory-clause-call : goal.returns-in-Err-Memory-clause-call
returns-in-Err-Memory-clause-call g c = wanting_call _ _ c.in-Some.name.now _ c.in-Some.ensures
