use Rattle.std.proofs.Common.{◌≡◌, rules}
use Rattle.vrl_compile.specs.Answer.{malformed_literals}
use Rattle.vrl_compile.proofs.MalformedLiterals.{all_formed, some_malformed}
use Rattle.vrl_compile.proofs.literals.build_literals.Goals as goal

pub returns-in-Ok-clause-formed : goal.returns-in-Ok-clause-formed
returns-in-Ok-clause-formed c = all_formed c.args.tokens.now.tokens c.args.sources.now c.requires c.in-Ok.ensures.formed

pub returns-in_ok-found-in-Err-clause-malformed : goal.returns-in_ok-found-in-Err-clause-malformed
returns-in_ok-found-in-Err-clause-malformed c =
    let told : c.in_ok-found-in-Err.found.items ≡ malformed_literals c.args.tokens.now.tokens = search rules in
    (told, some_malformed c.args.tokens.now.tokens c.args.sources.now c.in_ok-numbers-in-Err.numbers c.in_ok-found-in-Err.found.items c.requires (rw c.in_ok-numbers-in-Err.ensures at c.in-Err.ensures.refused) told)
