use Rattle.std.proofs.Common.{◌≡◌, ◌∷◌, add-one, sym, ◌∙◌, rules}
use Rattle.vrl_compile.proofs.MalformedLiterals.{next_is}
use Rattle.vrl_compile.proofs.literals.add_if_next.Goals as goal

pub returns-in_ok-push-in-Some-clause-left : goal.returns-in_ok-push-in-Some-clause-left
returns-in_ok-push-in-Some-clause-left c = λ source sources is.
    let front : c.args.numbers.now ≡ c.in-Some.first.now ∷ c.in-Some.behind.now = search rules in
    let first : c.in-Some.first.now ≡ c.args.number = search rules in
    rw add-one (next_is c.args.number c.in-Some.first.now c.in-Some.behind.now source sources (sym front ∙ is) first).left_is

pub returns-in_ok-push-in-Some-clause-added : goal.returns-in_ok-push-in-Some-clause-added
returns-in_ok-push-in-Some-clause-added c = λ source sources is.
    let front : c.args.numbers.now ≡ c.in-Some.first.now ∷ c.in-Some.behind.now = search rules in
    let first : c.in-Some.first.now ≡ c.args.number = search rules in
    let next = next_is c.args.number c.in-Some.first.now c.in-Some.behind.now source sources (sym front ∙ is) first in
    rw next.malformed_is (search rules)
