use Rattle.std.proofs.Common.{refl}
use Rattle.vrl_token.specs.Faults.{template, unknown_escape}
use Rattle.vrl_token.proofs.literals.text_fault.Goals as goal

pub returns-in-None : goal.returns-in-None
returns-in-None c = λ before opening characters spelled malformed read. record { rest = c.args.rest.now; is_fault = unknown_escape characters spelled (rw c.in-None.is at read) refl; length_is = refl }

pub returns-in-Some : goal.returns-in-Some
returns-in-Some c = λ before opening characters spelled malformed read.
    let known = rw c.in-Some.is at read in
    record { rest = c.args.rest.now; is_fault = template characters spelled known.0 (malformed known.0) refl; length_is = refl }
