use Rattle.std.proofs.Common.{refl, sym, ap, ◌∙◌}
use Rattle.vrl_resolve.specs.Calls as called
use Rattle.vrl_resolve.specs.Linking.{names_in}
use Rattle.vrl_resolve.proofs.Begins.{begins_itself}
use Rattle.vrl_resolve.proofs.Links.{numbers_weaker}
use Rattle.vrl_resolve.proofs.link.Linker.function_of.Goals as goal

pub numbered-requires-clause-closure : goal.numbered-requires-clause-closure
numbered-requires-clause-closure c = (rw c.in-Some.is at c.in_ok-form.ensures).1.0

pub numbered-requires-clause-shape : goal.numbered-requires-clause-shape
numbered-requires-clause-shape c = (rw c.in-Some.is at c.in_ok-form.ensures).1.1

pub returns-in_ok-function-in-Some : goal.returns-in_ok-function-in-Some
returns-in_ok-function-in-Some c =
    let run = rw c.in-Some.is at c.in_ok-form.ensures in
    numbers_weaker (λ variables is. (run.0 ∙ ap called.iteration (sym is.form), is.slots)) c.in_ok-function-in-Some.ensures

pub returns-in-None : goal.returns-in-None
returns-in-None c = record { grows = begins_itself (names_in c.args.self.now); tags = refl; so = λ names begins. rw c.in-None.is at c.in_ok-form.ensures }
