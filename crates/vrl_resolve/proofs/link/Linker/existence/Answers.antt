use Rattle.std.proofs.Common.{◌∙◌, ap, ap₂}
use Rattle.vrl_resolve.specs.Calls as called
use Rattle.vrl_resolve.specs.Linking.{path_called}
use Rattle.vrl_resolve.proofs.Links.{numbers_weaker}
use Rattle.vrl_resolve.proofs.link.Linker.existence.Goals as goal

pub returns-in_ok-target_path-in-Some : goal.returns-in_ok-target_path-in-Some
returns-in_ok-target_path-in-Some c =
    numbers_weaker (λ names is. record { known = is.begins.known; same = ap₂ called.existence is.begins.same (is.steps ∙ c.in_ok-path-in-Some.ensures) ∙ ap (path_called called.existence) c.in-Some.ensures })
    c.in_ok-target_path-in-Some.ensures
