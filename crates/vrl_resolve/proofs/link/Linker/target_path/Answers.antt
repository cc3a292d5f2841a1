use Rattle.std.proofs.Common.{refl}
use Rattle.vrl_resolve.proofs.Links.{numbers_weaker}
use Rattle.vrl_resolve.proofs.link.Linker.target_path.Goals as goal

pub returns : goal.returns
returns c = numbers_weaker (λ names begins. record { begins = begins; steps = refl }) c.in_ok-base.ensures
