use Rattle.std.proofs.Common.{refl}
use Rattle.vrl_resolve.proofs.Links.{links_passed}
use Rattle.vrl_resolve.proofs.link.Linker.pass_over.Goals as goal

pub returns : goal.returns
returns c = links_passed c.args.self.now _ _ refl c.pass_over.ensures
