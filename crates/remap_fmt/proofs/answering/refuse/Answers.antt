use Rattle.std.proofs.Common.{◌≡◌, ◌∷◌, [], rules}
use Rattle.vrl_diag.specs.Rendering.{diagnostic_lines}
use Rattle.remap_fmt.specs.declared.status.FmtStatus.TheVariants as status
use Rattle.remap_fmt.proofs.Leaving.{reported_as}
use Rattle.remap_fmt.proofs.answering.refuse.Goals as goal

pub returns-in-Ok-clause-leaves : goal.returns-in-Ok-clause-leaves
returns-in-Ok-clause-leaves g c output =
    let told = c.give.ensures in
    let is : c.deref.result.now ≡ diagnostic_lines c.args.script.now (c.args.fault ∷ []) =
    search rules in
    reported_as status.Refused _ _ _ output _ _ is told.whole told.front told.either
