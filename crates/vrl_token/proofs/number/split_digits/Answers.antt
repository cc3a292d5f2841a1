use Rattle.std.proofs.Common.{◌≡◌, ◌-◌, length, ap, subst, arith, length-append}
use Rattle.std.specs.Str.{IsCharBoundary}
use Rattle.std.proofs.lemmas.Str.{IsCharBoundary-at_seam}
use Rattle.vrl_token.proofs.number.split_digits.Goals as goal

pub split_at-requires : goal.split_at-requires
split_at-requires c =
    let cut = c.behind_digits-rest.ensures in
    let text = c.args.text.now in
    let rest = c.behind_digits-rest.result.now in
    let size : length cut.digits ≡ length text - length rest = omega (arith, length-append cut.digits rest, ap length cut.parts) in
    subst (IsCharBoundary text) size (IsCharBoundary-at_seam text cut.digits rest cut.parts c.behind_digits-rest.utf8)
