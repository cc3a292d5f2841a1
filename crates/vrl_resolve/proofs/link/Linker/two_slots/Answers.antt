use Rattle.std.proofs.Common.{◌≡◌, get_or, rules}
use Rattle.vrl_resolve.proofs.ClosureCalls.{two_are}
use Rattle.vrl_resolve.proofs.Links.{numbers_then, numbers_weaker}
use Rattle.vrl_resolve.proofs.link.Linker.two_slots.Goals as goal

pub returns : goal.returns
returns c =
    let xs = c.args.names.now in
    let x = c.as_str.result.now in
    let y = c.as_str-2.result.now in
    let first : x ≡ get_or xs 0 x = search rules in
    let second : y ≡ get_or xs 1 y = search rules in
    numbers_weaker (λ variables both. two_are variables xs x y c.in_ok-first.first c.in_ok-second.second c.requires first second both.0 both.1) (numbers_then c.in_ok-first.ensures c.in_ok-second.ensures)
