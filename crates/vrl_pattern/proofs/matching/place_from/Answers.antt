use Rattle.std.proofs.Common.{◌≤◌, sym, arith}
use Rattle.regex.specs.Strings.{match_span, matcher_pattern}
use Rattle.vrl_pattern.proofs.Next.{begins_behind}
use Rattle.vrl_pattern.proofs.matching.place_from.Goals as goal

pub returns-clause-behind : goal.returns-clause-behind
returns-clause-behind c =
    let re = matcher_pattern c.args.matcher.now in
    let span = match_span c.in_ok-found.found in
    let behind : c.args.from ≤ span.0 =
    begins_behind re c.args.text.now c.args.from span (sym c.in_ok-found.ensures.found) in
    omega (arith, c.start.ensures)
