use Rattle.std.proofs.Common.{◌≡◌, ◌-◌, ◌<◌, ◌≤◌, option_map, sym, ap, ◌∙◌, arith}
use Rattle.regex.specs.Patterns.{find_str, span}
use Rattle.regex.specs.Strings.{matcher_pattern}
use Rattle.regex_syntax.proofs.OutcomeLemmas.{IfSome-weaker}
use Rattle.vrl_pattern.specs.Places.{place_span}
use Rattle.vrl_pattern.proofs.Next.{no_span_next, span_later, span_next}
use Rattle.vrl_pattern.proofs.matching.next_place.Goals as goal

pub returns-in_default-clause-found : goal.returns-in_default-clause-found
returns-in_default-clause-found c =
    let re = matcher_pattern c.args.matcher.now in
    let hay = c.args.text.now in
    let from : c.saturating_sub.result ≡ c.args.after - 1 = omega (arith, c.saturating_sub.ensures) in
    let found = ap (λ n. option_map span (find_str re hay n)) (sym from) ∙ sym c.in_default.ensures.found in
    sym (no_span_next re hay c.args.after found)

pub returns-then-found-after-clause-found : goal.returns-then-found-after-clause-found
returns-then-found-after-clause-found c =
    let re = matcher_pattern c.args.matcher.now in
    let hay = c.args.text.now in
    let from : c.saturating_sub.result ≡ c.args.after - 1 = omega (arith, c.saturating_sub.ensures) in
    let found = ap (λ n. option_map span (find_str re hay n)) (sym from) ∙ sym c.in-Some.ensures.found in
    let behind : c.args.after ≤ c.in-Some.found.end = omega arith in
    sym (span_next re hay c.args.after (place_span c.in-Some.found) found behind)

pub returns-clause-found : goal.returns-clause-found
returns-clause-found c =
    let re = matcher_pattern c.args.matcher.now in
    let hay = c.args.text.now in
    let from : c.saturating_sub.result ≡ c.args.after - 1 = omega (arith, c.saturating_sub.ensures) in
    let found = ap (λ n. option_map span (find_str re hay n)) (sym from) ∙ sym c.in-Some.ensures.found in
    let before : c.in-Some.found.end < c.args.after = omega arith in
    c.place_from-2.ensures.found
    ∙ ap (λ re. option_map span (find_str re hay c.args.after)) c.place_from.ensures.same
    ∙ sym (span_later re hay c.args.after (place_span c.in-Some.found) found before)

pub returns-clause-behind : goal.returns-clause-behind
returns-clause-behind c =
    IfSome-weaker c.place_from-2.result _ _ (λ place later. omega (arith, later)) c.place_from-2.ensures.behind
