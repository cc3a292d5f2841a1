use Rattle.std.proofs.Common.{◌≡◌, ◌+◌, ◌-◌, ◌<◌, ◌≤◌, true, sym, ap, ◌∙◌, arith}
use Rattle.regex.specs.Patterns.{find_str}
use Rattle.regex.specs.Strings.{matcher_pattern}
use Rattle.regex.proofs.SearchLemmas.{next_later}
use Rattle.vrl_pattern.proofs.Next.{none_next, some_next}
use Rattle.vrl_pattern.proofs.matching.read_next.Goals as goal

pub returns-in_default-clause-found : goal.returns-in_default-clause-found
returns-in_default-clause-found c =
    let re = matcher_pattern c.args.matcher.now in
    let hay = c.args.text.now in
    let from : c.saturating_sub.result ≡ c.args.after - 1 = omega (arith, c.saturating_sub.ensures) in
    none_next re hay c.args.after (ap (find_str re hay) (sym from) ∙ c.in_default.ensures.found)

pub returns-then-reached-after-clause-found : goal.returns-then-reached-after-clause-found
returns-then-reached-after-clause-found c =
    let re = matcher_pattern c.args.matcher.now in
    let hay = c.args.text.now in
    let from : c.saturating_sub.result ≡ c.args.after - 1 = omega (arith, c.saturating_sub.ensures) in
    let first = c.in-Some.ensures.found in
    let ends : c.end-reached.result ≡ first.0.trace.end = c.end-reached.ensures ∙ ap (λ s. s.1) first.2.0 in
    let behind : c.args.after ≤ first.0.trace.end = omega (arith, ends) in (
      first.0,
      some_next re hay c.args.after first.0 (ap (find_str re hay) (sym from) ∙ first.1) behind,
      (ap (λ n. n + 1) ends, first.2.1),
    )

pub returns-in_default-captures_read_at-clause-found : goal.returns-in_default-captures_read_at-clause-found
returns-in_default-captures_read_at-clause-found c =
    let re = matcher_pattern c.args.matcher.now in
    let hay = c.args.text.now in
    let from : c.saturating_sub.result ≡ c.args.after - 1 = omega (arith, c.saturating_sub.ensures) in
    let first = c.in-Some.ensures.found in
    let ends : c.end-reached.result ≡ first.0.trace.end = c.end-reached.ensures ∙ ap (λ s. s.1) first.2.0 in
    let before : first.0.trace.end < c.args.after = omega (arith, ends) in
    next_later re hay true c.args.after first.0 (ap (find_str re hay) (sym from) ∙ first.1) before
    ∙ ap (λ re. find_str re hay c.args.after) (sym c.captures_read_at.ensures.same)
    ∙ c.in_default-captures_read_at.ensures.found

pub returns-clause-found : goal.returns-clause-found
returns-clause-found c =
    let re = matcher_pattern c.args.matcher.now in
    let hay = c.args.text.now in
    let from : c.saturating_sub.result ≡ c.args.after - 1 = omega (arith, c.saturating_sub.ensures) in
    let first = c.in-Some.ensures.found in
    let ends : c.end-reached.result ≡ first.0.trace.end = c.end-reached.ensures ∙ ap (λ s. s.1) first.2.0 in
    let before : first.0.trace.end < c.args.after = omega (arith, ends) in
    let later = c.in-Some-captures_read_at.ensures.found in (
      later.0,
      next_later re hay true c.args.after first.0 (ap (find_str re hay) (sym from) ∙ first.1) before
          ∙ ap (λ re. find_str re hay c.args.after) (sym c.captures_read_at.ensures.same) ∙ later.1,
      (ap (λ n. n + 1) (c.end.ensures ∙ ap (λ s. s.1) later.2.0), later.2.1),
    )
