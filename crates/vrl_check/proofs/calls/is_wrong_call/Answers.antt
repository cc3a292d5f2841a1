use Rattle.std.proofs.Common.{◌≡◌, ◌∙◌, ap₂, length, nat_lt, rules, vec_len}
use Rattle.vrl_check.proofs.CallsWanted.{counted_more}
use Rattle.vrl_check.proofs.calls.is_wrong_call.Goals as goal

pub returns-clause-wrong : goal.returns-clause-wrong
returns-clause-wrong c js told =
    let before : vec_len c.args.checker.now.diagnostics ≡ length c.args.checker.now.diagnostics.items = search rules in
    let after : vec_len c.bound.new.checker.diagnostics ≡ length c.bound.new.checker.diagnostics.items = search rules in
    c.is_more.ensures ∙ ap₂ nat_lt (c.len-count.ensures ∙ before) (c.len.ensures ∙ after) ∙ counted_more c.args.checker.now.diagnostics.items c.bound.new.checker.diagnostics.items _ (c.in_ok-_bound.ensures.reported js told).diagnostics
