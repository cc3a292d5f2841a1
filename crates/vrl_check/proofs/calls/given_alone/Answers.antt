use Rattle.std.proofs.Common.{◌≡◌, None, Some, ap, ◌∙◌, replicate, arith}
use Rattle.vrl_value.specs.View.{tree_of}
use Rattle.vrl_builtin.specs.Rows.{literal_at}
use Rattle.vrl_builtin.specs.declared.given.Given.{Given}
use Rattle.vrl_check.proofs.CallsLiterals.{given_literal, not_given, stands_alone}
use Rattle.vrl_check.proofs.calls.given_alone.Goals as goal

pub returns : goal.returns
returns c i =
    let last : Given = record { kind = None; literal = Some c.in_ok-copy.field-0 } in
    let at_end : c.loop-step._step ≡ c.args.place = omega arith in
    ap (literal_at i) c.new.ensures
    ∙ stands_alone c.push-2.new.self.items c.loop-step.givens.items last c.args.place (tree_of c.args.value.now) c.in_ok-push-2.ensures.items
    (c.loop-step.invariant ∙ ap (λ n. replicate n not_given) at_end) (ap given_literal c.in_ok-copy.ensures.equal) i
