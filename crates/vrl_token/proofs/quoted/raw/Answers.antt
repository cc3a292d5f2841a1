use Rattle.std.proofs.Common.{◌++◌, ◌∙◌, ap, sym, subst, rules}
use Rattle.vrl_token.proofs.Escapes.{IsRawSoFar, raw_end, raw_escape}
use Rattle.vrl_token.proofs.quoted.raw.Goals as goal

pub loop-before-preserved : goal.loop-before-preserved
loop-before-preserved c = (
  search rules,
  λ characters inner.
      subst (λ out. IsRawSoFar characters out c.raw_pair.result.1.now) (sym (c.in_ok-push_str-2.ensures.bytes ∙ ap (λ t. t ++ c.raw_pair.result.0.now) c.in_ok-push_str.ensures.bytes))
      (raw_escape c.in-Some.before.now (c.loop-before.invariant.1 characters inner) c.in-Some.ensures.passes c.in-Some.ensures.parts c.raw_pair.ensures),
)

pub returns : goal.returns
returns c = λ characters inner. c.new.ensures ∙ c.in_ok-push_str-3.ensures.bytes ∙ raw_end (c.loop-before.invariant.1 characters inner) c.in_default.ensures
