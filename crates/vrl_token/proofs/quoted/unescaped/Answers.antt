use Rattle.std.proofs.Common.{◌++◌, ◌∙◌, ap, sym, subst, rules}
use Rattle.vrl_token.proofs.Escapes.{IsReadSoFar, read_end, read_escape, unknown_byte, unknown_letter}
use Rattle.vrl_token.proofs.quoted.unescaped.Goals as goal

pub returns-in_default-split_byte : goal.returns-in_default-split_byte
returns-in_default-split_byte c = λ characters inner. unknown_byte c.in-Some.before.now c.in-Some.escaped.now (c.loop-before.invariant.1 characters inner) c.in-Some.ensures.passes c.in-Some.ensures.parts c.in_default-split_byte.ensures

pub returns-in_default-escape : goal.returns-in_default-escape
returns-in_default-escape c = λ characters inner. unknown_letter c.in-Some.before.now c.in-Some-split_byte.letter (c.loop-before.invariant.1 characters inner) c.in-Some.ensures.passes c.in-Some.ensures.parts c.in-Some-split_byte.ensures.0 c.in_default-escape.ensures

pub loop-before-preserved : goal.loop-before-preserved
loop-before-preserved c = (
  search rules,
  λ characters inner.
      subst (λ out. IsReadSoFar characters out c.in-Some-split_byte.behind.now) (sym (c.in_ok-push_str-2.ensures.bytes ∙ ap (λ t. t ++ c.in-Some-escape.meaning.now) c.in_ok-push_str.ensures.bytes))
      (read_escape c.in-Some.before.now c.in-Some-split_byte.letter (c.loop-before.invariant.1 characters inner) c.in-Some.ensures.passes c.in-Some.ensures.parts c.in-Some-split_byte.ensures.0 c.in-Some-escape.ensures.0 c.in-Some-escape.ensures.1),
)

pub returns : goal.returns
returns c = λ characters inner. let done = read_end (c.loop-before.invariant.1 characters inner) c.in_default.ensures in (done.0, c.new.ensures ∙ c.in_ok-push_str-3.ensures.bytes ∙ sym done.1)
