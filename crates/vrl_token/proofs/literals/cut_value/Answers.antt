use Rattle.std.proofs.Common.{◌≡◌, ◌∙◌, inl, inr, refl, sym, subst, arith}
use Rattle.vrl_value.specs.Rfc3339.{IsReading}
use Rattle.vrl_token.specs.Faults.{many_regexes, no_moment}
use Rattle.vrl_token.specs.Words.{IsRaw}
use Rattle.vrl_token.proofs.literals.cut_value.Goals as goal

pub returns-in-114-2 : goal.returns-in-114-2
returns-in-114-2 c = λ before text characters spelled value left. record {
  rest = c.args.rest.now;
  is_fault = many_regexes characters (subst (λ l. IsRaw l text characters c.args.rest.now) c.in-114.is spelled) (omega arith) refl;
  length_is = refl;
}

pub returns : goal.returns
returns c = λ before text characters spelled value left.
    let is_t : c.args.letter ≡ 116 = elim c.requires [ inl a ↦ absurd (omega arith) | inr (inl b) ↦ absurd (omega arith) | inr (inr d) ↦ d ] in
    record {
      rest = c.args.rest.now;
      is_fault = no_moment characters (subst (λ l. IsRaw l text characters c.args.rest.now) is_t spelled) (λ moment is. c.in-None.ensures.none moment (subst (λ t. IsReading t moment) (sym (c.as_str.ensures ∙ value)) is)) refl;
      length_is = refl;
    }
