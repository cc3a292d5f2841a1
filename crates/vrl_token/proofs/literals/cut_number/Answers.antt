use Rattle.std.proofs.Common.{refl, subst}
use Rattle.std.specs.Int.{w64}
use Rattle.std.specs.Prelude.{FitsSigned}
use Rattle.vrl_token.specs.Faults.{float, joined_number, large_number}
use Rattle.vrl_token.specs.Lexical.{IsNameStart}
use Rattle.vrl_token.proofs.Tested.{outside_of}
use Rattle.vrl_token.proofs.literals.cut_number.Goals as goal

pub returns-in-Some : goal.returns-in-Some
returns-in-Some c = λ before text may sign. record {
  rest = c.in-Some.behind.now;
  is_fault = float c.args.negative c.split_digits.result.0.now c.split_digits.result.1.now may (record { unsigned = c.args.unsigned.now; sign = sign; parts = c.split_digits.ensures.parts; is_digits = c.split_digits.ensures.is_digits; ends = c.split_digits.ensures.ends }) c.in-Some.ensures refl;
  length_is = refl;
}

pub returns-then-begins_in : goal.returns-then-begins_in
returns-then-begins_in c = λ before text may sign. record {
  rest = c.split_digits.result.1.now;
  is_fault = joined_number c.args.negative c.split_digits.result.0.now
      (record { sign = may; numeral = record { unsigned = c.args.unsigned.now; sign = sign; parts = c.split_digits.ensures.parts; is_digits = c.split_digits.ensures.is_digits; ends = c.split_digits.ensures.ends }; whole = c.in_default.ensures })
      (c.begins_in.ensures.0 c.if-begins_in.true) refl;
  length_is = refl;
}

pub returns-in-None : goal.returns-in-None
returns-in-None c = λ before text may sign. record {
  rest = c.split_digits.result.1.now;
  is_fault = large_number c.args.negative c.split_digits.result.0.now
      (record { sign = may; numeral = record { unsigned = c.args.unsigned.now; sign = sign; parts = c.split_digits.ensures.parts; is_digits = c.split_digits.ensures.is_digits; ends = c.split_digits.ensures.ends }; whole = c.in_default.ensures })
      (outside_of IsNameStart _ (λ inside. let wrong = c.begins_in.ensures.1 inside in let is = c.if-begins_in.false in cc))
      (λ number is. c.in-None.ensures (subst (FitsSigned w64) is.value is.fits)) refl;
  length_is = refl;
}
