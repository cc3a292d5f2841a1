use Rattle.std.proofs.Common.{◌≡◌, ◌∙◌, ◌+◌, ◌&&◌, suc, ℕ, Bool, true, List, ◌∷◌, length, map, Option, sym, ap, subst, arith}
use Rattle.vrl_builtin.specs.Rows.{ParameterRow}
use Rattle.vrl_builtin.specs.View.{parameter_row}
use Rattle.vrl_value.specs.Tree.{Tree}
use Rattle.vrl_syntax.specs.Tree.{Expr}
use Rattle.vrl_syntax.specs.View.{args_view}
use Rattle.vrl_table.specs.Table.{row_of}
use Rattle.vrl_resolve.specs.Calls.{are_written_right as are_right, is_written_right as is_right, values_of, written_at}
use Rattle.vrl_resolve.proofs.bound.are_written_right.Goals as goal

one_more : (n : ℕ) → suc n ≡ n + 1
one_more n = omega arith

-- a parameter that is right leaves those behind it to decide
kept : (accepts : ℕ → Tree → Bool) (n : ℕ) (p : ParameterRow) (ps : List ParameterRow) (e : Option Expr) (es : List (Option Expr)) (whole : Bool) → is_right p (accepts n) e ≡ true
    → are_right accepts n (p ∷ ps) (e ∷ es) ≡ whole → are_right accepts (n + 1) ps es ≡ whole
kept accepts n p ps e es whole is all =
    subst (λ i. are_right accepts i ps es ≡ whole) (one_more n) (sym (ap (λ b. b && are_right accepts (suc n) ps es) is) ∙ all)

-- where the two lists are seen by their parts
kept_in : {P A : Type 0} (accepts : ℕ → Tree → Bool) (n : ℕ) (row : P → ParameterRow) (at : A → Option Expr) (left : List P) (p : P) (ps : List P) (bound : List A) (a : A) (rest : List A) (whole : Bool)
    → left ≡ p ∷ ps → bound ≡ a ∷ rest → is_right (row p) (accepts n) (at a) ≡ true → are_right accepts n (map row left) (map at bound) ≡ whole → are_right accepts (n + 1) (map row ps) (map at rest) ≡ whole
kept_in accepts n row at left p ps bound a rest whole left_is bound_is is all =
    kept accepts n (row p) (map row ps) (at a) (map at rest) whole is
    (subst (λ xs. are_right accepts n (map row (p ∷ ps)) (map at xs) ≡ whole) bound_is (subst (λ xs. are_right accepts n (map row xs) (map at bound) ≡ whole) left_is all))

one_less : {P : Type 0} (n m : ℕ) (left : List P) (p : P) (others : List P) → left ≡ p ∷ others → n + length left ≡ m → n + 1 + length others ≡ m
one_less n m left p others is all = omega (arith, ap length is, all)

pub loop-parameter-preserved : goal.loop-parameter-preserved
loop-parameter-preserved c = record {
  rest = kept_in (row_of c.args.function).accepts c.loop-parameter.place parameter_row (written_at (values_of (args_view c.args.args.now)))
      c.loop-parameter.left.now c.in-Some.parameter.now c.in-Some.others.now c.loop-parameter.bound.now c.in-Some-split_first.argument.now c.in-Some-split_first.rest.now
      (are_right (row_of c.args.function).accepts 0 (row_of c.args.function).parameters (map (written_at (values_of (args_view c.args.args.now))) c.args.places.now))
      c.in-Some.ensures.cases.0 c.in-Some-split_first.ensures.cases.0 (sym c.is_written_right.ensures ∙ c.if-not-is_written_right.false) c.loop-parameter.invariant.rest;
  within = one_less c.loop-parameter.place (length c.parameters-left.result.now) c.loop-parameter.left.now c.in-Some.parameter.now c.in-Some.others.now c.in-Some.ensures.cases.0 c.loop-parameter.invariant.within;
}
