-- `mod`: the remainder of a whole number.
use Rattle.std.specs.Prelude.{ℤ, pos, Bool, true, [], ◌∷◌, Option, Some, codes, int_rem, if◌then◌else◌}
use Rattle.std.specs.Ordering.{int_eq}
use Rattle.vrl_value.specs.Tree.{Tree, integer}
use Rattle.vrl_value.specs.declared.value.Tag.TheVariants.{Int}
use Rattle.vrl_builtin.specs.OneTag.{OneTagRow}
use Rattle.vrl_builtin.specs.Rows.{Answer, value, failure, parameter, integer_at, literal_at}
use Rattle.vrl_builtin.specs.TagSets.{integers}

-- the remainder with the sign of the number, which is 0 for the least number by -1
abbrev pub remainder : ℤ → ℤ → Answer
remainder n modulus =
    if int_eq modulus (pos 0) then failure (codes "modulus is 0") else value (integer (int_rem n modulus))

-- unless the modulus is a literal other than 0
abbrev pub may_be_zero : Option Tree → Bool
may_be_zero (Some (integer n)) = int_eq n (pos 0)
may_be_zero literal = true

abbrev pub mod_row : OneTagRow
mod_row = record {
  name = codes "mod";
  parameters = parameter (codes "value") integers ∷ parameter (codes "modulus") integers ∷ [];
  tag = Int;
  may_fail = λ givens. may_be_zero (literal_at 1 givens);
  means = λ arguments setting. remainder (integer_at 0 (pos 0) arguments) (integer_at 1 (pos 0) arguments);
}
