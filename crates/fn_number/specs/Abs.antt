-- `abs`: a whole number without its sign.
use Rattle.std.specs.Prelude.{ℤ, pos, false, [], ◌∷◌, codes, unsigned_abs}
use Rattle.std.specs.Int.{cast_signed, w64}
use Rattle.vrl_value.specs.Tree.{integer}
use Rattle.vrl_value.specs.declared.value.Tag.TheVariants.{Int}
use Rattle.vrl_builtin.specs.OneTag.{OneTagRow}
use Rattle.vrl_builtin.specs.Rows.{value, parameter, integer_at}
use Rattle.vrl_builtin.specs.TagSets.{integers}

-- in 64 bits, so that the least number stays as it is
abbrev pub without_sign : ℤ → ℤ
without_sign n = cast_signed w64 (unsigned_abs n)

abbrev pub abs_row : OneTagRow
abs_row = record {
  name = codes "abs";
  parameters = parameter (codes "value") integers ∷ [];
  tag = Int;
  may_fail = λ givens. false;
  means = λ arguments setting. value (integer (without_sign (integer_at 0 (pos 0) arguments)));
}
