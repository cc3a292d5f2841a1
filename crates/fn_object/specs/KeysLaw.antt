-- `keys` keeps the law.
use Rattle.std.specs.Prelude.{false, refl}
use Rattle.vrl_value.specs.Tree.{string}
use Rattle.vrl_value.specs.declared.value.Tag.TheVariants as tag
use Rattle.vrl_kind.specs.Kinds.{only_at}
use Rattle.vrl_builtin.specs.Law.{KeepsLaw}
use Rattle.vrl_builtin.specs.Rows.{value_at}
use Rattle.vrl_builtin.proofs.Containers.{array_is_lawful, plain_part, IsLawfulPart}
use Rattle.fn_object.specs.Keys.{keys_row}
use Rattle.vrl_builtin.specs.Listed.{members_in}
use Rattle.vrl_builtin.proofs.Listed.{each_key}

pub keys-law : KeepsLaw keys_row
keys-law = record {
  present = λ givens sources given below. refl;
  lawful = λ givens arguments setting given fit instances below.
      let ms = members_in (value_at 0 arguments) in let A = only_at tag.Text in
      array_is_lawful A false arguments _
      (each_key (IsLawfulPart A arguments) ms (λ s. plain_part A arguments (string s) tt refl));
}
