-- `values` keeps the law.
use Rattle.std.specs.Prelude.{◌≡◌, false, IfSome, refl}
use Rattle.vrl_value.specs.Tree.{null, IsOrdered}
use Rattle.vrl_builtin.specs.Containers.{array_of}
use Rattle.vrl_builtin.specs.Law.{KeepsLaw, IsLawful, IsOfGiven}
use Rattle.vrl_builtin.specs.Rows.{value, argument_at, kind_at, value_or}
use Rattle.vrl_builtin.proofs.Containers.{array_is_lawful, IsLawfulPart}
use Rattle.vrl_builtin.specs.PartKinds.{object_parts_at}
use Rattle.vrl_builtin.specs.Listed.{members_in}
use Rattle.fn_object.specs.Values.{values_of, values_row}
use Rattle.vrl_builtin.proofs.PartKinds.{given_members}
use Rattle.vrl_builtin.proofs.Listed.{each_value}
use Rattle.vrl_builtin.proofs.GivenTags.{objects_only}

pub values-law : KeepsLaw values_row
values-law = record {
  present = λ givens sources given below. refl;
  lawful = λ givens arguments setting given fit instances below.
      let K = kind_at 0 givens in let A = object_parts_at K in
      objects_only (λ a. argument_at 0 arguments ≡ a → IsOfGiven K a → IfSome a IsOrdered
      → IsLawful (array_of A) false arguments (value (values_of (members_in (value_or null a)))))
      (argument_at 0 arguments) fit.0.there fit.0.allowed
      (λ ms is of ordered. array_is_lawful A false arguments _
      (each_value (IsLawfulPart A arguments) ms (given_members K 0 ms arguments is of ordered)))
      refl (instances.kinds 0) (instances.ordered 0);
}
