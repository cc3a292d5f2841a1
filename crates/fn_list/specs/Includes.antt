-- `includes`: whether a value is among the items of an array.
use Rattle.std.specs.Prelude.{false, [], ◌∷◌, codes, Bool, refl}
use Rattle.std.specs.List.{list_any}
use Rattle.vrl_value.specs.Tree.{Tree, boolean}
use Rattle.vrl_value.specs.declared.value.Tag.TheVariants as tag
use Rattle.vrl_builtin.specs.OneTag.{KeepsOneTag, OneTagRow}
use Rattle.vrl_builtin.specs.Rows.{value, parameter, value_at}
use Rattle.vrl_builtin.specs.TagSets.{any_tags, arrays}
use Rattle.vrl_builtin.specs.Listed.{list_in}
use Rattle.fn_list.specs.Same.{same}

abbrev pub includes : Tree → Tree → Bool
includes v w = list_any (λ u. same u w) (list_in v)

abbrev pub includes_row : OneTagRow
includes_row = record {
  name = codes "includes";
  parameters = parameter (codes "value") arrays ∷ parameter (codes "item") any_tags ∷ [];
  tag = tag.Bool;
  may_fail = λ givens. false;
  means = λ arguments setting. value (boolean (includes (value_at 0 arguments) (value_at 1 arguments)));
}

pub includes-law : KeepsOneTag includes_row
includes-law = record { present = refl; lawful = λ givens arguments setting fit instances. (tt, refl) }
