-- `join` keeps the law: a part that is no text is allowed by the kind that was given.
use Rattle.std.specs.Prelude.{[], refl}
use Rattle.vrl_value.specs.Tree.{string}
use Rattle.vrl_value.specs.declared.value.Tag.TheVariants as tag
use Rattle.vrl_builtin.specs.OneTag.{KeepsOneTag}
use Rattle.vrl_builtin.specs.Rows.{text_at}
use Rattle.vrl_builtin.specs.TagSets.{strings}
use Rattle.vrl_builtin.proofs.OtherParts.{made_of_parts}
use Rattle.fn_string.specs.Join.{join_row, joined}

pub join-law : KeepsOneTag join_row
join-law = record {
  present = refl;
  lawful = λ givens arguments setting fit instances. made_of_parts tag.Text strings 0
      (λ ts. string (joined (text_at 1 [] arguments) ts)) givens arguments
      (λ ts. (tt, refl)) fit.0.there fit.0.allowed instances;
}
