-- `match_any` keeps the law: a part that is no regex is allowed by the kind that was given.
use Rattle.std.specs.Prelude.{[], refl}
use Rattle.vrl_value.specs.Tree.{boolean}
use Rattle.vrl_value.specs.declared.value.Tag.TheVariants as tag
use Rattle.vrl_builtin.specs.OneTag.{KeepsOneTag}
use Rattle.vrl_builtin.specs.Rows.{text_at}
use Rattle.vrl_builtin.specs.TagSets.{regexes}
use Rattle.vrl_builtin.proofs.OtherParts.{made_of_parts}
use Rattle.fn_search.specs.MatchAny.{match_any_row, some_matches}

pub match_any-law : KeepsOneTag match_any_row
match_any-law = record {
  present = refl;
  lawful = λ givens arguments setting fit instances.
      made_of_parts tag.Bool regexes 1
      (λ ts. boolean (some_matches setting.sources (text_at 0 [] arguments) ts)) givens arguments
      (λ ts. (tt, refl)) fit.1.0.there fit.1.0.allowed instances;
}
