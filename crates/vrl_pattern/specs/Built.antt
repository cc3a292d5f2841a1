-- What the crate `regex` built of a source.
use Rattle.std.specs.Prelude.{◌≡◌, ℕ, List, [], ◌∷◌, ⊤}
use Rattle.regex.specs.Strings.{regex_config, regex_source, IsReadFromSource}
use Rattle.regex.specs.declared.string.regex.Regex.{Regex}
use Rattle.regex_syntax.specs.Verdict.{default_config}

-- it is what the grammar reads in this source, under the crate's own options
pub record IsBuiltOf (source : List ℕ) (regex : Regex) : Type 0 where
  pub source_is : regex_source regex ≡ source
  pub config_is : regex_config regex ≡ default_config
  pub read : IsReadFromSource regex

-- one for each source, in order
abbrev pub AreBuilt : List (List ℕ) → List Regex → Type 0
AreBuilt [] [] = ⊤
AreBuilt [] (r ∷ rs) = ⊥
AreBuilt (s ∷ ss) [] = ⊥
AreBuilt (s ∷ ss) (r ∷ rs) = IsBuiltOf s r × AreBuilt ss rs
