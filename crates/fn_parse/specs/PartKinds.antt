-- The kinds of the parts of a URL, as the code gathers them.
use Rattle.std.specs.Prelude.{◌≡◌, ℕ, List, [], ◌∷◌, ⊤}
use Rattle.vrl_kind.specs.KindTree.{KnownFields, no_fields, known_field}
use Rattle.vrl_kind.specs.Kinds.{tags_at}
use Rattle.vrl_kind.specs.Sets.{Sets, SameSets}
use Rattle.vrl_builtin.specs.Containers.{object_of}
use Rattle.fn_parse.specs.Url.{numbers_or_null, texts, texts_or_null}
use Rattle.fn_parse.specs.declared.url_kind.Part.{Part}
use Rattle.fn_parse.specs.declared.url_kind.Part.TheVariants as part

abbrev pub sets_of : Part → Sets
sets_of part.Text = texts
sets_of part.TextOrNull = texts_or_null
sets_of part.NumberOrNull = numbers_or_null
sets_of part.Texts = object_of texts

-- the fields have these names and sets, one by one
abbrev pub AreNamed : KnownFields → List (List ℕ × Sets) → Type 0
AreNamed no_fields [] = ⊤
AreNamed no_fields (e ∷ es) = ⊥
AreNamed (known_field n K fs) [] = ⊥
AreNamed (known_field n K fs) (e ∷ es) = (n ≡ e.0) × SameSets (tags_at K) e.1 × AreNamed fs es
