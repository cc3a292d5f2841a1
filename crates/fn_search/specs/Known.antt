-- The known fields of the kind of a match, as they are gathered.
use Rattle.std.specs.Prelude.{◌≡◌, ℕ, List, [], ◌∷◌, ◌++◌, Option, Some, None}
use Rattle.vrl_kind.specs.KindTree.{KindTree}
use Rattle.vrl_kind.specs.Kinds.{tags_at}
use Rattle.vrl_kind.specs.Sets.{SameSets}
use Rattle.fn_search.specs.Fields.{text_or_null_kind}

-- a text or null
abbrev pub IsTextOrNull : KindTree → Type 0
IsTextOrNull K = SameSets (tags_at K) text_or_null_kind

-- with a field of the name behind the others, or as before where it is empty
abbrev pub IsOneMore : List ℕ → List (List ℕ × KindTree) → List (List ℕ × KindTree) → Type 0
IsOneMore [] before after = after ≡ before
IsOneMore (b ∷ name) before after = (K : KindTree) × IsTextOrNull K × (after ≡ before ++ ((b ∷ name, K) ∷ []))

-- one for each name that isn't empty
abbrev pub AreKnown : List (List ℕ) → List (List ℕ × KindTree) → Type 0
AreKnown [] known = known ≡ []
AreKnown ([] ∷ names) known = AreKnown names known
AreKnown ((b ∷ name) ∷ names) [] = ⊥
AreKnown ((b ∷ name) ∷ names) (e ∷ known) = (e.0 ≡ b ∷ name) × IsTextOrNull e.1 × AreKnown names known

-- the first thing alone, where there is one
abbrev pub listed : {A : Type 0} → Option A → List A
listed None = []
listed (Some a) = a ∷ []
