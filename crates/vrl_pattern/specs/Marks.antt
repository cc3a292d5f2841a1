-- Words of the code that looks for the groups of a regex.
use Rattle.std.specs.Prelude.{◌≡◌, ◌⊎◌, ℕ, ◌==◌, List, [], ◌∷◌, if◌then◌else◌}

-- `\`, `[`, `]` or `(`
abbrev pub IsMark : ℕ → Type 0
IsMark c = (c ≡ 0x5C) ⊎ (c ≡ 0x5B) ⊎ (c ≡ 0x5D) ⊎ (c ≡ 0x28)

-- the text without the mark, where it begins with it
abbrev pub without : ℕ → List ℕ → List ℕ
without mark [] = []
without mark (c ∷ s) = if c == mark then s else c ∷ s
