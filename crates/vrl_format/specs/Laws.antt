-- Laws of layouts.
use Rattle.std.specs.Prelude.{◌≡◌, ℕ, List}
use Rattle.vrl_format.specs.Formatting.{IsAnswer, IsLaidOut, MeansTheSame}
use Rattle.vrl_format.specs.declared.formatting.Formatted.{Formatted}

-- a text has one answer
abbrev pub AnswersAreDetermined : Type 0
AnswersAreDetermined = (text : List ℕ) (a b : Formatted) → IsAnswer text a → IsAnswer text b → a ≡ b

-- a layout is the same script with the same comments
abbrev pub LayoutsMeanTheSame : Type 0
LayoutsMeanTheSame = (text laid : List ℕ) → IsLaidOut text laid → MeansTheSame text laid

-- and it is its own layout
abbrev pub LayoutsStay : Type 0
LayoutsStay = (text laid : List ℕ) → IsLaidOut text laid → IsLaidOut laid laid
