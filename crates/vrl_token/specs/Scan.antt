-- Words of the code for cutting a text into runs of characters; the classes are those of `Lexical`.
use Rattle.std.specs.Prelude.{ℕ, ◌≤◌, List, [], ◌∷◌}
use Rattle.vrl_token.specs.Lexical.{IsBlank, IsDigit, IsFieldPart, IsNamePart, IsNameStart}
use Rattle.vrl_token.specs.declared.scan.Class.{Class}
use Rattle.vrl_token.specs.declared.scan.Class.TheVariants.{Blank, Digit, NameStart, NamePart, FieldPart}

-- the byte is one of the class
abbrev pub IsIn : Class → ℕ → Type 0
IsIn Blank = IsBlank
IsIn Digit = IsDigit
IsIn NameStart = IsNameStart
IsIn NamePart = IsNamePart
IsIn FieldPart = IsFieldPart

-- the text is empty, or begins with a character of several bytes
abbrev pub HasNoByte : List ℕ → Type 0
HasNoByte [] = Unit {0}
HasNoByte (b ∷ bs) = 128 ≤ b
