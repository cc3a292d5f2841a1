-- `strip_whitespace`: a text without the white space at both ends.
use Rattle.std.specs.Prelude.{ℕ, List}
use Rattle.std.specs.Str.{trim}

-- by characters: those that Unicode has as white space are taken from the start up to the first
-- other one, and so from the end
abbrev pub stripped : List ℕ → List ℕ
stripped s = trim s
