-- Which regexes are malformed, by the grammar of the crate `regex` with its own options.
use Rattle.std.specs.Prelude.{◌≡◌, ◌≢◌, ℕ, suc, Bool, true, List, [], ◌∷◌, Option, Some, None, nat_lt, chars, codes, if◌then◌else◌}
use Rattle.regex_hir.specs.Re.{Re}
use Rattle.regex_syntax.specs.Brackets.{Nested}
use Rattle.regex_syntax.specs.Grammar.{Names, read}
use Rattle.regex_syntax.specs.Verdict.{default_config}
use Rattle.vrl_pattern.specs.declared.fault.BuildFault.{BuildFault}
use Rattle.vrl_pattern.specs.declared.fault.BuildFault.TheVariants.{Malformed, Memory}

-- nothing is read, or what nests deeper than the crate allows
abbrev pub is_no_pattern : Option (Nested Re × Names) → Bool
is_no_pattern None = true
is_no_pattern (Some found) = nat_lt default_config.nest_limit found.0.depth

unfoldable pub is_malformed : List ℕ → Bool
is_malformed source = is_no_pattern (read default_config (chars source))

-- the numbers of the malformed sources, where the first source has the number n
abbrev pub malformed_from : ℕ → List (List ℕ) → List ℕ
malformed_from n [] = []
malformed_from n (s ∷ ss) = if is_malformed s then n ∷ malformed_from (suc n) ss else malformed_from (suc n) ss

-- what a fault says of the sources
abbrev pub IsFaultOf : List (List ℕ) → BuildFault → Type 0
IsFaultOf sources (Malformed numbers) = (numbers ≡ malformed_from 0 sources) × (numbers ≢ [])
IsFaultOf sources Memory = Unit {0}

abbrev pub fault_text : BuildFault → List ℕ
fault_text (Malformed numbers) = codes "malformed regex literal"
fault_text Memory = codes "out of memory"
