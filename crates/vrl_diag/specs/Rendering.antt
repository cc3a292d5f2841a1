-- How a diagnostic is told.
use Rattle.std.specs.Prelude.{ℕ, ◌+◌, List, [], ◌∷◌, ◌++◌, ◌==◌, ◌&&◌, nat_le, nat_lt, not, Bool, take, count_by, codes, decimal}
use Rattle.std.specs.List.{after_last, flat_map}
use Rattle.vrl_diag.specs.Codes.{title_of}
use Rattle.vrl_diag.specs.Refusal.{severity_of}
use Rattle.vrl_diag.specs.declared.diagnostic.Diagnostic.{Diagnostic}
use Rattle.vrl_diag.specs.declared.diagnostic.Severity.{Severity}
use Rattle.vrl_diag.specs.declared.diagnostic.Severity.TheVariants.{Warning, Error}

-- the byte goes on with a character of several bytes, in UTF-8 (RFC 3629)
abbrev pub is_continuation : ℕ → Bool
is_continuation b = nat_le 128 b && nat_lt b 192

-- the byte begins a character
abbrev pub begins_character : ℕ → Bool
begins_character b = not (is_continuation b)

-- the number, from 1, of the line at the end of this text
abbrev pub line_number : List ℕ → ℕ
line_number text = 1 + count_by (λ b. b == 10) text

-- and the place in that line, in characters from 1
abbrev pub column_number : List ℕ → ℕ
column_number text = 1 + count_by begins_character (after_last (λ b. b == 10) text)

abbrev pub severity_word : Severity → List ℕ
severity_word Warning = codes "warning"
severity_word Error = codes "error"

-- the line that tells a diagnostic of the text, without its newline
abbrev pub diagnostic_line : List ℕ → Diagnostic → List ℕ
diagnostic_line text d = let before = take d.span.start text in
    severity_word (severity_of d.code) ++
    (codes "[E" ++
    (decimal d.code ++
    (codes "] " ++
    (decimal (line_number before) ++
    (codes ":" ++ (decimal (column_number before) ++ (codes " " ++ title_of d.code)))))))

-- the lines that tell the diagnostics
abbrev pub diagnostic_lines : List ℕ → List Diagnostic → List ℕ
diagnostic_lines text ds = flat_map (λ d. diagnostic_line text d ++ 10 ∷ []) ds
