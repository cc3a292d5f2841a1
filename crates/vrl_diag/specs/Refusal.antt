-- Which diagnostics refuse a script.
use Rattle.std.specs.Prelude.{ℕ, Bool, not, ◌==◌, if◌then◌else◌}
use Rattle.vrl_diag.specs.declared.diagnostic.Diagnostic.{Diagnostic}
use Rattle.vrl_diag.specs.declared.diagnostic.Severity.{Severity}
use Rattle.vrl_diag.specs.declared.diagnostic.Severity.TheVariants.{Warning, Error}

-- each number but 651, which is a warning
abbrev pub refuses : ℕ → Bool
refuses code = not (code == 651)

abbrev pub severity_of : ℕ → Severity
severity_of code = if refuses code then Error else Warning

abbrev pub is_error : Diagnostic → Bool
is_error d = refuses d.code
