-- The order in which diagnostics are told: by start, end and code.
use Rattle.std.specs.Prelude.{List}
use Rattle.std.specs.List.Sorted.{IsPermutation, IsSorted}
use Rattle.std.specs.Ordering.{nat_cmp, then_cmp, on}
use Rattle.std.specs.declared.cmp.Ordering.{Ordering}
use Rattle.vrl_diag.specs.declared.diagnostic.Diagnostic.{Diagnostic}

abbrev pub diagnostic_cmp : Diagnostic → Diagnostic → Ordering
diagnostic_cmp =
    then_cmp (on (λ d. d.span.start) nat_cmp) (then_cmp (on (λ d. d.span.end) nat_cmp) (on (λ d. d.code) nat_cmp))

-- these codes in their order
pub record AreOrdered (codes diagnostics : List Diagnostic) : Type 0 where
  pub same : IsPermutation codes diagnostics
  pub sorted : IsSorted diagnostic_cmp diagnostics
