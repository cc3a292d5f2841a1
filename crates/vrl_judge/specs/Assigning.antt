-- What an error assignment makes of its expression, of what is known behind that, and of the place
-- that is kept for its empty value.
use Rattle.std.specs.Prelude.{◌≡◌, ◌||◌, ◌++◌, ℕ, [], None, slice_set}
use Rattle.std.specs.List.{list_any}
use Rattle.vrl_diag.specs.declared.diagnostic.Span.{Span}
use Rattle.vrl_syntax.specs.declared.root.Target.{Target}
use Rattle.vrl_kind.specs.KindTree.{KindTree}
use Rattle.vrl_kind.specs.Kinds.{found_at}
use Rattle.vrl_state.specs.States.{IsCutOf, IsEither}
use Rattle.vrl_syntax.specs.ErrorAssignments.{empty_value}
use Rattle.vrl_diag.specs.Refusal.{is_error}
use Rattle.vrl_judge.specs.Rules.{empty_tag, of_error_assignment}
use Rattle.vrl_judge.specs.Judging.{known_on, AreBothWritten}
use Rattle.vrl_judge.specs.Seen.{seen}
use Rattle.vrl_judge.specs.declared.checker.Checker.{Checker}
use Rattle.vrl_judge.specs.declared.finding.Finding.{Finding}

-- the tag of the empty value is put at its place, codes are told, and both targets written; no
-- error is left
pub record AreAssigned (span : Span) (ok err : Target) (place : ℕ) (part : Finding) (before after : Checker)
    (finding : Finding) : Type 0 where
  pub E : KindTree
  pub empty : IsCutOf (found_at (empty_value (empty_tag part.kind))) E
  pub kind : IsEither part.kind E finding.kind
  pub written : AreBothWritten ok err part.kind E before.state.known (known_on part.ends.fail) after.state.known
  pub scopes : after.state.scopes ≡ before.state.scopes
  pub diagnostics : after.diagnostics.items ≡ before.diagnostics.items ++ of_error_assignment span ok err
      (seen part before [] [] []) finding.kind
  pub loops : after.loops ≡ before.loops
  pub patterns : after.patterns ≡ before.patterns
  pub inside : after.inside ≡ before.inside
  pub empties : after.empties.items ≡ slice_set before.empties.items place (empty_tag part.kind)
  pub ends : finding.ends ≡ record part.ends {
    fail = None;
    poisoned = part.ends.poisoned || list_any is_error
        (of_error_assignment span ok err (seen part before [] [] []) finding.kind);
  }
