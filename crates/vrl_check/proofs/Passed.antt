-- What isn't judged is passed by: it has its empty values and its closures, and nothing else.
use Rattle.std.proofs.Common.{◌≡◌, ℕ, zero, suc, true, List, ◌∷◌, ◌++◌, Option, None, refl, sym, ap, ◌∙◌, subst, append-nil}
use Rattle.std.proofs.lemmas.List.{length-replicate, map-append}
use Rattle.std.specs.List.{list_all}
use Rattle.vrl_kind.specs.Canonical.{never_kind}
use Rattle.vrl_state.specs.States.{State}
use Rattle.vrl_judge.specs.Judging.{branches_known, known_on, loops_known, no_ends, AreEnds, HasJudged}
use Rattle.vrl_judge.specs.Returns.{return_kind, return_state}
use Rattle.vrl_judge.specs.declared.checker.Checker.{Checker}
use Rattle.vrl_judge.specs.declared.finding.Finding.{Finding}
use Rattle.vrl_judge.proofs.Joining.{no_ends_are}
use Rattle.vrl_judge.proofs.RootKinds.{never_root}
use Rattle.vrl_check.specs.Judgement.{AreUnjudged, unreached_parts}
use Rattle.vrl_check.specs.Loops.{unjudged}
use Rattle.vrl_check.specs.OpenRules.{language_rules}
use Rattle.vrl_check.specs.Walking.{nulls, passed_states}

-- null is the empty value that the language gives to what isn't judged
all_null : (sources : List (List ℕ)) (n : ℕ) → list_all (language_rules sources).unjudged (nulls n) ≡ true
all_null sources zero = refl
all_null sources (suc n) = all_null sources n

pub nulls_allowed : (sources : List (List ℕ)) (n : ℕ) → AreUnjudged (language_rules sources) n (nulls n)
nulls_allowed sources n = record { counted = length-replicate n _; allowed = all_null sources n }

-- nothing is known of closures that are passed by
none_known : (n : ℕ) → branches_known (passed_states n) ≡ loops_known (unjudged n)
none_known zero = refl
none_known (suc n) = ap (λ xs. None ∷ xs) (none_known n)

-- they stand behind those before them
pub loops_passed : (before after : List (Option State)) (n : ℕ) → after ≡ before ++ passed_states n → branches_known after ≡ branches_known before ++ loops_known (unjudged n)
loops_passed before after n is = ap branches_known is ∙ map-append known_on before (passed_states n) ∙ ap (λ xs. branches_known before ++ xs) (none_known n)

pub part_passed : (m n : ℕ) (before after : Checker) (finding : Finding) → after.state ≡ before.state → after.diagnostics ≡ before.diagnostics → after.patterns ≡ before.patterns → after.inside ≡ before.inside
    → after.empties.items ≡ before.empties.items ++ nulls m → after.loops.items ≡ before.loops.items ++ passed_states n → finding.kind ≡ never_kind → finding.ends ≡ no_ends
    → HasJudged before after finding (record (unreached_parts (nulls m) n) { ok = before.state.known })
part_passed m n before after finding state diagnostics patterns inside empties loops kind ends = record {
  kind = kind;
  root = never_root;
  ends = record {
    are = subst (AreEnds before.state.scopes) (sym ends) (no_ends_are before.state.scopes);
    fail = ap (λ y. known_on y.fail) ends;
    ret = ap (λ y. return_state y.ret) ends;
    returned = ap (λ y. return_kind y.ret) ends;
    poisoned = ap (λ y. y.poisoned) ends;
  };
  gathered = record {
    ok = ap (λ s. s.known) state;
    scopes = ap (λ s. s.scopes) state;
    diagnostics = ap (λ v. v.items) diagnostics ∙ sym (append-nil before.diagnostics.items);
    empties = empties;
    loops = loops_passed before.loops.items after.loops.items n loops;
    patterns = patterns;
    inside = inside;
  };
}
