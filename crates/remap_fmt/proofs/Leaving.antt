-- What is left in the sinks by an answer that goes to one of them.
use Rattle.std.proofs.Common.{◌≡◌, ℕ, List, [], Option, Some, None, refl, sym, ap, ◌⊎◌, inl, inr, subst}
use Rattle.std.proofs.lemmas.List.{append-nil}
use Rattle.vrl_batch.specs.Sinks.{Appends, AppendsFront}
use Rattle.remap_fmt.specs.Answer.{Answer, laid_out, refusal}
use Rattle.remap_fmt.specs.Call.{LeavesAnswer, Written, sinks}
use Rattle.remap_fmt.specs.Status.{IsAnswer}
use Rattle.remap_fmt.specs.declared.status.FmtStatus.{FmtStatus}
use Rattle.remap_fmt.specs.declared.status.FmtStatus.TheVariants.{Done, WriteFault}

-- nothing is appended to a sink that stays as it is
unchanged : (held : Option (List ℕ)) → Appends held held []
unchanged None = refl
unchanged (Some bytes) = ap Some (sym (append-nil bytes))

no_front : (held : Option (List ℕ)) → AppendsFront held held []
no_front held = ([], [], refl, unchanged held)

-- a status that is an answer's is the one that was to be given
own : (status result : FmtStatus) → IsAnswer result → (result ≡ status) ⊎ (result ≡ WriteFault)
    → result ≡ status
own status result answers (inl is) = is
own status result answers (inr failed) = absurd (subst IsAnswer failed answers)

-- the bytes of a refusal go to the report
reported : (status result : FmtStatus) (bytes : List ℕ)
    (output report report_after : Option (List ℕ))
    → (IsAnswer result → Appends report report_after bytes) → AppendsFront report report_after bytes
    → (result ≡ status) ⊎ (result ≡ WriteFault)
    → LeavesAnswer (λ answer. answer ≡ refusal status bytes) result (sinks output report)
    (sinks output report_after)
reported status result bytes output report report_after whole front either = record {
  whole = λ answers. (
    refusal status bytes,
    refl,
    own status result answers either,
    (unchanged output, whole answers),
  );
  cut = λ failed. (refusal status bytes, refl, (no_front output, front));
}

-- which are these
pub reported_as : (status result : FmtStatus) (given bytes : List ℕ)
    (output report report_after : Option (List ℕ))
    → given ≡ bytes → (IsAnswer result → Appends report report_after given)
    → AppendsFront report report_after given
    → (result ≡ status) ⊎ (result ≡ WriteFault)
    → LeavesAnswer (λ answer. answer ≡ refusal status bytes) result (sinks output report)
    (sinks output report_after)
reported_as status result given bytes output report report_after given_is whole front either =
    subst (λ g. LeavesAnswer (λ answer. answer ≡ refusal status g) result (sinks output report)
    (sinks output report_after))
    given_is (reported status result given output report report_after whole front either)

-- those of a layout to the output
pub written : (result : FmtStatus) (bytes : List ℕ) (output output_after report : Option (List ℕ))
    → (IsAnswer result → Appends output output_after bytes) → AppendsFront output output_after bytes
    → (result ≡ Done) ⊎ (result ≡ WriteFault)
    → LeavesAnswer (λ answer. answer ≡ laid_out bytes) result (sinks output report)
    (sinks output_after report)
written result bytes output output_after report whole front either = record {
  whole = λ answers. (
    laid_out bytes,
    refl,
    own Done result answers either,
    (whole answers, unchanged report),
  );
  cut = λ failed. (laid_out bytes, refl, (front, no_front report));
}

-- where no answer comes, and no sink failed
pub nothing_left : (answers : Answer → Type 0) (result : FmtStatus) (before after : Written)
    → ¬ IsAnswer result
    → ¬ (result ≡ WriteFault) → LeavesAnswer answers result before after
nothing_left answers result before after no_answer no_fault = record {
  whole = λ is. absurd (no_answer is);
  cut = λ failed. absurd (no_fault failed);
}

-- what answers one thing answers another
pub left_as : (P Q : Answer → Type 0) (result : FmtStatus) (before after : Written)
    → ((answer : Answer) → P answer → Q answer) → LeavesAnswer P result before after
    → LeavesAnswer Q result before after
left_as P Q result before after more leaves = record {
  whole = λ answers. let (a, p, is, holds) = leaves.whole answers in (a, more a p, is, holds);
  cut = λ failed. let (a, p, holds) = leaves.cut failed in (a, more a p, holds);
}
