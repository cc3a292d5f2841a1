-- A run over made lines, one after the other.
use Rattle.std.proofs.Common.{◌≡◌, ◌<◌, ◌≤◌, ◌^◌, ◌==◌, ℕ, Bool, true, List, [], ◌∷◌, ◌++◌, length, map, refl, sym, ap, ◌∙◌, subst, append_assoc, arith}
use Rattle.std.proofs.lemmas.Bool.Decides.{nat_tests}
use Rattle.std.proofs.lemmas.List.{append-nil}
use Rattle.vrl_batch.specs.declared.line.Line.{Line}
use Rattle.vrl_batch.specs.declared.work.LineOut.{LineOut}
use Rattle.vrl_generate.specs.Summary.{IsSummaryOf}
use Rattle.vrl_generate.specs.declared.summary.Summary.{Summary}
use Rattle.vrl_run.specs.Answer.{result_of}
use Rattle.vrl_run.specs.Request.{ScriptRun}

-- the results of the lines that are done are summed, and these are left
pub record IsMadeTo (run : ScriptRun) (all left : List Line) (summary : Summary) : Type 0 where
  pub done : List Line
  pub divides : all ≡ done ++ left
  pub summed : IsSummaryOf (map (result_of run) done) summary

pub is_made_to-start : (run : ScriptRun) (all left : List Line) (summary : Summary) → left ≡ all → IsSummaryOf [] summary → IsMadeTo run all left summary
is_made_to-start run all left summary is none = record { done = []; divides = sym is; summed = none }

map-append : {A B : Type 0} (f : A → B) (xs ys : List A) → map f (xs ++ ys) ≡ map f xs ++ map f ys
map-append f [] ys = refl
map-append f (x ∷ xs) ys = ap (λ zs. f x ∷ zs) (map-append f xs ys)

-- a batch more
pub is_made_to-batch : (run : ScriptRun) (all batch left left_after : List Line) (made results : List LineOut) (summary summary_after : Summary) → IsMadeTo run all (batch ++ left) summary → made ≡ map (result_of run) batch → results ≡ made
    → ((outs : List LineOut) → IsSummaryOf outs summary → IsSummaryOf (outs ++ results) summary_after) → left ≡ left_after → IsMadeTo run all left_after summary_after
is_made_to-batch run all batch left left_after made results summary summary_after to is same adds next = record {
  done = to.done ++ batch;
  divides = to.divides ∙ sym (append_assoc to.done batch left) ∙ ap (λ x. (to.done ++ batch) ++ x) next;
  summed = subst (λ outs. IsSummaryOf outs summary_after) (ap (λ m. map (result_of run) to.done ++ m) (same ∙ is) ∙ sym (map-append (result_of run) to.done batch)) (adds (map (result_of run) to.done) to.summed);
}

-- all are done
pub all_made : (run : ScriptRun) (all left : List Line) (summary : Summary) → IsMadeTo run all left summary → left ≡ [] → IsSummaryOf (map (result_of run) all) summary
all_made run all left summary to none = subst (λ lines. IsSummaryOf (map (result_of run) lines) summary) (sym (to.divides ∙ ap (λ x. to.done ++ x) none ∙ append-nil to.done)) to.summed

length-map : {A B : Type 0} (f : A → B) (xs : List A) → length (map f xs) ≡ length xs
length-map f [] = refl
length-map f (x ∷ xs) = grind (arith, length-map f xs)

-- and they are few enough to be counted
pub few_enough : (run : ScriptRun) (all : List Line) (count : ℕ) → length all ≡ count → count ≤ 1000000 → length (map (result_of run) all) < 2 ^ 64
few_enough run all count is few = let same = length-map (result_of run) all in omega (arith, same, is, few)

no_length : {A : Type 0} (xs : List A) → length xs ≡ 0 → xs ≡ []
no_length [] none = refl
no_length (x ∷ xs) none = absurd (omega (arith, none))

pub nothing_left : {A : Type 0} (xs : List A) (empty : Bool) → empty ≡ (length xs == 0) → empty ≡ true → xs ≡ []
nothing_left xs empty is holds =
    let none : length xs ≡ 0 = grind (arith, nat_tests) in
    no_length xs none

-- some of these results were added to a summary, and these are left
pub record IsAddedTo (outs results left : List LineOut) (summary : Summary) : Type 0 where
  pub done : List LineOut
  pub summed : IsSummaryOf done summary
  pub divides : done ++ left ≡ outs ++ results

pub is_added_to-next : (outs results left : List LineOut) (made : LineOut) (summary summary_after : Summary) → IsAddedTo outs results (made ∷ left) summary → ((outs : List LineOut) → IsSummaryOf outs summary → IsSummaryOf (outs ++ made ∷ []) summary_after) → IsAddedTo outs results left summary_after
is_added_to-next outs results left made summary summary_after to adds = record {
  done = to.done ++ made ∷ [];
  summed = adds to.done to.summed;
  divides = append_assoc to.done (made ∷ []) left ∙ to.divides;
}

pub all_added : (outs results : List LineOut) (summary : Summary) → IsAddedTo outs results [] summary → IsSummaryOf (outs ++ results) summary
all_added outs results summary to = subst (λ xs. IsSummaryOf xs summary) (sym (append-nil to.done) ∙ to.divides) to.summed
