-- What one result more adds to a summary.
use Rattle.std.proofs.Common.{◌≡◌, ℕ, ◌+◌, ◌-◌, ◌*◌, ◌^◌, ◌<◌, ◌≤◌, ◌||◌, min, cond, Bool, true, false, nat_lt, List, [], ◌∷◌, ◌++◌, length, refl, sym, ap, ◌∙◌, subst, arith, length-append, zero-add, add-zero}
use Rattle.std.proofs.Math.Nat.{min-eq_left}
use Rattle.std.proofs.lemmas.List.{append-nil}
use Rattle.std.proofs.lemmas.Bool.Decides.{nat_tests}
use Rattle.std.specs.List.{count_by, list_any}
use Rattle.std.proofs.lemmas.List.Sums.{sum_by_push, sum_by-cons, count_by-le-length}
use Rattle.std.proofs.lemmas.Grind.{flat_map-append}
use Rattle.sha2.specs.Hashers.{Holds256}
use Rattle.vrl_batch.specs.declared.work.LineOut.{LineOut}
use Rattle.vrl_batch.specs.declared.work.Outcome.{Outcome}
use Rattle.vrl_batch.specs.declared.work.Outcome.TheVariants.{Fine, Errored, Aborted, Refused}
use Rattle.vrl_generate.specs.declared.summary.Summary.{Summary}
use Rattle.vrl_generate.specs.Summary.{is_errored, is_aborted, is_refused, count_of, events_kept, would_write, Counts, CountsOutcome, IsSummaryOf}

-- some pass a test where more than none do
pub any_counted : {X : Type 0} (p : X → Bool) (xs : List X) → list_any p xs ≡ nat_lt 0 (count_by p xs)
any_counted p [] = refl
any_counted p (x ∷ xs) =
    rw (sum_by-cons (λ y. cond (p y) 1 0) x xs) (elim (p x) as (λ b. (b || list_any p xs) ≡ nat_lt 0 (cond b 1 0 + count_by p xs)) [
      | true ↦ grind (arith, nat_tests)
      | false ↦ rw zero-add (any_counted p xs)
    ])

-- a count after a result: one more, but not past its type's end, or the same
abbrev RisesIf : Bool → (before after : ℕ) → Type 0
RisesIf true before after = after ≡ min (before + 1) (2 ^ 64 - 1)
RisesIf false before after = after ≡ before

-- it doesn't reach its type's end
counted : (before count after : ℕ) (more : Bool) → before ≤ count → count + 1 < 2 ^ 64 → RisesIf more before after → after ≡ before + cond more 1 0
counted before count after true within room is = is ∙ min-eq_left (omega arith)
counted before count after false within room is = is ∙ sym (add-zero before)

-- a sum over results, each below 2^64, doesn't reach its type's end
pub record IsSum (before more count after : ℕ) : Type 0 where
  pub sum : after ≡ before + more
  pub within : after ≤ (count + 1) * 2 ^ 64

summed : (before more count after : ℕ) → before ≤ count * 2 ^ 64 → more < 2 ^ 64 → count + 1 < 2 ^ 64 → after ≡ min (before + more) (2 ^ 128 - 1) → IsSum before more count after
summed before more count after within fits room is =
    let sum : after ≡ before + more = is ∙ min-eq_left (omega arith) in
    record { sum = sum; within = omega arith }

-- one result more is counted by its outcome, and nothing else changes
record RiseBy (outcome : Outcome) (old new : Summary) : Type 0 where
  lines : new.lines ≡ old.lines
  written : new.written ≡ old.written
  errors : RisesIf (is_errored outcome) old.errors new.errors
  aborted : RisesIf (is_aborted outcome) old.aborted new.aborted
  refused : RisesIf (is_refused outcome) old.refused new.refused
  bytes : new.bytes ≡ old.bytes
  hasher : new.hasher ≡ old.hasher

rise_by : (outcome : Outcome) (old new : Summary) → CountsOutcome outcome old new → RiseBy outcome old new
rise_by Fine old new is = record { lines = cc; written = cc; errors = cc; aborted = cc; refused = cc; bytes = cc; hasher = cc }
rise_by Errored old new is = rw is (record { lines = refl; written = refl; errors = refl; aborted = refl; refused = refl; bytes = refl; hasher = refl })
rise_by Aborted old new is = rw is (record { lines = refl; written = refl; errors = refl; aborted = refl; refused = refl; bytes = refl; hasher = refl })
rise_by Refused old new is = rw is (record { lines = refl; written = refl; errors = refl; aborted = refl; refused = refl; bytes = refl; hasher = refl })

would_write-more : (outs : List LineOut) (made : LineOut) → would_write (outs ++ made ∷ []) ≡ would_write outs ++ made.output
would_write-more outs made = flat_map-append (λ out. out.output) outs (made ∷ []) ∙ ap (λ more. would_write outs ++ more) (append-nil made.output)

count_of-more : (test : Outcome → Bool) (outs : List LineOut) (made : LineOut) (before after : ℕ) → length outs + 1 < 2 ^ 64 → before ≡ count_of test outs → RisesIf (test made.outcome) before after → after ≡ count_of test (outs ++ made ∷ [])
count_of-more test outs made before after room is one =
    let within = count_by-le-length (λ out. test out.outcome) outs in
    counted before (length outs) after (test made.outcome) (rw is within) room one
    ∙ ap (λ n. n + cond (test made.outcome) 1 0) is
    ∙ sym (sum_by_push (λ out. cond (test out.outcome) 1 0) outs made)

-- what the rest of a result adds
pub record AddsOne (made : LineOut) (old new : Summary) : Type 0 where
  pub lines : new.lines ≡ min (old.lines + 1) (2 ^ 64 - 1)
  pub written : new.written ≡ min (old.written + made.kept) (2 ^ 128 - 1)
  pub errors : new.errors ≡ old.errors
  pub aborted : new.aborted ≡ old.aborted
  pub refused : new.refused ≡ old.refused
  pub bytes : new.bytes ≡ min (old.bytes + length made.output) (2 ^ 128 - 1)
  pub message : (m : List ℕ) → Holds256 old.hasher m → Holds256 new.hasher (m ++ made.output)
  pub kept_fits : made.kept < 2 ^ 64
  pub output_fits : length made.output < 2 ^ 64

-- a result was counted by its outcome, and then the rest of it
pub one_more : (outs : List LineOut) (made : LineOut) (old middle new : Summary) → CountsOutcome made.outcome old middle → AddsOne made middle new → IsSummaryOf outs old → IsSummaryOf (outs ++ made ∷ []) new
unfolding IsSummaryOf
one_more outs made old middle new by_outcome one is within =
    let longer : length (outs ++ made ∷ []) ≡ length outs + 1 = length-append outs (made ∷ []) in
    let room : length outs + 1 < 2 ^ 64 = omega arith in
    let counts : Counts outs old = is (omega arith) in
    let rise : RiseBy made.outcome old middle = rise_by made.outcome old middle by_outcome in
    let lines : middle.lines ≡ length outs = rise.lines ∙ counts.lines in
    let written_before : middle.written ≡ events_kept outs = rise.written ∙ counts.written in
    let bytes_before : middle.bytes ≡ length (would_write outs) = rise.bytes ∙ counts.bytes in
    let written = summed middle.written made.kept (length outs) new.written (rw rise.written counts.written_within) one.kept_fits room one.written in
    let bytes = summed middle.bytes (length made.output) (length outs) new.bytes (rw rise.bytes counts.bytes_within) one.output_fits room one.bytes in
    let writes = would_write-more outs made in
    let held : Holds256 middle.hasher (would_write outs) = rw rise.hasher counts.message in
    record {
      lines = rw longer (one.lines ∙ ap (λ n. min (n + 1) (2 ^ 64 - 1)) lines ∙ min-eq_left (omega arith));
      written = written.sum ∙ ap (λ n. n + made.kept) written_before ∙ sym (sum_by_push (λ out. out.kept) outs made);
      errors = one.errors ∙ count_of-more is_errored outs made old.errors middle.errors room counts.errors rise.errors;
      aborted = one.aborted ∙ count_of-more is_aborted outs made old.aborted middle.aborted room counts.aborted rise.aborted;
      refused = one.refused ∙ count_of-more is_refused outs made old.refused middle.refused room counts.refused rise.refused;
      bytes = bytes.sum ∙ ap (λ n. n + length made.output) bytes_before ∙ sym (length-append (would_write outs) made.output) ∙ ap length (sym writes);
      message = subst (λ m. Holds256 new.hasher m) (sym writes) (one.message (would_write outs) held);
      written_within = rw longer written.within;
      bytes_within = rw longer bytes.within;
    }
