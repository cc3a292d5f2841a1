-- How the parts of an answer make the whole of it.
use Rattle.std.proofs.Common.{◌≡◌, ◌≤◌, ◌+◌, ℕ, ℤ, pos, Bool, true, false, List, [], ◌++◌, Option, Some, None, IfSome, option_map, unwrap_or, ◌⊎◌, inl, inr, refl, arith, sym, ap, ◌∙◌, subst}
use Rattle.vrl_batch.specs.Limits.{input_limit}
use Rattle.vrl_io.specs.Faults.{HasRisen}
use Rattle.vrl_batch.specs.Moments.{MovesOn}
use Rattle.vrl_batch.specs.Sinks.{AppendsFront}
use Rattle.vrl_run.specs.Answer.{answer_so_far, answer_to, status_if}
use Rattle.vrl_run.specs.Answered.{IsAnswered, IsAsked, LeavesDevices}
use Rattle.vrl_run.specs.Devices.{Devices, IsAskedAtMost, IsWithinLimit, devices}
use Rattle.vrl_run.specs.Request.{IsSame, MayCome, ReadsLines, Request, bad_kind, bad_script, bad_words, map_lines, map_made, tell_kinds}
use Rattle.vrl_run.specs.Status.{IsAnswer, IsFinished, IsInterrupted, meaning_of}
use Rattle.vrl_run.specs.Writing.{IsWritten}
use Rattle.vrl_run.specs.declared.status.Status.{Status}
use Rattle.vrl_run.specs.declared.status.Status.TheVariants.{Done, Refused, Usage, ReadFault, WriteFault, Memory, KindRefused, Marked, TooMuch}

-- ---- what isn't told

-- what a source that tells nothing may have held, and a clock
pub some_input : (left : Option (List ℕ)) → IfSome left (λ bytes. bytes ≡ unwrap_or left [])
some_input None = tt
some_input (Some bytes) = refl

abbrev pub moments_of : Option (ℕ → ℤ) → ℕ → ℤ
moments_of ahead = unwrap_or ahead (λ i. pos 0)

pub some_moments : (ahead : Option (ℕ → ℤ)) → IfSome ahead (λ told. (i : ℕ) → told i ≡ moments_of ahead i)
some_moments None = tt
some_moments (Some told) = λ i. refl

-- ---- where neither the input nor the clock is asked

none_taken : (left : Option (List ℕ)) → left ≡ option_map (λ rest. [] ++ rest) left
none_taken None = refl
none_taken (Some bytes) = refl

none_told : (ahead : Option (ℕ → ℤ)) → MovesOn ahead 0 ahead
none_told None = refl
none_told (Some told) = λ i. ap told (omega arith)

pub unasked_at_most : (before after : Devices) → after.left ≡ before.left → after.taken ≡ before.taken
    → after.ahead ≡ before.ahead
    → IsAskedAtMost before after
unasked_at_most before after left taken ahead = record {
  taken = [];
  is_left = none_taken before.left ∙ ap (option_map (λ rest. [] ++ rest)) (sym left);
  counted = omega (arith, taken);
  clock = (0, omega arith, subst (MovesOn before.ahead 0) (sym ahead) (none_told before.ahead));
}

-- ---- statuses

-- a status that doesn't say that the input is too long
pub within_limit : (status : Status) (before after : Devices) → (meaning_of status).too_long ≡ false → after.taken ≤ before.taken + input_limit → IsWithinLimit (meaning_of status).too_long before after
within_limit status before after is fewer = subst (λ too_long. IsWithinLimit too_long before after) (sym is) fewer

-- an answer doesn't
pub answer_not_long : (s : Status) → IsAnswer s → (meaning_of s).too_long ≡ false
answer_not_long Done answers = refl
answer_not_long Refused answers = refl
answer_not_long Usage answers = refl
answer_not_long KindRefused answers = refl
answer_not_long Marked answers = refl
answer_not_long s answers = absurd answers

-- nor does what comes in its place
pub written_not_long : (s answer : Status) → IsAnswer answer → (s ≡ answer) ⊎ (s ≡ WriteFault) ⊎ (s ≡ Memory) → (meaning_of s).too_long ≡ false
written_not_long s answer answers (inl is) = ap (λ status. (meaning_of status).too_long) is ∙ answer_not_long answer answers
written_not_long s answer answers (inr (inl is)) = ap (λ status. (meaning_of status).too_long) is
written_not_long s answer answers (inr (inr is)) = ap (λ status. (meaning_of status).too_long) is

-- and no fault of reading
not_read : (s answer : Status) → IsAnswer answer → (s ≡ answer) ⊎ (s ≡ WriteFault) ⊎ (s ≡ Memory) → s ≡ ReadFault → ⊥
not_read s answer answers (inl is) read = subst IsAnswer (sym is ∙ read) answers
not_read s answer answers (inr (inl is)) read = let wrong : WriteFault ≡ ReadFault = sym is ∙ read in cc
not_read s answer answers (inr (inr is)) read = let wrong : Memory ≡ ReadFault = sym is ∙ read in cc

not_too_much : (s answer : Status) → IsAnswer answer → (s ≡ answer) ⊎ (s ≡ WriteFault) ⊎ (s ≡ Memory) → s ≡ TooMuch → ⊥
not_too_much s answer answers (inl is) long = subst IsAnswer (sym is ∙ long) answers
not_too_much s answer answers (inr (inl is)) long = let wrong : WriteFault ≡ TooMuch = sym is ∙ long in cc
not_too_much s answer answers (inr (inr is)) long = let wrong : Memory ≡ TooMuch = sym is ∙ long in cc

-- where an answer comes it is its own
own_status : (s answer : Status) → (s ≡ answer) ⊎ (s ≡ WriteFault) ⊎ (s ≡ Memory) → IsAnswer s → s ≡ answer
own_status s answer (inl is) answers = is
own_status s answer (inr (inl is)) answers = absurd (subst IsAnswer is answers)
own_status s answer (inr (inr is)) answers = absurd (subst IsAnswer is answers)

-- and else a device failed, or memory was wanted
own_or_interrupted : {X : Type 0} (s answer : Status) → (s ≡ answer → X) → (s ≡ answer) ⊎ (s ≡ WriteFault) ⊎ (s ≡ Memory) → X ⊎ IsInterrupted s
own_or_interrupted s answer own (inl is) = inl (own is)
own_or_interrupted s answer own (inr (inl is)) = inr (subst IsInterrupted (sym is) tt)
own_or_interrupted s answer own (inr (inr is)) = inr (subst IsInterrupted (sym is) tt)

-- where nothing is done
pub undone : (asks : Request → Type 0) (status : Status) (now : Devices) → ¬ IsAnswer status
    → (meaning_of status).too_long ≡ false → LeavesDevices asks status now now
undone asks status now unanswered short = record {
  whole = λ answers. absurd (unanswered answers);
  front = inl (refl, refl);
  limit = within_limit status now now short (omega arith);
  clock = unasked_at_most now now refl refl refl;
}

-- since there was no memory
pub wanting_answered : (asks : Request → Type 0) (now : Devices) {Unasked : Type 0} → Unasked
    → IsAnswered asks Memory now now Unasked
wanting_answered asks now unasked = record {
  leaves = undone asks Memory now (λ answers. answers) refl;
  causes = record { read = λ is. absurd cc; write = λ is. absurd cc; read_told = inr refl; write_told = inr (refl, refl) };
  read_cut = λ is. absurd cc;
  limit_cut = λ is. absurd cc;
  came = inl tt;
  first = inl unasked;
}

pub finished_if : (marked : Bool) → IsFinished (status_if marked)
finished_if true = tt
finished_if false = tt

pub answers_if : (marked : Bool) → IsAnswer (status_if marked)
answers_if true = tt
answers_if false = tt

-- ---- a request of which no input is read

-- its answer is one
has_answer : (request : Request) (input : List ℕ) (moments : ℕ → ℤ) → IsAnswer (answer_to request input moments).status
has_answer bad_words input moments = tt
has_answer (bad_kind fault) input moments = tt
has_answer (bad_script text diagnostics) input moments = tt
has_answer (map_lines run) input moments = answers_if _
has_answer (map_made run count seed) input moments = answers_if _
has_answer (tell_kinds text warnings K known envelope) input moments = tt

-- what comes of it
told_comes : (request : Request) (input : List ℕ) (moments : ℕ → ℤ) (s : Status) → (s ≡ (answer_to request input moments).status) ⊎ (s ≡ WriteFault) ⊎ (s ≡ Memory) → ¬ ReadsLines request → MayCome request s
told_comes bad_words input moments s either unread = own_or_interrupted s _ (λ is. is) either
told_comes (bad_kind fault) input moments s either unread = own_or_interrupted s _ (λ is. is) either
told_comes (bad_script text diagnostics) input moments s either unread = own_or_interrupted s _ (λ is. is) either
told_comes (map_lines run) input moments s either unread = absurd (unread tt)
told_comes (map_made run count seed) input moments s either unread = own_or_interrupted s _ (λ is. subst IsFinished (sym is) (finished_if _)) either
told_comes (tell_kinds text warnings K known envelope) input moments s either unread = own_or_interrupted s _ (λ is. subst IsFinished (sym is) tt) either

-- of which no line is run
unread_so_far : (request : Request) (input : List ℕ) (moments : ℕ → ℤ) → ¬ ReadsLines request → answer_to request input moments ≡ answer_so_far 0 request input moments
unread_so_far bad_words input moments unread = refl
unread_so_far (bad_kind fault) input moments unread = refl
unread_so_far (bad_script text diagnostics) input moments unread = refl
unread_so_far (map_lines run) input moments unread = absurd (unread tt)
unread_so_far (map_made run count seed) input moments unread = refl
unread_so_far (tell_kinds text warnings K known envelope) input moments unread = refl

-- what is done once its answer was written
pub told_answered : (request : Request) (s : Status) {left : Option (List ℕ)} {taken : ℕ} {ended : Bool} {faults : ℕ} {ahead : Option (ℕ → ℤ)} {output output_after : Option (List ℕ)} {o o_after : ℕ} {report report_after : Option (List ℕ)} {e e_after : ℕ} {Unasked : Type 0}
    → ¬ ReadsLines request → ((input : List ℕ) (moments : ℕ → ℤ) → IsWritten (answer_to request input moments) s output output_after report report_after)
    → (s ≡ WriteFault → HasRisen o o_after ⊎ HasRisen e e_after) → (s ≡ WriteFault) ⊎ ((o_after ≡ o) × (e_after ≡ e)) → Unasked
    → IsAnswered (IsSame request) s (devices left taken ended faults ahead output o report e) (devices left taken ended faults ahead output_after o_after report_after e_after) Unasked
told_answered request s {left} {taken} {ended} {faults} {ahead} {output} {output_after} {o} {o_after} {report} {report_after} {e} {e_after} unread writes cause told unasked =
    let written = writes (unwrap_or left []) (moments_of ahead) in
    let asked : IsAsked (IsSame request) (devices left taken ended faults ahead output o report e) = record {
      request = request;
      asked = refl;
      input = unwrap_or left [];
      moments = moments_of ahead;
      told = record { is_left = some_input left; are_ahead = some_moments ahead };
    } in
    record {
      leaves = record {
        whole = λ answered. record {
          asked = asked;
          holds = record {
            status_is = own_status s _ written.either answered;
            bytes = record { output = (written.whole answered).0; report = (written.whole answered).1 };
          };
          read = λ reads. absurd (unread reads);
        };
        front = inr (record {
          asked = asked;
          ran = 0;
          in_range = λ reads. absurd (unread reads);
          holds = record {
            output = subst (λ a. AppendsFront output output_after a.output) (unread_so_far request _ _ unread) written.front.0;
            report = subst (λ a. AppendsFront report report_after a.report) (unread_so_far request _ _ unread) written.front.1;
          };
        });
        limit = within_limit s _ _ (written_not_long s _ (has_answer request _ _) written.either) (omega arith);
        clock = unasked_at_most _ _ refl refl refl;
      };
      causes = record { read = λ is. absurd (not_read s _ (has_answer request (unwrap_or left []) (moments_of ahead)) written.either is); write = cause; read_told = inr refl; write_told = told };
      read_cut = λ is. absurd (not_read s _ (has_answer request (unwrap_or left []) (moments_of ahead)) written.either is);
      limit_cut = λ is. absurd (not_too_much s _ (has_answer request (unwrap_or left []) (moments_of ahead)) written.either is);
      came = inr (request, refl, told_comes request _ _ s written.either unread);
      first = inl unasked;
    }
