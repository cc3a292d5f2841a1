-- What answers a run over lines, whole or cut off.
use Rattle.std.proofs.Common.{◌≡◌, ◌≤◌, ◌<◌, ◌+◌, ℕ, zero, suc, ℤ, Bool, true, false, List, [], ◌∷◌, ◌++◌, length, map, take, ◌||◌, Option, Some, None, IfSome, IsTrue, option_map, unwrap_or, ◌⊎◌, inl, inr, Result, Ok, Err, refl, sym, ap, ◌∙◌, subst, length-append, arith}
use Rattle.std.proofs.lemmas.List.{append-nil}
use Rattle.std.specs.List.{enumerate_from}
use Rattle.vrl_value.specs.Moment.{IsInRange}
use Rattle.vrl_batch.specs.Limits.{input_limit}
use Rattle.vrl_batch.specs.Lines.{event_lines, line_at}
use Rattle.vrl_batch.specs.Moments.{MovesOn, lines_by}
use Rattle.vrl_batch.specs.Reads.{AsksAtMost, ReadsBatch, StopsReading, Takes}
use Rattle.vrl_batch.specs.Runs.{HasReadFront, RunsAskAtMost, RunsEnd, RunsFront, RunsGoOn, RunsStop}
use Rattle.vrl_batch.specs.Sinks.{Appends, AppendsFront}
use Rattle.vrl_batch.specs.declared.line.Line.{Line}
use Rattle.vrl_batch.specs.declared.work.LineOut.{LineOut}
use Rattle.vrl_generate.specs.Summary.{is_marked}
use Rattle.vrl_io.specs.Faults.{HasRisen}
use Rattle.vrl_run.specs.Answer.{line_results, outputs, reports, result_of, status_if, warnings_of}
use Rattle.vrl_run.specs.Answered.{IsAnswered, IsAsked, IsCutOff}
use Rattle.vrl_run.specs.Devices.{IsAskedAtMost, IsWithinLimit, devices}
use Rattle.vrl_run.specs.Mapping.{EndsMapping, HasMapped, HasStopped, IsStill, Run, WritesResults}
use Rattle.vrl_run.specs.Request.{IsSame, MayCome, Request, ScriptRun, map_lines}
use Rattle.vrl_run.specs.Status.{IsAnswer, IsInterrupted, meaning_of}
use Rattle.vrl_run.specs.declared.status.Status.{Status}
use Rattle.vrl_run.specs.declared.status.Status.TheVariants.{Memory, ReadFault, TooMuch, WriteFault}
use Rattle.vrl_run.proofs.AnswerLemmas.{finished_if, moments_of, some_input, some_moments, unasked_at_most, within_limit}
use Rattle.vrl_run.proofs.BatchLemmas.{appends_both, appends_none, flat_map-append, front_behind, front_of_all, map-append, writes_both}

-- ---- the whole of a run

pub record IsMappedWhole (script : ScriptRun) (begin after : Run) (report : Option (List ℕ)) : Type 0 where
  pub input : List ℕ
  pub is_left : IfSome begin.stream.left (λ bytes. bytes ≡ input)
  pub moments : ℕ → ℤ
  pub are_ahead : IfSome begin.stream.ahead (λ told. (i : ℕ) → told i ≡ moments i)
  pub in_range : (i : ℕ) → i < length (event_lines input) → IsInRange (moments i)
  pub taken : after.stream.taken ≡ begin.stream.taken + length input
  pub ended : IsTrue after.stream.ended
  pub clock : MovesOn begin.stream.ahead (length (event_lines input)) after.stream.ahead
  pub output : Appends begin.output after.output (outputs (line_results script moments input))
  pub reported : Appends report after.report (warnings_of script ++ reports (line_results script moments input))
  pub marked : after.marked ≡ is_marked (line_results script moments input)
  pub within : length input ≤ input_limit

pub is_mapped_whole : RunsEnd → (script : ScriptRun) (begin after : Run) (report : Option (List ℕ)) (warnings : List ℕ) → begin.marked ≡ false → begin.stream.reader.taken ≡ 0 → Appends report begin.report warnings → warnings ≡ warnings_of script
    → EndsMapping (result_of script) begin after → IsMappedWhole script begin after report
is_mapped_whole ends script begin after report warnings unmarked fresh told warned so =
    let all = ends begin.stream so.now.stream after.stream so.mapped.lines so.mapped.read so.last.read in
    let f = result_of script in
    let lines : so.mapped.lines ++ [] ≡ lines_by all.moments (event_lines all.input) = append-nil so.mapped.lines ∙ all.timed.lines_are in
    let writes = subst (λ ls. WritesResults (result_of script) ls begin after) lines (writes_both (result_of script) begin so.now after so.mapped.lines [] so.mapped.writes so.last.writes) in
    record {
      input = all.input;
      is_left = all.is_left;
      moments = all.moments;
      are_ahead = all.timed.are_ahead;
      in_range = all.timed.in_range;
      taken = all.takes.counted;
      ended = so.last.ended refl;
      clock = all.moved;
      output = writes.output;
      reported = subst (λ w. Appends report after.report (w ++ reports (map f (lines_by all.moments (event_lines all.input))))) warned (appends_both report begin.report after.report warnings _ told writes.report);
      marked = writes.marked ∙ ap (λ b. b || is_marked (map f (lines_by all.moments (event_lines all.input)))) unmarked;
      within = omega (arith, all.takes.counted_too, fresh, so.last.within);
    }

-- ---- a front of it

pub record IsMappedFront (script : ScriptRun) (begin after : Run) (report : Option (List ℕ)) : Type 0 where
  pub input : List ℕ
  pub is_left : IfSome begin.stream.left (λ bytes. bytes ≡ input)
  pub moments : ℕ → ℤ
  pub are_ahead : IfSome begin.stream.ahead (λ told. (i : ℕ) → told i ≡ moments i)
  pub ran : ℕ
  pub in_range : (i : ℕ) → i < ran → IsInRange (moments i)
  pub output : AppendsFront begin.output after.output (outputs (take ran (line_results script moments input)))
  pub reported : AppendsFront report after.report (warnings_of script ++ reports (take ran (line_results script moments input)))

take-enumerated : {B : Type 0} (g : ℕ × (ℕ × List ℕ) → B) (n : ℕ) (run rest : List (ℕ × List ℕ)) → take (length run) (map g (enumerate_from n (run ++ rest))) ≡ map g (enumerate_from n run)
take-enumerated g n [] rest = refl
take-enumerated g n (l ∷ run) rest = ap (λ xs. g (n, l) ∷ xs) (take-enumerated g (n + 1) run rest)

take-map : {A B : Type 0} (f : A → B) (n : ℕ) (xs : List A) → take n (map f xs) ≡ map f (take n xs)
take-map f zero xs = refl
take-map f (suc n) [] = refl
take-map f (suc n) (x ∷ xs) = ap (λ ys. f x ∷ ys) (take-map f n xs)

-- the results of the lines that were run are the first
results_so_far : (script : ScriptRun) (moments : ℕ → ℤ) (input : List ℕ) (run rest : List (ℕ × List ℕ)) (lines : List Line) → event_lines input ≡ run ++ rest → lines ≡ lines_by moments run
    → map (result_of script) lines ≡ take (length run) (line_results script moments input)
results_so_far script moments input run rest lines begins is =
    ap (map (result_of script)) is
    ∙ ap (map (result_of script)) (sym (take-enumerated (λ l. line_at (moments l.0) l.1) 0 run rest))
    ∙ sym (take-map (result_of script) (length run) (lines_by moments (run ++ rest)))
    ∙ ap (λ ls. take (length run) (map (result_of script) (lines_by moments ls))) (sym begins)

-- of what was read
is_front : (script : ScriptRun) (begin after : Run) (report : Option (List ℕ)) (lines : List Line) → HasReadFront begin.stream lines → AppendsFront begin.output after.output (outputs (map (result_of script) lines))
    → AppendsFront report after.report (warnings_of script ++ reports (map (result_of script) lines)) → IsMappedFront script begin after report
is_front script begin after report lines read output reported =
    let results = results_so_far script read.moments read.input read.run read.rest lines read.begins read.timed.lines_are in
    record {
      input = read.input;
      is_left = read.is_left;
      moments = read.moments;
      are_ahead = read.timed.are_ahead;
      ran = length read.run;
      in_range = read.timed.in_range;
      output = subst (λ rs. AppendsFront begin.output after.output (outputs rs)) results output;
      reported = subst (λ rs. AppendsFront report after.report (warnings_of script ++ reports rs)) results reported;
    }

-- the sinks hold just what is done
still_front : (front : RunsFront) (script : ScriptRun) (begin now after : Run) (report : Option (List ℕ)) (warnings : List ℕ) → Appends report begin.report warnings → warnings ≡ warnings_of script → HasMapped (result_of script) begin now → IsStill now after → IsMappedFront script begin after report
still_front front script begin now after report warnings told warned so still =
    is_front script begin after report so.lines (front begin.stream now.stream so.lines so.read)
    (subst (λ o. AppendsFront begin.output o (outputs (map (result_of script) so.lines))) (sym still.output) (front_of_all begin.output now.output _ so.writes.output))
    (subst (λ w. AppendsFront report after.report (w ++ reports (map (result_of script) so.lines))) warned
    (subst (λ r. AppendsFront report r (warnings ++ reports (map (result_of script) so.lines))) (sym still.report) (front_of_all report now.report _ (appends_both report begin.report now.report warnings _ told so.writes.report))))

-- or a front of what was read besides
written_front : (front : RunsFront) → RunsGoOn → (script : ScriptRun) (begin now after : Run) (report : Option (List ℕ)) (warnings : List ℕ) (batch : List Line) → Appends report begin.report warnings → warnings ≡ warnings_of script → HasMapped (result_of script) begin now
    → ReadsBatch now.stream after.stream batch → AppendsFront now.output after.output (outputs (map (result_of script) batch)) → AppendsFront now.report after.report (reports (map (result_of script) batch)) → IsMappedFront script begin after report
written_front front goes script begin now after report warnings batch told warned so read output reported =
    let f = result_of script in
    let all : map f (so.lines ++ batch) ≡ map f so.lines ++ map f batch = map-append f so.lines batch in
    is_front script begin after report (so.lines ++ batch) (front begin.stream after.stream (so.lines ++ batch) (goes begin.stream now.stream after.stream so.lines batch so.read read))
    (subst (AppendsFront begin.output after.output) (sym (ap outputs all ∙ flat_map-append (λ r. r.output) (map f so.lines) (map f batch))) (front_behind begin.output now.output after.output _ _ so.writes.output output))
    (subst (λ w. AppendsFront report after.report (w ++ reports (map f (so.lines ++ batch)))) warned
    (subst (λ bytes. AppendsFront report after.report (warnings ++ bytes)) (sym (ap reports all ∙ flat_map-append (λ r. r.report) (map f so.lines) (map f batch)))
    (front_behind report begin.report after.report warnings _ told (front_behind begin.report now.report after.report _ _ so.writes.report reported))))

-- whatever it stops at
pub is_mapped_front : RunsFront → RunsGoOn → (script : ScriptRun) (begin after : Run) (report : Option (List ℕ)) (warnings : List ℕ) (s : Status) → Appends report begin.report warnings → warnings ≡ warnings_of script → HasStopped (result_of script) begin after s → IsMappedFront script begin after report
is_mapped_front front goes script begin after report warnings ReadFault told warned so = still_front front script begin so.now after report warnings told warned so.mapped so.stops.2
is_mapped_front front goes script begin after report warnings TooMuch told warned so = still_front front script begin so.now after report warnings told warned so.mapped so.stops.2
is_mapped_front front goes script begin after report warnings Memory told warned so = still_front front script begin so.now after report warnings told warned so.mapped so.stops.1
is_mapped_front front goes script begin after report warnings WriteFault told warned so = written_front front goes script begin so.now after report warnings so.stops.batch told warned so.mapped so.stops.read so.stops.output so.stops.report
is_mapped_front front goes script begin after report warnings s told warned so = absurd so.stops

-- ---- what is done of a run over lines

-- for how many moments the clock was asked
asked_since : RunsAskAtMost
    → (script : ScriptRun) (begin now after : Run) {report : Option (List ℕ)}
    {faults faults_after o o_after e e_after : ℕ}
    → HasMapped (result_of script) begin now → AsksAtMost now.stream after.stream
    → IsAskedAtMost (devices begin.stream.left begin.stream.taken begin.stream.ended faults begin.stream.ahead begin.output o report e)
    (devices after.stream.left after.stream.taken after.stream.ended faults_after after.stream.ahead after.output o_after after.report e_after)
asked_since ask script begin now after so asks =
    let all = ask begin.stream now.stream after.stream so.lines so.read asks in
    record { taken = all.input; is_left = all.takes.is_left; counted = all.takes.counted; clock = all.clock }

-- the bytes taken are those that were counted
counted_since : (bytes : List ℕ) (script : ScriptRun) (begin now after : Run) → begin.stream.reader.taken ≡ 0 → HasMapped (result_of script) begin now → Takes bytes now.stream after.stream → after.stream.reader.taken ≤ input_limit → after.stream.taken ≤ begin.stream.taken + input_limit
counted_since bytes script begin now after fresh so takes within = omega (arith, fresh, so.read.takes.counted, so.read.takes.counted_too, takes.counted, takes.counted_too, within)

longer_than_limit : (left after : Option (List ℕ)) (bytes : List ℕ) → left ≡ option_map (λ rest. bytes ++ rest) after → length bytes ≡ input_limit + 1 → IfSome left (λ told. input_limit < length told)
longer_than_limit None after bytes is long = tt
longer_than_limit (Some left) None bytes is long = absurd cc
longer_than_limit (Some left) (Some rest) bytes is long = let same : left ≡ bytes ++ rest = cc in omega (arith, long, ap length same, length-append bytes rest)

all_taken : {A : Type 0} (xs : List A) → take (length xs) xs ≡ xs
all_taken [] = refl
all_taken (x ∷ xs) = ap (λ ys. x ∷ ys) (all_taken xs)

length-map : {A B : Type 0} (f : A → B) (xs : List A) → length (map f xs) ≡ length xs
length-map f [] = refl
length-map f (x ∷ xs) = grind (arith, length-map f xs)

length-enumerated : (n : ℕ) (ls : List (ℕ × List ℕ)) → length (enumerate_from n ls) ≡ length ls
length-enumerated n [] = refl
length-enumerated n (l ∷ ls) = grind (arith, length-enumerated (n + 1) ls)

all_so_far : (script : ScriptRun) (moments : ℕ → ℤ) (input : List ℕ) → line_results script moments input ≡ take (length (event_lines input)) (line_results script moments input)
all_so_far script moments input =
    let results = line_results script moments input in
    let same : length results ≡ length (event_lines input) = length-map (result_of script) (lines_by moments (event_lines input)) ∙ length-map (λ l. line_at (moments l.0) l.1) (enumerate_from 0 (event_lines input)) ∙ length-enumerated 0 (event_lines input) in
    sym (all_taken results) ∙ ap (λ n. take n results) same

not_long_if : (marked : Bool) → (meaning_of (status_if marked)).too_long ≡ false
not_long_if true = refl
not_long_if false = refl

finished_no_read : (marked : Bool) → status_if marked ≡ ReadFault → ⊥
finished_no_read true is = cc
finished_no_read false is = cc

finished_no_write : (marked : Bool) → status_if marked ≡ WriteFault → ⊥
finished_no_write true is = cc
finished_no_write false is = cc

finished_no_limit : (marked : Bool) → status_if marked ≡ TooMuch → ⊥
finished_no_limit true is = cc
finished_no_limit false is = cc

-- to the end of the input
pub whole_answered : RunsAskAtMost → RunsEnd
    → (script : ScriptRun) (begin after : Run) {report : Option (List ℕ)} {faults faults_after o o_after e e_after : ℕ}
    {Unasked : Type 0} (warnings : List ℕ) → begin.marked ≡ false → begin.stream.reader.taken ≡ 0
    → Appends report begin.report warnings → warnings ≡ warnings_of script
    → EndsMapping (result_of script) begin after → faults_after ≡ faults → (o_after ≡ o) × (e_after ≡ e)
    → IsAnswered (IsSame (map_lines script)) (status_if after.marked) (devices begin.stream.left begin.stream.taken begin.stream.ended faults begin.stream.ahead begin.output o report e)
    (devices after.stream.left after.stream.taken after.stream.ended faults_after after.stream.ahead after.output o_after after.report e_after) Unasked
whole_answered ask ends script begin after {report} {faults} {faults_after} {o} {o_after} {e} {e_after} warnings unmarked fresh told warned so unfailed unfaulted =
    let all = is_mapped_whole ends script begin after report warnings unmarked fresh told warned so in
    let before = devices begin.stream.left begin.stream.taken begin.stream.ended faults begin.stream.ahead begin.output o report e in
    let asked : IsAsked (IsSame (map_lines script)) before = record {
      request = map_lines script;
      asked = refl;
      input = all.input;
      moments = all.moments;
      told = record { is_left = all.is_left; are_ahead = all.are_ahead };
    } in
    record {
      leaves = record {
        whole = λ answered. record {
          asked = asked;
          holds = record { status_is = ap status_if all.marked; bytes = record { output = all.output; report = all.reported } };
          read = λ reads. record { taken = all.taken; ended = all.ended; clock = all.clock; in_range = all.in_range };
        };
        front = inr (record {
          asked = asked;
          ran = length (event_lines all.input);
          in_range = λ reads. all.in_range;
          holds = record {
            output = subst (λ rs. AppendsFront begin.output after.output (outputs rs)) (all_so_far script all.moments all.input)
                (front_of_all begin.output after.output _ all.output);
            report = subst (λ rs. AppendsFront report after.report (warnings_of script ++ reports rs))
                (all_so_far script all.moments all.input) (front_of_all report after.report _ all.reported);
          };
        });
        limit = within_limit (status_if after.marked) before _ (not_long_if after.marked) (omega (arith, all.taken, all.within));
        clock = asked_since ask script begin so.now after so.mapped so.asks;
      };
      causes = record { read = λ is. absurd (finished_no_read after.marked is); write = λ is. absurd (finished_no_write after.marked is); read_told = inr unfailed; write_told = inr unfaulted };
      read_cut = λ is. absurd (finished_no_read after.marked is);
      limit_cut = λ is. absurd (finished_no_limit after.marked is);
      came = inr (map_lines script, refl, inl (finished_if after.marked));
      first = inr (script, refl);
    }

-- cut off
cut_off : RunsStop → (script : ScriptRun) (more : ℕ) (begin now after : Run) {report : Option (List ℕ)} {faults faults_after o o_after e e_after : ℕ} (warnings : List ℕ) → Appends report begin.report warnings → warnings ≡ warnings_of script → HasMapped (result_of script) begin now → StopsReading more now.stream after.stream → IsStill now after
    → IsCutOff (IsSame (map_lines script)) more (devices begin.stream.left begin.stream.taken begin.stream.ended faults begin.stream.ahead begin.output o report e)
    (devices after.stream.left after.stream.taken after.stream.ended faults_after after.stream.ahead after.output o_after after.report e_after)
cut_off stop script more begin now after {report} warnings told warned so stops still =
    let whole = stop more begin.stream now.stream after.stream so.lines so.read stops in
    let lines = whole.timed.lines_are in
    let f = result_of script in
    record {
      run = script;
      asked = refl;
      input = whole.input;
      behind = whole.behind;
      is_left = whole.takes.is_left;
      counted = whole.takes.counted;
      more_is = whole.more_is;
      moments = whole.moments;
      are_ahead = whole.timed.are_ahead;
      in_range = whole.timed.in_range;
      clock = whole.moved;
      holds = record {
        output = subst (λ ls. Appends begin.output after.output (outputs (map f ls))) lines (subst (λ x. Appends begin.output x (outputs (map f so.lines))) (sym still.output) so.writes.output);
        report = subst (λ ls. Appends report after.report (warnings_of script ++ reports (map f ls))) lines
            (subst (λ w. Appends report after.report (w ++ reports (map f so.lines))) warned
            (subst (λ x. Appends report x (warnings ++ reports (map f so.lines))) (sym still.report) (appends_both report begin.report now.report warnings _ told so.writes.report)));
      };
    }

-- before that

stopped : (script : ScriptRun) (begin after : Run) {report : Option (List ℕ)} {faults faults_after o o_after e e_after : ℕ} {Unasked : Type 0} (s : Status) → IsMappedFront script begin after report → ¬ IsAnswer s
    → IsAskedAtMost (devices begin.stream.left begin.stream.taken begin.stream.ended faults begin.stream.ahead begin.output o report e)
    (devices after.stream.left after.stream.taken after.stream.ended faults_after after.stream.ahead after.output o_after after.report e_after)
    → IsWithinLimit (meaning_of s).too_long (devices begin.stream.left begin.stream.taken begin.stream.ended faults begin.stream.ahead begin.output o report e) (devices after.stream.left after.stream.taken after.stream.ended faults_after after.stream.ahead after.output o_after after.report e_after)
    → (s ≡ ReadFault → IsCutOff (IsSame (map_lines script)) 0 (devices begin.stream.left begin.stream.taken begin.stream.ended faults begin.stream.ahead begin.output o report e) (devices after.stream.left after.stream.taken after.stream.ended faults_after after.stream.ahead after.output o_after after.report e_after))
    → (s ≡ TooMuch → IsCutOff (IsSame (map_lines script)) 1 (devices begin.stream.left begin.stream.taken begin.stream.ended faults begin.stream.ahead begin.output o report e) (devices after.stream.left after.stream.taken after.stream.ended faults_after after.stream.ahead after.output o_after after.report e_after))
    → IsInterrupted s ⊎ (s ≡ TooMuch) → (s ≡ ReadFault → HasRisen faults faults_after) → (s ≡ WriteFault → HasRisen o o_after ⊎ HasRisen e e_after) → (s ≡ ReadFault) ⊎ (faults_after ≡ faults) → (s ≡ WriteFault) ⊎ ((o_after ≡ o) × (e_after ≡ e))
    → IsAnswered (IsSame (map_lines script)) s (devices begin.stream.left begin.stream.taken begin.stream.ended faults begin.stream.ahead begin.output o report e)
    (devices after.stream.left after.stream.taken after.stream.ended faults_after after.stream.ahead after.output o_after after.report e_after) Unasked
stopped script begin after s front unanswered clock limit cut_read cut_limit comes read write read_told write_told = record {
  leaves = record {
    whole = λ answered. absurd (unanswered answered);
    front = inr (record {
      asked = record {
        request = map_lines script;
        asked = refl;
        input = front.input;
        moments = front.moments;
        told = record { is_left = front.is_left; are_ahead = front.are_ahead };
      };
      ran = front.ran;
      in_range = λ reads. front.in_range;
      holds = record { output = front.output; report = front.reported };
    });
    limit = limit;
    clock = clock;
  };
  causes = record { read = read; write = write; read_told = read_told; write_told = write_told };
  read_cut = cut_read;
  limit_cut = cut_limit;
  came = came comes;
  first = inr (script, refl);
} where
  came : IsInterrupted s ⊎ (s ≡ TooMuch) → IsInterrupted s ⊎ ((request : Request) × IsSame (map_lines script) request × MayCome request s)
  came (inl is) = inl is
  came (inr is) = inr (map_lines script, refl, inr (inr is))

-- before that
pub stopped_answered : RunsAskAtMost → RunsFront → RunsGoOn → RunsStop
    → (script : ScriptRun) (begin after : Run) {report : Option (List ℕ)} {faults faults_after o o_after e e_after : ℕ}
    {Unasked : Type 0} (warnings : List ℕ) (s : Status) → begin.stream.reader.taken ≡ 0
    → Appends report begin.report warnings → warnings ≡ warnings_of script
    → HasStopped (result_of script) begin after s → (s ≡ ReadFault → HasRisen faults faults_after) → (s ≡ WriteFault → HasRisen o o_after ⊎ HasRisen e e_after) → (s ≡ ReadFault) ⊎ (faults_after ≡ faults) → (s ≡ WriteFault) ⊎ ((o_after ≡ o) × (e_after ≡ e))
    → IsAnswered (IsSame (map_lines script)) s (devices begin.stream.left begin.stream.taken begin.stream.ended faults begin.stream.ahead begin.output o report e)
    (devices after.stream.left after.stream.taken after.stream.ended faults_after after.stream.ahead after.output o_after after.report e_after) Unasked
stopped_answered ask front goes stop script begin after {report} warnings ReadFault fresh told warned so read write read_told write_told =
    let why = so.stops in
    stopped script begin after ReadFault (is_mapped_front front goes script begin after report warnings ReadFault told warned so) (λ answered. answered) (asked_since ask script begin so.now after so.mapped so.asks) (counted_since _ script begin so.now after fresh so.mapped why.0.takes why.1)
    (λ is. cut_off stop script 0 begin so.now after warnings told warned so.mapped why.0 why.2) (λ is. absurd cc) (inl tt) read write read_told write_told
stopped_answered ask front goes stop script begin after {report} warnings TooMuch fresh told warned so read write read_told write_told =
    let why = so.stops in
    let whole = stop 1 begin.stream so.now.stream after.stream so.mapped.lines so.mapped.read why.0 in
    let long : length (whole.input ++ whole.behind) ≡ input_limit + 1 = omega (arith, fresh, whole.takes.counted_too, why.1) in
    stopped script begin after TooMuch (is_mapped_front front goes script begin after report warnings TooMuch told warned so) (λ answered. answered)
    (asked_since ask script begin so.now after so.mapped so.asks)
    (whole.takes.counted ∙ ap (λ n. begin.stream.taken + n) long, longer_than_limit begin.stream.left after.stream.left (whole.input ++ whole.behind) whole.takes.is_left long)
    (λ is. absurd cc) (λ is. cut_off stop script 1 begin so.now after warnings told warned so.mapped why.0 why.2) (inr refl) read write read_told write_told
stopped_answered ask front goes stop script begin after {report} warnings Memory fresh told warned so read write read_told write_told =
    let why = so.stops in
    stopped script begin after Memory (is_mapped_front front goes script begin after report warnings Memory told warned so) (λ answered. answered) (asked_since ask script begin so.now after so.mapped so.asks) (counted_since _ script begin so.now after fresh so.mapped so.asks.takes why.0)
    (λ is. absurd cc) (λ is. absurd cc) (inl tt) read write read_told write_told
stopped_answered ask front goes stop script begin after {report} warnings WriteFault fresh told warned so read write read_told write_told =
    let why = so.stops in
    stopped script begin after WriteFault (is_mapped_front front goes script begin after report warnings WriteFault told warned so) (λ answered. answered) (asked_since ask script begin so.now after so.mapped so.asks) (counted_since _ script begin so.now after fresh so.mapped why.read.takes why.within)
    (λ is. absurd cc) (λ is. absurd cc) (inl tt) read write read_told write_told
stopped_answered ask front goes stop script begin after warnings s fresh told warned so read write read_told write_told = absurd so.stops

-- ---- before the first batch

-- the input as it may be, at moments as they may be
abbrev begun : (script : ScriptRun) {left : Option (List ℕ)} {taken : ℕ} {ended : Bool} {faults : ℕ} {ahead : Option (ℕ → ℤ)} {output : Option (List ℕ)} {o : ℕ} {report : Option (List ℕ)} {e : ℕ} → IsAsked (IsSame (map_lines script)) (devices left taken ended faults ahead output o report e)
begun script {left} {ahead = ahead} = record {
  request = map_lines script;
  asked = refl;
  input = unwrap_or left [];
  moments = moments_of ahead;
  told = record { is_left = some_input left; are_ahead = some_moments ahead };
}

-- the warnings were written, or a front of them
pub warned_answered : (script : ScriptRun) (s : Status) {left : Option (List ℕ)} {taken : ℕ} {ended : Bool} {faults : ℕ} {ahead : Option (ℕ → ℤ)} {output : Option (List ℕ)} {o : ℕ} {report report_after : Option (List ℕ)} {e e_after : ℕ} {Unasked : Type 0} (warnings : List ℕ) → (s ≡ WriteFault) ⊎ (s ≡ Memory)
    → warnings ≡ warnings_of script → AppendsFront report report_after warnings → (s ≡ WriteFault → HasRisen e e_after) → (s ≡ WriteFault) ⊎ (e_after ≡ e)
    → IsAnswered (IsSame (map_lines script)) s (devices left taken ended faults ahead output o report e) (devices left taken ended faults ahead output o report_after e_after) Unasked
warned_answered script s {left} {taken} {ended} {faults} {ahead} {output} {o} {report} {report_after} {e} {e_after} warnings either warned front cause told = record {
  leaves = record {
    whole = λ answered. absurd (no_answer s either answered);
    front = inr (record {
      asked = begun script;
      ran = 0;
      in_range = λ reads i below. absurd (omega (arith, below));
      holds = record {
        output = front_of_all output output [] (appends_none output);
        report = subst (AppendsFront report report_after) (sym (append-nil (warnings_of script))) (subst (AppendsFront report report_after) warned front);
      };
    });
    limit = within_limit s _ _ (short s either) (omega arith);
    clock = unasked_at_most _ _ refl refl refl;
  };
  causes = record { read = λ is. absurd (no_read s either is); write = λ is. inr (cause is); read_told = inr refl; write_told = unwritten told };
  read_cut = λ is. absurd (no_read s either is);
  limit_cut = λ is. absurd (no_limit s either is);
  came = inl (interrupts s either);
  first = inr (script, refl);
} where
  no_answer : (s : Status) → (s ≡ WriteFault) ⊎ (s ≡ Memory) → IsAnswer s → ⊥
  no_answer s (inl is) answers = subst IsAnswer is answers
  no_answer s (inr is) answers = subst IsAnswer is answers

  short : (s : Status) → (s ≡ WriteFault) ⊎ (s ≡ Memory) → (meaning_of s).too_long ≡ false
  short s (inl is) = ap (λ status. (meaning_of status).too_long) is
  short s (inr is) = ap (λ status. (meaning_of status).too_long) is

  no_read : (s : Status) → (s ≡ WriteFault) ⊎ (s ≡ Memory) → s ≡ ReadFault → ⊥
  no_read s (inl is) read = let wrong : WriteFault ≡ ReadFault = sym is ∙ read in cc
  no_read s (inr is) read = let wrong : Memory ≡ ReadFault = sym is ∙ read in cc

  no_limit : (s : Status) → (s ≡ WriteFault) ⊎ (s ≡ Memory) → s ≡ TooMuch → ⊥
  no_limit s (inl is) long = let wrong : WriteFault ≡ TooMuch = sym is ∙ long in cc
  no_limit s (inr is) long = let wrong : Memory ≡ TooMuch = sym is ∙ long in cc

  interrupts : (s : Status) → (s ≡ WriteFault) ⊎ (s ≡ Memory) → IsInterrupted s
  interrupts s (inl is) = subst IsInterrupted (sym is) tt
  interrupts s (inr is) = subst IsInterrupted (sym is) tt

  unwritten : (s ≡ WriteFault) ⊎ (e_after ≡ e) → (s ≡ WriteFault) ⊎ ((o ≡ o) × (e_after ≡ e))
  unwritten (inl is) = inl is
  unwritten (inr is) = inr (refl, is)

pub no_warnings : (report : Option (List ℕ)) (warnings : List ℕ) → AppendsFront report report warnings
no_warnings report warnings = ([], warnings, refl, appends_none report)

-- ---- two accounts of what is made of each line

pub ends_by : (f g : Line → LineOut) (begin after : Run) → f ≡ g → EndsMapping f begin after → EndsMapping g begin after
ends_by f g begin after is ends = subst (λ h. EndsMapping h begin after) is ends

pub stops_by : (f g : Line → LineOut) (begin after : Run) (s : Status) → f ≡ g → HasStopped f begin after s → HasStopped g begin after s
stops_by f g begin after s is stops = subst (λ h. HasStopped h begin after s) is stops

-- ---- what an outcome tells

pub of_ok : {A E : Type 0} {v : A} {e : E} {X : Type 0} → (Ok v ≡ Err e) ⊎ X → X
of_ok (inl is) = absurd cc
of_ok (inr x) = x

pub of_err : {A E : Type 0} (r : Result A E) {s e : E} {X Y : Type 0} → r ≡ Err s → (X → Y) → (r ≡ Err e) ⊎ X → (s ≡ e) ⊎ Y
of_err r is more (inl also) = inl cc
of_err r is more (inr x) = inr (more x)
