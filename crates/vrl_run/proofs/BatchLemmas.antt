-- What a run has written and read so far, batch by batch.
use Rattle.std.proofs.Common.{◌≡◌, ◌≤◌, ◌<◌, ◌+◌, ◌-◌, ℕ, ℤ, Bool, true, false, List, [], ◌∷◌, ◌++◌, length, map, not, ◌==◌, ◌||◌, Option, Some, None, option_map, ◌⊎◌, inl, inr, refl, sym, ap, ◌∙◌, subst, append_assoc, length-append, arith}
use Rattle.std.proofs.lemmas.Bool.Decides.{nat_tests}
use Rattle.std.proofs.lemmas.List.{append-nil}
use Rattle.std.specs.List.{flat_map, list_any}
use Rattle.vrl_batch.specs.Limits.{input_limit}
use Rattle.vrl_batch.specs.Lines.{event_lines_from}
use Rattle.vrl_batch.specs.Moments.{lines_at}
use Rattle.vrl_batch.specs.Reads.{ReadsBatch, Stream}
use Rattle.vrl_batch.specs.Runs.{RunsBegin, RunsGoOn}
use Rattle.vrl_batch.specs.Sinks.{Appends, AppendsFront}
use Rattle.vrl_batch.specs.declared.line.Line.{Line}
use Rattle.vrl_batch.specs.declared.work.LineOut.{LineOut}
use Rattle.vrl_generate.specs.Summary.{is_marked, is_refused}
use Rattle.vrl_run.specs.Answer.{outputs, reports}
use Rattle.vrl_run.specs.Mapping.{HasMapped, MapsBatch, Run, StopsMapping, TellsMore, WritesResults}
use Rattle.vrl_run.specs.declared.status.Status.{Status}
use Rattle.vrl_run.specs.declared.status.Status.TheVariants.{Memory, WriteFault}

pub map-append : {A B : Type 0} (f : A → B) (xs ys : List A) → map f (xs ++ ys) ≡ map f xs ++ map f ys
map-append f [] ys = refl
map-append f (x ∷ xs) ys = ap (λ zs. f x ∷ zs) (map-append f xs ys)

pub flat_map-append : {A B : Type 0} (f : A → List B) (xs ys : List A) → flat_map f (xs ++ ys) ≡ flat_map f xs ++ flat_map f ys
flat_map-append f [] ys = refl
flat_map-append f (x ∷ xs) ys = ap (λ zs. f x ++ zs) (flat_map-append f xs ys) ∙ sym (append_assoc (f x) (flat_map f xs) (flat_map f ys))

or-assoc : (a b c : Bool) → (a || (b || c)) ≡ ((a || b) || c)
or-assoc true b c = refl
or-assoc false b c = refl

list_any-append : {A : Type 0} (f : A → Bool) (xs ys : List A) → list_any f (xs ++ ys) ≡ (list_any f xs || list_any f ys)
list_any-append f [] ys = refl
list_any-append f (x ∷ xs) ys = ap (λ b. f x || b) (list_any-append f xs ys) ∙ or-assoc (f x) (list_any f xs) (list_any f ys)

-- what is appended twice
pub appends_both : (old middle new : Option (List ℕ)) (first second : List ℕ) → Appends old middle first → Appends middle new second → Appends old new (first ++ second)
appends_both None middle new first second one two = two ∙ ap (option_map (λ before. before ++ second)) one
appends_both (Some held) middle new first second one two = two ∙ ap (option_map (λ before. before ++ second)) one ∙ ap Some (append_assoc held first second)

pub appends_none : (held : Option (List ℕ)) → Appends held held []
appends_none None = refl
appends_none (Some held) = ap Some (sym (append-nil held))

or_false : (b : Bool) → b ≡ (b || false)
or_false true = refl
or_false false = refl

-- no results
writes_none : (result : Line → LineOut) (now : Run) → WritesResults result [] now now
writes_none result now = record { output = appends_none now.output; report = appends_none now.report; marked = or_false now.marked }

-- those of lines, and then those of others
pub writes_both : (result : Line → LineOut) (begin now after : Run) (lines batch : List Line) → WritesResults result lines begin now → WritesResults result batch now after → WritesResults result (lines ++ batch) begin after
writes_both result begin now after lines batch one two =
    let all : map result (lines ++ batch) ≡ map result lines ++ map result batch = map-append result lines batch in
    record {
      output = subst (Appends begin.output after.output) (sym (ap outputs all ∙ flat_map-append (λ r. r.output) (map result lines) (map result batch))) (appends_both begin.output now.output after.output _ _ one.output two.output);
      report = subst (Appends begin.report after.report) (sym (ap reports all ∙ flat_map-append (λ r. r.report) (map result lines) (map result batch))) (appends_both begin.report now.report after.report _ _ one.report two.report);
      marked = two.marked ∙ ap (λ b. b || is_marked (map result batch)) one.marked ∙ sym (or-assoc begin.marked _ _) ∙ ap (λ b. begin.marked || b) (sym (ap is_marked all ∙ list_any-append (λ r. is_refused r.outcome) (map result lines) (map result batch)));
    }

-- the results of a batch
pub wrote : (result : Line → LineOut) (batch : List Line) (results : List LineOut) (before after : Run) (refused : Bool) → results ≡ map result batch
    → (refused ≡ is_marked results) × Appends before.output after.output (outputs results) × Appends before.report after.report (reports results) → after.marked ≡ (before.marked || refused) → WritesResults result batch before after
wrote result batch results before after refused is written marked = record {
  output = subst (λ rs. Appends before.output after.output (outputs rs)) is written.1;
  report = subst (λ rs. Appends before.report after.report (reports rs)) is written.2;
  marked = marked ∙ ap (λ b. before.marked || b) (written.0 ∙ ap is_marked is);
}

-- or they were not all written
pub stops_writing : (result : Line → LineOut) (before after : Run) (results : List LineOut) (batch : List Line) (s : Status)
    → results ≡ map result batch
    → ReadsBatch before.stream after.stream batch → after.stream.reader.taken ≤ input_limit → (s ≡ WriteFault) ⊎ (s ≡ Memory)
    → AppendsFront before.output after.output (outputs results) × AppendsFront before.report after.report (reports results)
    → Appends before.output after.output (outputs results) ⊎ (after.report ≡ before.report)
    → (s ≡ Memory → (after.output ≡ before.output) × (after.report ≡ before.report)) → StopsMapping result before after s
stops_writing result before after results batch s is read within (inl fault) front order still =
    subst (StopsMapping result before after) (sym fault)
    (record {
      batch = batch;
      read = read;
      within = within;
      output = subst (λ rs. AppendsFront before.output after.output (outputs rs)) is front.0;
      report = subst (λ rs. AppendsFront before.report after.report (reports rs)) is front.1;
      order = subst (λ rs. Appends before.output after.output (outputs rs) ⊎ (after.report ≡ before.report)) is order;
    })
stops_writing result before after results batch s is read within (inr wanting) front order still =
    let none = still wanting in
    subst (StopsMapping result before after) (sym wanting) (within, record { output = none.0; report = none.1 })

pub tells_more : (batch : List Line) (empty : Bool) → empty ≡ (length batch == 0) → TellsMore (not empty) batch
tells_more [] empty is = subst (λ b. TellsMore (not b) []) (sym is) refl
tells_more (l ∷ batch) empty is =
    let some : (length (l ∷ batch) == 0) ≡ false = grind (arith, nat_tests) in
    subst (λ b. TellsMore (not b) (l ∷ batch)) (sym (is ∙ some)) (λ none. cc)

pub has_mapped-begin : RunsBegin → (result : Line → LineOut) (begin : Run) → begin.stream.reader.held ≡ [] → begin.stream.reader.next ≡ 1 → begin.stream.reader.taken ≤ input_limit → HasMapped result begin begin
has_mapped-begin begins result begin held next within = record { lines = []; read = begins begin.stream held next; writes = writes_none result begin; within = within }

pub has_mapped-more : RunsGoOn → (result : Line → LineOut) (begin now after : Run) (batch : List Line) → HasMapped result begin now → MapsBatch result now after batch → HasMapped result begin after
has_mapped-more goes result begin now after batch so one = record {
  lines = so.lines ++ batch;
  read = goes begin.stream now.stream after.stream so.lines batch so.read one.read;
  writes = writes_both result begin now after so.lines batch so.writes one.writes;
  within = one.within;
}

-- ---- a measure: the bytes that may still be taken, and those that are held

none_of : (moments : List ℤ) → lines_at moments [] ≡ []
none_of [] = refl
none_of (m ∷ moments) = refl

front_read : (n : ℕ) (moments : List ℤ) (front : List ℕ) (batch : List Line) → batch ≡ lines_at moments (event_lines_from n front) → (batch ≡ [] → ⊥) → 0 < length front
front_read n moments [] batch is some = absurd (some (is ∙ none_of moments))
front_read n moments (b ∷ front) batch is some = omega arith

pub fewer : (before after : Stream) (batch : List Line) → ReadsBatch before after batch → (batch ≡ [] → ⊥) → after.reader.taken ≤ input_limit
    → (input_limit + length after.reader.held) - after.reader.taken < (input_limit + length before.reader.held) - before.reader.taken
fewer before after batch read some within =
    let front = front_read before.reader.next read.moments read.front batch read.batch_is some in
    let lengths : length before.reader.held + length read.bytes ≡ length read.front + length after.reader.held = sym (length-append before.reader.held read.bytes) ∙ ap length read.divides ∙ length-append read.front after.reader.held in
    omega (arith, front, lengths, read.takes.counted_too, within)

-- ---- fronts

pub front_of_all : (old new : Option (List ℕ)) (bytes : List ℕ) → Appends old new bytes → AppendsFront old new bytes
front_of_all old new bytes is = (bytes, [], sym (append-nil bytes), is)

pub front_behind : (old middle new : Option (List ℕ)) (first second : List ℕ) → Appends old middle first → AppendsFront middle new second → AppendsFront old new (first ++ second)
front_behind old middle new first second one two = (first ++ two.0, two.1, ap (λ x. first ++ x) two.2 ∙ sym (append_assoc first two.0 two.1), appends_both old middle new first two.0 one two.3)
