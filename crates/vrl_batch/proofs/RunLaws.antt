-- What a reader has read over any number of calls.
use Rattle.std.proofs.Common.{◌≡◌, ℕ, ◌+◌, ◌≤◌, ◌⊎◌, inl, inr, ℤ, List, [], ◌∷◌, ◌++◌, length, Option, Some, None, option_map, IfSome, true, true≢false, refl, sym, ap, ◌∙◌, append_assoc, subst, arith}
use Rattle.std.proofs.lemmas.List.{append-nil, length-append}
use Rattle.vrl_batch.proofs.Asks.{asks-behind, asks-none}
use Rattle.vrl_batch.proofs.Joined.{ended-append, ended-fewer, events-append, events-fewer, lines-append, whole-append}
use Rattle.vrl_batch.proofs.Told.{lines_at-append, lines_at-length, moved-both, tells-append, tells-none, timed}
use Rattle.vrl_batch.proofs.Whole.{whole-first, whole-none}
use Rattle.vrl_batch.specs.Batches.{is_whole, lines_in_whole}
use Rattle.vrl_batch.specs.Lines.{AreWholeLines, ended_of, event_lines, event_lines_from, lines_of}
use Rattle.vrl_batch.specs.Moments.{MovesAtMost, MovesOn, Tells, lines_at}
use Rattle.vrl_batch.specs.Reads.{AsksAtMost, HasEnded, ReadsBatch, StopsAt, StopsReading, Stream, Takes}
use Rattle.vrl_batch.specs.Runs.{AreWholeBatches, HasAskedAtMost, HasRead, HasReadAll, HasReadFront, HasReadWhole, BatchesEnd, RunsBegin, RunsEnd, RunsAskAtMost, RunsFront, RunsGoOn, RunsStop}
use Rattle.vrl_batch.specs.declared.fault.BatchFault.{BatchFault}
use Rattle.vrl_batch.specs.declared.fault.BatchFault.TheVariants.{ReadFault, TooMuch, Memory}
use Rattle.vrl_batch.specs.declared.line.Line.{Line}

-- ---- bytes taken

pub left-append : (first second : List ℕ) (left middle after : Option (List ℕ)) → left ≡ option_map (λ rest. first ++ rest) middle → middle ≡ option_map (λ rest. second ++ rest) after → left ≡ option_map (λ rest. (first ++ second) ++ rest) after
left-append first second left middle None one two = one ∙ ap (option_map (λ rest. first ++ rest)) two
left-append first second left middle (Some rest) one two = one ∙ ap (option_map (λ rest. first ++ rest)) two ∙ ap Some (sym (append_assoc first second rest))

takes-append : (first second : List ℕ) (before middle after : Stream) → Takes first before middle → Takes second middle after → Takes (first ++ second) before after
takes-append first second before middle after one two = record {
  is_left = left-append first second _ _ _ one.is_left two.is_left;
  counted = omega (arith, one.counted, two.counted, length-append first second);
  counted_too = omega (arith, one.counted_too, two.counted_too, length-append first second);
}

pub left_none : (left : Option (List ℕ)) → left ≡ option_map (λ rest. [] ++ rest) left
left_none None = refl
left_none (Some rest) = refl

-- ---- moments told

moved_so_far : (begin now : Stream) (lines : List Line) (so : HasRead begin now lines)
    → MovesOn begin.ahead (length (event_lines so.front)) now.ahead
moved_so_far begin now lines so = subst (λ n. MovesOn begin.ahead n now.ahead) so.one_each so.tells.moved

-- ---- the begin

pub begin_law : RunsBegin
begin_law begin held next = record {
  input = [];
  takes = record { is_left = left_none begin.left; counted = omega arith; counted_too = omega arith };
  front = [];
  divides = sym held;
  next_is = next;
  moments = [];
  one_each = refl;
  tells = tells-none begin.ahead;
  lines_are = refl;
  stands = inl (inl refl, λ rest. refl);
}

-- ---- one batch more

module _ (begin now after : Stream) (lines batch : List Line) (so : HasRead begin now lines) (reads : ReadsBatch now after batch) where
  abbrev events : List (ℕ × List ℕ)
  events = event_lines so.front

  abbrev more : List (ℕ × List ℕ)
  more = event_lines_from now.reader.next reads.front

  events_are : AreWholeLines so.front → event_lines (so.front ++ reads.front) ≡ events ++ more
  events_are whole = events-append 1 so.front reads.front whole ∙ ap (λ n. events ++ event_lines_from n reads.front) (sym so.next_is)

  divided : so.input ++ reads.bytes ≡ (so.front ++ reads.front) ++ after.reader.held
  divided =
      ap (λ x. x ++ reads.bytes) so.divides
      ∙ append_assoc so.front now.reader.held reads.bytes
      ∙ ap (λ x. so.front ++ x) reads.divides
      ∙ sym (append_assoc so.front reads.front after.reader.held)

  next_after : AreWholeLines so.front → after.reader.next ≡ 1 + length (lines_of (so.front ++ reads.front))
  next_after whole =
      let both = lines-append so.front reads.front whole in
      let counted = length-append (lines_of so.front) (lines_of reads.front) in
      let step = reads.next_is ∙ ap (λ n. n + length (lines_of reads.front)) so.next_is in
      step ∙ omega (arith, counted) ∙ ap (λ x. 1 + length x) (sym both)

  one_more : AreWholeLines so.front → AreWholeBatches (so.front ++ reads.front) ⊎ HasEnded after → HasRead begin after (lines ++ batch)
  one_more whole stands = record {
    input = so.input ++ reads.bytes;
    takes = takes-append so.input reads.bytes begin now after so.takes reads.takes;
    front = so.front ++ reads.front;
    divides = divided;
    next_is = next_after whole;
    moments = so.moments ++ reads.moments;
    one_each = length-append so.moments reads.moments ∙ omega (arith, so.one_each, reads.one_each, length-append events more) ∙ ap length (sym (events_are whole));
    tells = tells-append begin.ahead now.ahead after.ahead so.moments reads.moments so.tells reads.tells;
    lines_are = ap (λ x. x ++ batch) so.lines_are ∙ ap (λ x. lines_at so.moments events ++ x) reads.batch_is ∙ sym (lines_at-append so.moments reads.moments events more so.one_each) ∙ ap (lines_at (so.moments ++ reads.moments)) (sym (events_are whole));
    stands = stands;
  }

  still_whole : AreWholeBatches so.front → is_whole more ≡ true → AreWholeLines reads.front → AreWholeBatches (so.front ++ reads.front)
  still_whole (whole, follow) full ended = (
    whole-append so.front reads.front whole ended,
    λ rest.
        let are = events_are whole in
        ap (λ x. lines_in_whole (x ++ rest)) are
        ∙ ap lines_in_whole (append_assoc events more rest)
        ∙ follow (more ++ rest)
        ∙ ap (λ x. events ++ x) (whole-first more rest reads.at_most full)
        ∙ sym (append_assoc events more (lines_in_whole rest))
        ∙ ap (λ x. x ++ lines_in_whole rest) (sym are),
  )

  behind_whole : AreWholeBatches so.front → ((is_whole more ≡ true) × AreWholeLines reads.front) ⊎ HasEnded after → HasRead begin after (lines ++ batch)
  behind_whole whole (inl (full, ended)) = one_more whole.0 (inl (still_whole whole full ended))
  behind_whole whole (inr ended) = one_more whole.0 (inr ended)

-- nothing is a front of nothing
no_front : {X : Type 0} (front rest : List X) → [] ≡ front ++ rest → (front ≡ []) × (rest ≡ [])
no_front [] rest is = (refl, sym is)
no_front (x ∷ front) rest is = absurd (no_nil is) where
  no_nil : [] ≡ x ∷ (front ++ rest) → ⊥
  no_nil e = cc

no_moments : (ms : List ℤ) → length ms ≡ 0 → ms ≡ []
no_moments [] none = refl
no_moments (m ∷ ms) none = absurd (omega (arith, none))

module _ (begin now after : Stream) (lines batch : List Line) (so : HasRead begin now lines) (reads : ReadsBatch now after batch) (ended : HasEnded now) where
  nothing : (reads.front ≡ []) × (after.reader.held ≡ [])
  nothing = no_front reads.front after.reader.held (sym (ap (λ x. x ++ reads.bytes) ended.none_held ∙ reads.past_end ended.ended) ∙ reads.divides)

  no_more : event_lines_from now.reader.next reads.front ≡ []
  no_more = ap (event_lines_from now.reader.next) nothing.0

  none_told : reads.moments ≡ []
  none_told = no_moments reads.moments (reads.one_each ∙ ap length no_more)

  no_batch : batch ≡ []
  no_batch = reads.batch_is ∙ ap (λ ms. lines_at ms (event_lines_from now.reader.next reads.front)) none_told

  ended_after : ((is_whole (event_lines_from now.reader.next reads.front) ≡ true) × AreWholeLines reads.front) ⊎ HasEnded after → HasEnded after
  ended_after (inl (full, whole)) = absurd (true≢false (sym full ∙ ap is_whole no_more))
  ended_after (inr is) = is

  behind_end : HasRead begin after (lines ++ batch)
  behind_end = record {
    input = so.input ++ reads.bytes;
    takes = takes-append so.input reads.bytes begin now after so.takes reads.takes;
    front = so.front;
    divides =
        ap (λ x. so.input ++ x) (reads.past_end ended.ended)
        ∙ append-nil so.input
        ∙ so.divides
        ∙ ap (λ x. so.front ++ x) (ended.none_held ∙ sym nothing.1);
    next_is = reads.next_is ∙ ap (λ x. now.reader.next + length (lines_of x)) nothing.0 ∙ omega (arith, so.next_is);
    moments = so.moments;
    one_each = so.one_each;
    tells = subst (λ ms. Tells begin.ahead ms after.ahead) (ap (λ x. so.moments ++ x) none_told ∙ append-nil so.moments) (tells-append begin.ahead now.ahead after.ahead so.moments reads.moments so.tells reads.tells);
    lines_are = ap (λ x. lines ++ x) no_batch ∙ append-nil lines ∙ so.lines_are;
    stands = inr (ended_after reads.stops);
  }

go_on_at : (begin now after : Stream) (lines batch : List Line) (so : HasRead begin now lines) → ReadsBatch now after batch → AreWholeBatches so.front ⊎ HasEnded now → HasRead begin after (lines ++ batch)
go_on_at begin now after lines batch so reads (inl whole) = behind_whole begin now after lines batch so reads whole reads.stops
go_on_at begin now after lines batch so reads (inr ended) = behind_end begin now after lines batch so reads ended

pub go_on_law : RunsGoOn
go_on_law begin now after lines batch so reads = go_on_at begin now after lines batch so reads so.stands

-- ---- the end

no_lines : (ms : List ℤ) (es : List (ℕ × List ℕ)) → length ms ≡ length es → [] ≡ lines_at ms es → es ≡ []
no_lines ms [] same none = refl
no_lines ms (e ∷ es) same none = absurd (omega (arith, lines_at-length ms (e ∷ es) same, ap length none))

all_left : (left after : Option (List ℕ)) (input : List ℕ) → left ≡ option_map (λ rest. input ++ rest) after → IfSome after (λ rest. rest ≡ []) → IfSome left (λ told. told ≡ input)
all_left None after input is none = tt
all_left (Some told) None input is none = absurd (no_some is) where
  no_some : Some told ≡ None → ⊥
  no_some e = cc
all_left (Some told) (Some rest) input is none = some_is is ∙ ap (λ x. input ++ x) none ∙ append-nil input where
  some_is : Some told ≡ Some (input ++ rest) → told ≡ input ++ rest
  some_is e = cc

ends_at : (now after : Stream) (batch : List Line) (reads : ReadsBatch now after batch) → batch ≡ [] → ((is_whole (event_lines_from now.reader.next reads.front) ≡ true) × AreWholeLines reads.front) ⊎ HasEnded after → HasEnded after
ends_at now after batch reads none (inl (full, whole)) = absurd (true≢false (sym full ∙ ap is_whole (no_lines reads.moments _ reads.one_each (sym none ∙ reads.batch_is))))
ends_at now after batch reads none (inr is) = is

-- an empty batch comes at the end alone
pub empty_at_end : (now after : Stream) (batch : List Line) → ReadsBatch now after batch → batch ≡ [] → HasEnded after
empty_at_end now after batch reads none = ends_at now after batch reads none reads.stops

module _ (begin now after : Stream) (lines : List Line) (so : HasRead begin now lines) (reads : ReadsBatch now after []) where
  all_read : HasRead begin after (lines ++ []) → HasEnded after → HasReadAll begin after lines
  all_read all ended =
      let input_is = all.divides ∙ ap (λ x. all.front ++ x) ended.none_held ∙ append-nil all.front in
      let one_each = all.one_each ∙ ap (λ x. length (event_lines x)) (sym input_is) in
      let lines_are = sym (append-nil lines) ∙ all.lines_are ∙ ap (λ x. lines_at all.moments (event_lines x)) (sym input_is) in
      let at = timed all.moments (event_lines all.input) lines one_each lines_are all.tells.in_range begin all.tells.told in
      record {
        input = all.input;
        is_left = all_left begin.left after.left all.input all.takes.is_left ended.none_left;
        takes = all.takes;
        moments = at.0;
        timed = at.1;
        moved = subst (λ n. MovesOn begin.ahead n after.ahead) one_each all.tells.moved;
      }

pub end_law : RunsEnd
end_law begin now after lines so reads = all_read begin now after lines so reads (go_on_law begin now after lines [] so reads) (empty_at_end now after [] reads refl)

-- ---- a fault of the source, or the limit

module _ (more : ℕ) (begin now after : Stream) (lines : List Line) (so : HasRead begin now lines) (stops : StopsReading more now after) where
  -- the lines that have ended behind those that were read
  abbrev later : List (ℕ × List ℕ)
  later = event_lines_from now.reader.next (ended_of (now.reader.held ++ stops.bytes))

  ended_events : AreWholeLines so.front
      → event_lines (ended_of (so.input ++ stops.bytes)) ≡ event_lines so.front ++ later
  ended_events whole =
      let behind = ended_of (now.reader.held ++ stops.bytes) in
      ap (λ x. event_lines (ended_of x)) (ap (λ x. x ++ stops.bytes) so.divides ∙ append_assoc so.front now.reader.held stops.bytes)
      ∙ ap event_lines (ended-append so.front (now.reader.held ++ stops.bytes) whole)
      ∙ events-append 1 so.front behind whole
      ∙ ap (λ n. event_lines so.front ++ event_lines_from n behind) (sym so.next_is)

  whole_run : AreWholeBatches so.front → lines_in_whole (event_lines (ended_of (so.input ++ stops.bytes))) ≡ event_lines so.front
  whole_run (whole, follow) =
      ap lines_in_whole (ended_events whole)
      ∙ follow later
      ∙ ap (λ x. event_lines so.front ++ x) (whole-none later stops.not_whole)
      ∙ append-nil (event_lines so.front)

  moved : AreWholeLines so.front
      → MovesOn begin.ahead (length (event_lines (ended_of (so.input ++ stops.bytes)))) after.ahead
  moved whole =
      subst (λ n. MovesOn begin.ahead n after.ahead) (sym (ap length (ended_events whole) ∙ length-append (event_lines so.front) later))
      (moved-both begin.ahead now.ahead after.ahead (length (event_lines so.front)) (length later) (moved_so_far begin now lines so) stops.moved)

  stop_at : AreWholeBatches so.front ⊎ HasEnded now → HasReadWhole more begin after lines
  stop_at (inl whole) =
      let run_is = whole_run whole in
      let at = timed so.moments (lines_in_whole (event_lines (ended_of (so.input ++ stops.bytes)))) lines (so.one_each ∙ ap length (sym run_is)) (so.lines_are ∙ ap (lines_at so.moments) (sym run_is)) so.tells.in_range begin so.tells.told in
      record {
        input = so.input ++ stops.bytes;
        behind = stops.behind;
        takes = subst (λ x. Takes x begin after) (sym (append_assoc so.input stops.bytes stops.behind)) (takes-append so.input (stops.bytes ++ stops.behind) begin now after so.takes stops.takes);
        more_is = stops.more_is;
        moments = at.0;
        timed = at.1;
        moved = moved whole.0;
      }
  stop_at (inr ended) = absurd (stops.not_ended ended.ended)

pub stop_law : RunsStop
stop_law more begin now after lines so stops = stop_at more begin now after lines so stops so.stands

-- ---- at any time

begins_with : (front later : List ℕ) → AreWholeLines front ⊎ (later ≡ []) → (rest : List (ℕ × List ℕ)) × (event_lines (front ++ later) ≡ event_lines front ++ rest)
begins_with front later (inl whole) = (event_lines_from (1 + length (lines_of front)) later, events-append 1 front later whole)
begins_with front later (inr none) = ([], ap (λ x. event_lines (front ++ x)) none ∙ ap event_lines (append-nil front) ∙ sym (append-nil (event_lines front)))

module _ (begin now : Stream) (lines : List Line) (so : HasRead begin now lines) where
  no_more_held : (rest : List ℕ) → (HasEnded now → rest ≡ []) → AreWholeBatches so.front ⊎ HasEnded now → AreWholeLines so.front ⊎ (now.reader.held ++ rest ≡ [])
  no_more_held rest none (inl whole) = inl whole.0
  no_more_held rest none (inr ended) = inr (ap (λ x. x ++ rest) ended.none_held ∙ none ended)

  front_of : (input rest : List ℕ) → IfSome begin.left (λ left. left ≡ input) → input ≡ so.input ++ rest → (HasEnded now → rest ≡ []) → HasReadFront begin lines
  front_of input rest is_left is none =
      let divides = is ∙ ap (λ x. x ++ rest) so.divides ∙ append_assoc so.front now.reader.held rest in
      let begins = begins_with so.front (now.reader.held ++ rest) (no_more_held rest none so.stands) in
      let at = timed so.moments (event_lines so.front) lines so.one_each so.lines_are so.tells.in_range begin so.tells.told in
      record {
        input = input;
        is_left = is_left;
        run = event_lines so.front;
        rest = begins.0;
        begins = ap event_lines divides ∙ begins.1;
        moments = at.0;
        timed = at.1;
      }

  front_if : (left left_now : Option (List ℕ)) → begin.left ≡ left → now.left ≡ left_now → HasReadFront begin lines
  front_if None left_now is is_now = front_of so.input [] (rw is tt) (sym (append-nil so.input)) (λ ended. refl)
  front_if (Some told) None is is_now = absurd (no_some (sym is ∙ so.takes.is_left ∙ ap (option_map (λ rest. so.input ++ rest)) is_now)) where
    no_some : Some told ≡ None → ⊥
    no_some e = cc
  front_if (Some told) (Some rest) is is_now =
      front_of told rest (rw is refl)
      (some_is (sym is ∙ so.takes.is_left ∙ ap (option_map (λ x. so.input ++ x)) is_now))
      (λ ended. subst (λ left. IfSome left (λ x. x ≡ [])) is_now ended.none_left)
    where
      some_is : Some told ≡ Some (so.input ++ rest) → told ≡ so.input ++ rest
      some_is e = cc

pub front_law : RunsFront
front_law begin now lines so = front_if begin now lines so begin.left now.left refl refl

-- ---- an empty batch

module _ (before after : Stream) (batch : List Line) (reads : ReadsBatch before after batch) where
  abbrev held_and_taken : List (ℕ × List ℕ)
  held_and_taken = event_lines_from before.reader.next (before.reader.held ++ reads.bytes)

  all_at_end : HasEnded after → held_and_taken ≡ event_lines_from before.reader.next reads.front
  all_at_end ended = ap (event_lines_from before.reader.next) (reads.divides ∙ ap (λ x. reads.front ++ x) ended.none_held ∙ append-nil reads.front)

  none_read : held_and_taken ≡ [] → ((is_whole (event_lines_from before.reader.next reads.front) ≡ true) × AreWholeLines reads.front) ⊎ HasEnded after → event_lines_from before.reader.next reads.front ≡ []
  none_read none (inl (full, whole)) =
      (no_front (event_lines_from before.reader.next reads.front) _ (sym none ∙ ap (event_lines_from before.reader.next) reads.divides ∙ events-append before.reader.next reads.front after.reader.held whole)).0
  none_read none (inr ended) = sym (all_at_end ended) ∙ none

  none_batch : event_lines_from before.reader.next reads.front ≡ [] → batch ≡ []
  none_batch none = reads.batch_is ∙ ap (λ ms. lines_at ms (event_lines_from before.reader.next reads.front)) (no_moments reads.moments (reads.one_each ∙ ap length none))

pub batches_end_law : BatchesEnd
batches_end_law before after batch reads = (
  λ none.
      let ended = empty_at_end before after batch reads none in
      (ended.ended, all_at_end before after batch reads ended ∙ no_lines reads.moments _ reads.one_each (sym none ∙ reads.batch_is)),
  λ at. none_batch before after batch reads (none_read before after batch reads at.1 reads.stops),
)

-- ---- for how many moments the clock is asked

module _ (before after : Stream) (batch : List Line) (reads : ReadsBatch before after batch) where
  few_told : ((is_whole (event_lines_from before.reader.next reads.front) ≡ true) × AreWholeLines reads.front) ⊎ HasEnded after
      → length (event_lines_from before.reader.next reads.front) ≤ length (event_lines_from before.reader.next (before.reader.held ++ reads.bytes))
  few_told (inl (full, whole)) =
      subst (λ x. length (event_lines_from before.reader.next reads.front) ≤ length (event_lines_from before.reader.next x)) (sym reads.divides)
      (events-fewer before.reader.next reads.front after.reader.held whole)
  few_told (inr ended) = omega (arith, ap length (all_at_end before after batch reads ended))

  -- where a batch was read
  pub reads_ask : AsksAtMost before after
  reads_ask = record {
    bytes = reads.bytes;
    takes = reads.takes;
    clock = (
      length (event_lines_from before.reader.next reads.front),
      few_told reads.stops,
      subst (λ n. MovesOn before.ahead n after.ahead) reads.one_each reads.tells.moved,
    );
    past_end = reads.past_end;
  }

stops_ask : (more : ℕ) (before after : Stream) → StopsReading more before after → AsksAtMost before after
stops_ask more before after stops = record {
  bytes = stops.bytes ++ stops.behind;
  takes = stops.takes;
  clock = (
    length (event_lines_from before.reader.next (ended_of (before.reader.held ++ stops.bytes))),
    subst (λ x. length (event_lines_from before.reader.next (ended_of (before.reader.held ++ stops.bytes))) ≤ length (event_lines_from before.reader.next x))
        (append_assoc before.reader.held stops.bytes stops.behind) (ended-fewer before.reader.next (before.reader.held ++ stops.bytes) stops.behind),
    stops.moved,
  );
  past_end = λ is. absurd (stops.not_ended is);
}

-- where it was not
pub stopped_ask : (before after : Stream) (fault : BatchFault) → StopsAt before after fault → AsksAtMost before after
stopped_ask before after ReadFault stops = stops_ask 0 before after stops.0
stopped_ask before after TooMuch stops = stops_ask 1 before after stops.0
stopped_ask before after Memory stops = stops.0

-- where nothing was done
pub still_asks : (now : Stream) → AsksAtMost now now
still_asks now = record {
  bytes = [];
  takes = record { is_left = left_none now.left; counted = omega arith; counted_too = omega arith };
  clock = asks-none now.ahead _;
  past_end = λ is. refl;
}

module _ (begin now after : Stream) (lines : List Line) (so : HasRead begin now lines) (asks : AsksAtMost now after) where
  all_are : so.input ++ asks.bytes ≡ so.front ++ (now.reader.held ++ asks.bytes)
  all_are = ap (λ x. x ++ asks.bytes) so.divides ∙ append_assoc so.front now.reader.held asks.bytes

  asked_at : AreWholeBatches so.front ⊎ HasEnded now
      → MovesAtMost begin.ahead (length (event_lines (so.input ++ asks.bytes))) after.ahead
  asked_at (inl whole) =
      let behind = now.reader.held ++ asks.bytes in
      let events = ap event_lines all_are ∙ events-append 1 so.front behind whole.0 ∙ ap (λ n. event_lines so.front ++ event_lines_from n behind) (sym so.next_is) in
      subst (λ n. MovesAtMost begin.ahead n after.ahead) (sym (ap length events ∙ length-append (event_lines so.front) (event_lines_from now.reader.next behind)))
      (asks-behind begin.ahead now.ahead after.ahead (length (event_lines so.front)) (length (event_lines_from now.reader.next behind)) (moved_so_far begin now lines so) asks.clock)
  asked_at (inr ended) =
      let none : now.reader.held ++ asks.bytes ≡ [] = ap (λ x. x ++ asks.bytes) ended.none_held ∙ asks.past_end ended.ended in
      let few : asks.clock.0 ≤ 0 = subst (λ x. asks.clock.0 ≤ length (event_lines_from now.reader.next x)) none asks.clock.1 in
      subst (λ x. MovesAtMost begin.ahead (length (event_lines x)) after.ahead) (sym (all_are ∙ ap (λ x. so.front ++ x) none ∙ append-nil so.front))
      (length (event_lines so.front) + asks.clock.0, omega (arith, few), moved-both begin.ahead now.ahead after.ahead _ _ (moved_so_far begin now lines so) asks.clock.2)

  asked : HasAskedAtMost begin after
  asked = record {
    input = so.input ++ asks.bytes;
    takes = takes-append so.input asks.bytes begin now after so.takes asks.takes;
    clock = asked_at so.stands;
  }

pub ask_law : RunsAskAtMost
ask_law begin now after lines so asks = asked begin now after lines so asks
