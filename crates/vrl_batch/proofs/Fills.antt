-- A batch that is filled from takes.
use Rattle.std.proofs.Common.{◌≡◌, ◌+◌, ◌≤◌, inl, inr, ℕ, suc, ℤ, List, [], ◌∷◌, ◌++◌, length, Bool, true, false, ◌==◌, if◌then◌else◌, IsTrue, Option, option_map, IfSome, refl, sym, ap, ◌∙◌, append_assoc, subst, arith}
use Rattle.std.proofs.lemmas.List.{append-nil, length-append}
use Rattle.std.specs.List.{onto_first}
use Rattle.vrl_batch.proofs.Begins.{filled-is}
use Rattle.vrl_batch.proofs.Joined.{ended-append, ended-unbroken}
use Rattle.vrl_batch.proofs.RunLaws.{left-append, left_none}
use Rattle.vrl_batch.specs.Batches.{is_whole}
use Rattle.vrl_batch.specs.Begun.{DividesAt, HoldsLines, IsBegun, is_filled}
use Rattle.vrl_batch.specs.Limits.{input_limit}
use Rattle.vrl_batch.specs.Lines.{ended_of, event_lines_from, lines_of}
use Rattle.vrl_batch.specs.Moments.{MovesAtMost, MovesOn}
use Rattle.vrl_batch.specs.Pieces.{MissesPiece, PieceHeld, TakesPiece, held_by}
use Rattle.vrl_batch.specs.Reads.{IsNeeded, ReadsBatch, StopsAt, Stream, Takes, stream}
use Rattle.vrl_batch.specs.declared.begun.Begun.{Begun}
use Rattle.vrl_batch.specs.declared.line.Line.{Line}
use Rattle.vrl_batch.specs.declared.fault.BatchFault.{BatchFault}
use Rattle.vrl_batch.specs.declared.fault.BatchFault.TheVariants.{ReadFault, TooMuch, Memory}

-- the bytes that were held, and those taken since, are the lines of the batch, the begin of the next one, and what is left
pub record Fills (before : Stream) (piece : PieceHeld) (begun : Begun) (left : Option (List ℕ)) (taken : ℕ) (ended : Bool) (ahead : Option (ℕ → ℤ)) : Type 0 where
  pub bytes : List ℕ
  pub is_left : before.left ≡ option_map (λ rest. bytes ++ rest) left
  pub counted : taken ≡ before.taken + length bytes
  pub counted_too : piece.taken ≡ before.reader.taken + length bytes
  pub front : List ℕ
  pub part : List ℕ
  pub divides : before.reader.held ++ bytes ≡ front ++ (part ++ piece.rest)
  pub is_begun : IsBegun before.reader.next before.ahead front part begun ahead
  pub all : is_filled begun ≡ false → piece.rest ≡ []
  pub needed : IsNeeded before.reader.next before.reader.held bytes
  pub past_end : IsTrue before.ended → (bytes ≡ []) × IsTrue ended
  pub room : begun.number + length piece.rest ≤ piece.taken
  pub within : piece.taken ≤ input_limit

pub fills-start : (piece piece_after : PieceHeld) (begun begun_after : Begun) (left : Option (List ℕ)) (taken : ℕ) (ended : Bool) (ahead ahead_after : Option (ℕ → ℤ)) → piece_after.taken ≡ piece.taken
    → DividesAt (begun.number + 1) ahead piece.rest piece_after.rest begun_after ahead_after → (is_filled begun_after ≡ false → piece_after.rest ≡ []) → begun_after.number + length piece_after.rest ≤ piece_after.taken → piece_after.taken ≤ input_limit
    → Fills (stream (held_by piece begun.number) left taken ended ahead) piece_after begun_after left taken ended ahead_after
fills-start piece piece_after begun begun_after left taken ended ahead ahead_after same at all room within = record {
  bytes = [];
  is_left = left_none left;
  counted = omega arith;
  counted_too = omega (arith, same);
  front = at.front;
  part = at.part;
  divides = append-nil piece.rest ∙ at.divides;
  is_begun = at.is_begun;
  all = all;
  needed = inl refl;
  past_end = λ is. (refl, is);
  room = room;
  within = within;
}

no_length : (xs : List ℕ) → length xs ≡ 0 → xs ≡ []
no_length [] empty = refl
no_length (x ∷ xs) empty = absurd (omega (arith, empty))

module _ (before : Stream) (piece : PieceHeld) (begun : Begun) (left : Option (List ℕ)) (taken : ℕ) (ended : Bool) (ahead : Option (ℕ → ℤ)) (fills : Fills before piece begun left taken ended ahead) (unfilled : is_filled begun ≡ false) where
  held_are : before.reader.held ++ fills.bytes ≡ fills.front ++ fills.part
  held_are = fills.divides ∙ ap (λ x. fills.front ++ (fills.part ++ x)) (fills.all unfilled) ∙ ap (λ x. fills.front ++ x) (append-nil fills.part)

  ended_are : ended_of (before.reader.held ++ fills.bytes) ≡ fills.front
  ended_are =
      ap ended_of held_are
      ∙ ended-append fills.front fills.part fills.is_begun.ended
      ∙ ap (λ x. fills.front ++ x) (ended-unbroken fills.part fills.is_begun.unbroken)
      ∙ append-nil fills.front

  not_whole : is_whole (event_lines_from before.reader.next (ended_of (before.reader.held ++ fills.bytes))) ≡ false
  not_whole =
      ap (λ x. is_whole (event_lines_from before.reader.next x)) ended_are
      ∙ sym (filled-is before.reader.next before.ahead ahead fills.front begun fills.is_begun.holds)
      ∙ unfilled

  moved : MovesOn before.ahead (length (event_lines_from before.reader.next (ended_of (before.reader.held ++ fills.bytes)))) ahead
  moved = subst (λ n. MovesOn before.ahead n ahead) (fills.is_begun.holds.one_each ∙ ap (λ x. length (event_lines_from before.reader.next x)) (sym ended_are)) fills.is_begun.holds.tells.moved

  -- ---- a take that gave bytes

  module _ (piece_taken : PieceHeld) (left_after : Option (List ℕ)) (taken_after count : ℕ) (takes : TakesPiece piece piece_taken left left_after taken taken_after count) where
    both_left : before.left ≡ option_map (λ rest. (fills.bytes ++ piece_taken.rest) ++ rest) left_after
    both_left = left-append fills.bytes piece_taken.rest before.left left left_after fills.is_left takes.is_front

    both_counted : taken_after ≡ before.taken + length (fills.bytes ++ piece_taken.rest)
    both_counted = omega (arith, takes.counted, fills.counted, takes.length_is, length-append fills.bytes piece_taken.rest)

    both_counted_too : piece_taken.taken ≡ before.reader.taken + length (fills.bytes ++ piece_taken.rest)
    both_counted_too = omega (arith, takes.counted_too, fills.counted_too, takes.length_is, length-append fills.bytes piece_taken.rest)

    more_held : before.reader.held ++ (fills.bytes ++ piece_taken.rest) ≡ fills.front ++
        (fills.part ++ piece_taken.rest)
    more_held =
        sym (append_assoc before.reader.held fills.bytes piece_taken.rest)
        ∙ ap (λ x. x ++ piece_taken.rest) held_are
        ∙ append_assoc fills.front fills.part piece_taken.rest

    -- lines of them were added
    pub fills-more : (piece_after : PieceHeld) (begun_after : Begun) (ended_after : Bool) (ahead_after : Option (ℕ → ℤ)) → ¬ IsTrue ended → piece_after.taken ≡ piece_taken.taken
        → ((front part : List ℕ) → IsBegun before.reader.next before.ahead front part begun ahead → DividesAt before.reader.next before.ahead (front ++ (part ++ piece_taken.rest)) piece_after.rest begun_after ahead_after)
        → (is_filled begun_after ≡ false → piece_after.rest ≡ []) → begun_after.number + length piece_after.rest ≤ piece_after.taken
        → Fills before piece_after begun_after left_after taken_after ended_after ahead_after
    fills-more piece_after begun_after ended_after ahead_after unended same step all room =
        let at = step fills.front fills.part fills.is_begun in
        record {
          bytes = fills.bytes ++ piece_taken.rest;
          is_left = both_left;
          counted = both_counted;
          counted_too = same ∙ both_counted_too;
          front = at.front;
          part = at.part;
          divides = more_held ∙ at.divides;
          is_begun = at.is_begun;
          all = all;
          needed = inr (fills.bytes, piece_taken.rest, refl, omega (arith, takes.most, takes.length_is), not_whole);
          past_end = λ is. absurd (unended (fills.past_end is).1);
          room = room;
          within = omega (arith, same, takes.within);
        }

    -- out of memory while they are added
    pub fills-wanting : (piece_after : PieceHeld) (number : ℕ) (ended_after : Bool) (ahead_after : Option (ℕ → ℤ))
        → piece_after.taken ≡ piece_taken.taken → (IsTrue ended → count ≡ 0)
        → MovesAtMost before.ahead (length (event_lines_from before.reader.next (fills.front ++ (fills.part ++ piece_taken.rest)))) ahead_after
        → StopsAt before (stream (held_by piece_after number) left_after taken_after ended_after ahead_after) Memory
    fills-wanting piece_after number ended_after ahead_after same none asks = (
      record {
        bytes = fills.bytes ++ piece_taken.rest;
        takes = record { is_left = both_left; counted = both_counted; counted_too = same ∙ both_counted_too };
        clock = subst (λ x. MovesAtMost before.ahead (length (event_lines_from before.reader.next x)) ahead_after) (sym more_held) asks;
        past_end = λ is.
            let past = fills.past_end is in
            ap (λ x. x ++ piece_taken.rest) past.0 ∙ no_length piece_taken.rest (takes.length_is ∙ none past.1);
      },
      omega (arith, same, takes.within),
    )

    -- or once the source has ended
    pub fills-wanting-end : (number : ℕ) (ended_after : Bool) (ahead_after : Option (ℕ → ℤ)) → count ≡ 0
        → MovesAtMost before.ahead (length (event_lines_from before.reader.next (fills.front ++ fills.part))) ahead_after
        → StopsAt before (stream (held_by piece_taken number) left_after taken_after ended_after ahead_after) Memory
    fills-wanting-end number ended_after ahead_after none asks =
        let no_rest = no_length piece_taken.rest (takes.length_is ∙ none) in
        let same = ap (λ x. fills.front ++ x) (sym (append-nil fills.part) ∙ ap (λ x. fills.part ++ x) (sym no_rest)) in
        fills-wanting piece_taken number ended_after ahead_after refl (λ is. none)
        (subst (λ x. MovesAtMost before.ahead (length (event_lines_from before.reader.next x)) ahead_after) same asks)

    -- the end of the input
    pub fills-end : (begun_after : Begun) (ended_after : Bool) (ahead_after : Option (ℕ → ℤ)) → count ≡ 0 → IsTrue ended_after → IfSome left_after (λ rest. rest ≡ [])
        → ((front part : List ℕ) → IsBegun before.reader.next before.ahead front part begun ahead → HoldsLines before.reader.next before.ahead (front ++ part) begun_after ahead_after)
        → ReadsBatch before (stream (held_by piece_taken begun_after.number) left_after taken_after ended_after ahead_after) begun_after.lines.items
    fills-end begun_after ended_after ahead_after none has_ended none_left step =
        let holds = step fills.front fills.part fills.is_begun in
        let no_rest = no_length piece_taken.rest (takes.length_is ∙ none) in
        let no_more = ap (λ x. fills.bytes ++ x) no_rest ∙ append-nil fills.bytes in
        record {
          bytes = fills.bytes;
          takes = subst (λ x. Takes x before (stream (held_by piece_taken begun_after.number) left_after taken_after ended_after ahead_after)) no_more
              (record { is_left = both_left; counted = both_counted; counted_too = both_counted_too });
          front = fills.front ++ fills.part;
          divides = held_are ∙ sym (append-nil (fills.front ++ fills.part)) ∙ ap (λ x. (fills.front ++ fills.part) ++ x) (sym no_rest);
          next_is = holds.number_is;
          moments = holds.moments;
          one_each = holds.one_each;
          tells = holds.tells;
          batch_is = holds.lines_are;
          at_most = holds.at_most;
          stops = inr (record { ended = has_ended; none_left = none_left; none_held = no_rest });
          needed = fills.needed;
          past_end = λ is. (fills.past_end is).0;
        }

  -- ---- a take that gave none

  pub fills-stop : (piece_after : PieceHeld) (left_after : Option (List ℕ)) (taken_after number : ℕ) (ended_after : Bool) (fault : BatchFault) → ¬ IsTrue ended → MissesPiece piece piece_after left left_after taken taken_after fault
      → StopsAt before (stream (held_by piece_after number) left_after taken_after ended_after ahead) fault
  fills-stop piece_after left_after taken_after number ended_after ReadFault unended (left_is, taken_is, same, none) = (
    record {
      bytes = fills.bytes;
      behind = [];
      takes = record {
        is_left = fills.is_left ∙ ap (option_map (λ rest. fills.bytes ++ rest)) (sym left_is) ∙ ap (λ x. option_map (λ rest. x ++ rest) left_after) (sym (append-nil fills.bytes));
        counted = omega (arith, taken_is, fills.counted, length-append fills.bytes []);
        counted_too = omega (arith, same, fills.counted_too, length-append fills.bytes []);
      };
      more_is = refl;
      not_whole = not_whole;
      moved = moved;
      none_held = none;
      not_ended = λ is. unended (fills.past_end is).1;
    },
    omega (arith, same, fills.within),
  )
  fills-stop piece_after left_after taken_after number ended_after TooMuch unended (byte, left_is, taken_is, at_limit, past, none) = (
    record {
      bytes = fills.bytes;
      behind = byte ∷ [];
      takes = record {
        is_left = left-append fills.bytes (byte ∷ []) before.left left left_after fills.is_left left_is;
        counted = omega (arith, taken_is, fills.counted, length-append fills.bytes (byte ∷ []));
        counted_too = omega (arith, at_limit, past, fills.counted_too, length-append fills.bytes (byte ∷ []));
      };
      more_is = refl;
      not_whole = not_whole;
      moved = moved;
      none_held = none;
      not_ended = λ is. unended (fills.past_end is).1;
    },
    past,
  )
  fills-stop piece_after left_after taken_after number ended_after Memory unended missed = absurd missed

-- ---- a whole batch

pub fills-whole : (before : Stream) (piece : PieceHeld) (begun : Begun) (left : Option (List ℕ)) (taken : ℕ) (ended : Bool) (ahead : Option (ℕ → ℤ)) → Fills before piece begun left taken ended ahead → is_filled begun ≡ true
    → ReadsBatch before (stream (held_by piece begun.number) left taken ended ahead) begun.lines.items
fills-whole before piece begun left taken ended ahead fills filled =
    let holds = fills.is_begun.holds in
    let whole = sym (filled-is before.reader.next before.ahead ahead fills.front begun holds) ∙ filled in
    record {
      bytes = fills.bytes;
      takes = record { is_left = fills.is_left; counted = fills.counted; counted_too = fills.counted_too };
      front = fills.front;
      divides = fills.divides ∙ ap (λ x. fills.front ++ (x ++ piece.rest)) (fills.is_begun.between whole);
      next_is = holds.number_is;
      moments = holds.moments;
      one_each = holds.one_each;
      tells = holds.tells;
      batch_is = holds.lines_are;
      at_most = holds.at_most;
      stops = inl (whole, fills.is_begun.ended);
      needed = fills.needed;
      past_end = λ is. (fills.past_end is).0;
    }

-- out of memory before any take
pub wanting-start : (piece piece_after : PieceHeld) (number number_after : ℕ) (left : Option (List ℕ)) (taken : ℕ) (ended : Bool) (ahead ahead_after : Option (ℕ → ℤ)) → piece_after.taken ≡ piece.taken → piece.taken ≤ input_limit
    → MovesAtMost ahead (length (event_lines_from (number + 1) piece.rest)) ahead_after
    → StopsAt (stream (held_by piece number) left taken ended ahead) (stream (held_by piece_after number_after) left taken ended ahead_after) Memory
wanting-start piece piece_after number number_after left taken ended ahead ahead_after same within asks = (
  record {
    bytes = [];
    takes = record { is_left = left_none left; counted = omega arith; counted_too = omega (arith, same) };
    clock = subst (λ x. MovesAtMost ahead (length (event_lines_from (number + 1) x)) ahead_after) (sym (append-nil piece.rest)) asks;
    past_end = λ is. refl;
  },
  omega (arith, same, within),
)

-- ---- numbers of lines

onto_first-count : (b : ℕ) (lines : List (List ℕ)) (most : ℕ) → length lines ≤ most → length (onto_first b lines) ≤ most + 1
onto_first-count b [] most few = omega arith
onto_first-count b (line ∷ lines) most few = omega (arith, few)

more_lines : (test : Bool) (b : ℕ) (lines : List (List ℕ)) (most : ℕ) → length lines ≤ most → length (if test then [] ∷ lines else onto_first b lines) ≤ suc most
more_lines true b lines most few = omega (arith, few)
more_lines false b lines most few = omega (arith, onto_first-count b lines most few)

lines-count : (bytes : List ℕ) → length (lines_of bytes) ≤ length bytes
lines-count [] = omega arith
lines-count (b ∷ bytes) = more_lines (b == 10) b (lines_of bytes) (length bytes) (lines-count bytes)

-- as each line has a byte, no more lines are counted than bytes
pub reads-room : (before after : Stream) (batch : List Line) → ReadsBatch before after batch → before.reader.next + length before.reader.held ≤ before.reader.taken + 1 → after.reader.next + length after.reader.held ≤ after.reader.taken + 1
reads-room before after batch reads room =
    let parts = ap length reads.divides in
    omega (arith, room, parts, reads.next_is, reads.takes.counted_too, lines-count reads.front, length-append before.reader.held reads.bytes, length-append reads.front after.reader.held)
