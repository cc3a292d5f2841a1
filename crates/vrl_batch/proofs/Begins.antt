-- What the lines of a batch that is begun are, as bytes come.
use Rattle.std.proofs.Common.{◌≡◌, ◌≢◌, ◌+◌, ◌<◌, inr, ℕ, zero, suc, ℤ, List, [], ◌∷◌, ◌++◌, length, take, drop, get_or, filter, Bool, true, false, true≢false, ◌||◌, if◌then◌else◌, leb, ltb, Option, refl, sym, ap, ◌∙◌, append_assoc, subst, arith}
use Rattle.std.proofs.lemmas.List.{append-nil, length-append}
use Rattle.std.proofs.lemmas.List.Sums.{sum_by_push}
use Rattle.std.specs.List.{enumerate_from, sum_by}
use Rattle.vrl_batch.proofs.Joined.{events-append, is_event, lines-append, lines-last, lines-unbroken, unbroken-append, unbroken-take, whole-append}
use Rattle.vrl_batch.proofs.Told.{lines_at-append, lines_at-length, tells-append, tells-one}
use Rattle.vrl_batch.specs.Batches.{batch_bytes, batch_lines, is_whole, kept_bytes}
use Rattle.vrl_batch.specs.Begun.{AddsEvent, DividesAt, EndsLine, HoldsLines, IsBegun, is_filled}
use Rattle.vrl_batch.specs.Lines.{AreWholeLines, IsUnbroken, event_lines_from, is_blank, line_at, line_limit, lines_of}
use Rattle.vrl_batch.specs.Moments.{Tells, lines_at}
use Rattle.vrl_batch.specs.Parts.{part_of}
use Rattle.vrl_batch.specs.declared.begun.Begun.{Begun}

-- ---- lists

-- the bytes about a newline
pub newline_at : (bytes : List ℕ) (end : ℕ) → end < length bytes → get_or bytes end 0 ≡ 10 → bytes ≡ take end bytes ++ 10 ∷ drop (suc end) bytes
newline_at [] end within found = absurd (omega arith)
newline_at (b ∷ bytes) zero within found = ap (λ x. x ∷ bytes) found
newline_at (b ∷ bytes) (suc end) within found = ap (λ x. b ∷ x) (newline_at bytes end (omega (arith, within)) found)

pub unbroken-all : (bytes : List ℕ) → ((k : ℕ) → k < length bytes → get_or bytes k 0 ≢ 10) → IsUnbroken bytes
unbroken-all [] none = tt
unbroken-all (b ∷ bytes) none = (none 0 (omega arith), unbroken-all bytes (λ k below. none (suc k) (omega (arith, below))))

-- ---- whether it ends here

pub filled-is : (first : ℕ) (ahead after : Option (ℕ → ℤ)) (bytes : List ℕ) (begun : Begun) → HoldsLines first ahead bytes begun after → is_filled begun ≡ is_whole (event_lines_from first bytes)
filled-is first ahead after bytes begun holds =
    ap (λ n. leb batch_lines n || leb batch_bytes begun.kept) (ap length holds.lines_are ∙ lines_at-length holds.moments (event_lines_from first bytes) holds.one_each)
    ∙ ap (λ n. leb batch_lines (length (event_lines_from first bytes)) || leb batch_bytes n) holds.kept_is

-- ---- a line that ends

kept-if : (test : Bool) (line : List ℕ) → length (if test then [] else line) ≡ (if test then 0 else length line)
kept-if true line = refl
kept-if false line = refl

kept-line : (test : Bool) (moment : ℤ) (n : ℕ) (line : List ℕ) → ltb line_limit (length line) ≡ test → length (line_at moment (n, line)).bytes ≡ kept_bytes (n, line)
kept-line true moment n line is = rw is refl
kept-line false moment n line is = rw is refl

one_event : (test : Bool) (n : ℕ) (line : List ℕ) → is_blank line ≡ test → filter is_event (enumerate_from n (line ∷ [])) ≡ (if test then [] else (n, line) ∷ [])
one_event true n line is = rw is refl
one_event false n line is = rw is refl

module _ (first : ℕ) (ahead middle after_ahead : Option (ℕ → ℤ)) (front piece line : List ℕ) (before after : Begun) (holds : HoldsLines first ahead front before middle) (whole : AreWholeLines front)
    (ends : EndsLine line before after middle after_ahead) (unfilled : is_filled before ≡ false) (one : lines_of piece ≡ line ∷ []) where
  abbrev events : List (ℕ × List ℕ)
  events = event_lines_from first front

  number_here : first + length (lines_of front) ≡ after.number
  number_here = sym holds.number_is ∙ sym ends.number_is

  more_events : (test : Bool) → is_blank line ≡ test → event_lines_from first (front ++ piece) ≡ events ++ (if test then [] else (after.number, line) ∷ [])
  more_events test blank =
      events-append first front piece whole
      ∙ ap (λ n. events ++ event_lines_from n piece) number_here
      ∙ ap (λ lines. events ++ filter is_event (enumerate_from after.number lines)) one
      ∙ ap (λ x. events ++ x) (one_event test after.number line blank)

  number_after : after.number + 1 ≡ first + length (lines_of (front ++ piece))
  number_after =
      let both = ap length (lines-append front piece whole ∙ ap (λ x. lines_of front ++ x) one) ∙ length-append (lines_of front) (line ∷ []) in
      omega (arith, number_here, both)

  blank_line : is_blank line ≡ true → AddsEvent true line before after middle after_ahead → HoldsLines first ahead (front ++ piece) after after_ahead
  blank_line blank added =
      let same = more_events true blank ∙ append-nil events in
      record {
        number_is = number_after;
        moments = holds.moments;
        one_each = holds.one_each ∙ ap length (sym same);
        tells = subst (λ x. Tells ahead holds.moments x) (sym added.2) holds.tells;
        lines_are = added.0 ∙ holds.lines_are ∙ ap (lines_at holds.moments) (sym same);
        kept_is = added.1 ∙ holds.kept_is ∙ ap (sum_by kept_bytes) (sym same);
        at_most = rw same holds.at_most;
      }

  event_line : is_blank line ≡ false → AddsEvent false line before after middle after_ahead → HoldsLines first ahead (front ++ piece) after after_ahead
  event_line blank (moment, range, advances, lines_are, kept_is) =
      let event : ℕ × List ℕ = (after.number, line) in
      let same = more_events false blank in
      record {
        number_is = number_after;
        moments = holds.moments ++ moment ∷ [];
        one_each = length-append holds.moments (moment ∷ []) ∙ omega (arith, holds.one_each, length-append events (event ∷ [])) ∙ ap length (sym same);
        tells = tells-append ahead middle after_ahead holds.moments (moment ∷ []) holds.tells (tells-one middle after_ahead moment advances range);
        lines_are = lines_are ∙ ap (λ x. x ++ line_at moment event ∷ []) holds.lines_are ∙ sym (lines_at-append holds.moments (moment ∷ []) events (event ∷ []) holds.one_each) ∙ ap (lines_at (holds.moments ++ moment ∷ [])) (sym same);
        kept_is =
            kept_is
            ∙ ap (λ n. n + length (line_at moment event).bytes) holds.kept_is
            ∙ ap (λ n. sum_by kept_bytes events + n) (kept-line (ltb line_limit (length line)) moment after.number line refl)
            ∙ sym (sum_by_push kept_bytes events event)
            ∙ ap (sum_by kept_bytes) (sym same);
        at_most = inr (events, event, same, sym (filled-is first ahead middle front before holds) ∙ unfilled);
      }

  line_by : (test : Bool) → is_blank line ≡ test → AddsEvent test line before after middle after_ahead → HoldsLines first ahead (front ++ piece) after after_ahead
  line_by true blank added = blank_line blank added
  line_by false blank added = event_line blank added

  -- the lines of a front, and the one that has ended behind it
  pub holds-line : HoldsLines first ahead (front ++ piece) after after_ahead
  holds-line = line_by (is_blank line) refl ends.added

-- ---- bytes that are added

-- nothing but the begin of a line was added
same_lines : (first : ℕ) (ahead after : Option (ℕ → ℤ)) (bytes : List ℕ) (begun other : Begun) → other.number ≡ begun.number → other.lines.items ≡ begun.lines.items → other.kept ≡ begun.kept → HoldsLines first ahead bytes begun after → HoldsLines first ahead bytes other after
same_lines first ahead after bytes begun other number lines kept holds = record {
  number_is = ap (λ n. n + 1) number ∙ holds.number_is;
  moments = holds.moments;
  one_each = holds.one_each;
  tells = holds.tells;
  lines_are = lines ∙ holds.lines_are;
  kept_is = kept ∙ holds.kept_is;
  at_most = holds.at_most;
}

regroup : (front part line rest : List ℕ) → front ++ (part ++ (line ++ 10 ∷ rest)) ≡ (front ++ ((part ++ line) ++ 10 ∷ [])) ++ rest
regroup front part line rest =
    ap (λ x. front ++ x) (sym (append_assoc part line (10 ∷ rest)) ∙ sym (append_assoc (part ++ line) (10 ∷ []) rest))
    ∙ sym (append_assoc front ((part ++ line) ++ 10 ∷ []) rest)

-- up to a newline
pub adds-line : (first : ℕ) (ahead middle after_ahead : Option (ℕ → ℤ)) (front part bytes : List ℕ) (end : ℕ) (before after : Begun) → IsBegun first ahead front part before middle → is_filled before ≡ false
    → ((k : ℕ) → k < end → get_or bytes k 0 ≢ 10) → end < length bytes → get_or bytes end 0 ≡ 10 → EndsLine (part ++ take end bytes) before after middle after_ahead
    → DividesAt first ahead (front ++ (part ++ bytes)) (drop (suc end) bytes) after after_ahead
adds-line first ahead middle after_ahead front part bytes end before after begun unfilled none within found ends =
    let line = part ++ take end bytes in
    let unbroken = unbroken-append part (take end bytes) begun.unbroken (unbroken-take bytes end none (omega (arith, within))) in
    record {
      front = front ++ (line ++ 10 ∷ []);
      part = [];
      divides = ap (λ x. front ++ (part ++ x)) (newline_at bytes end within found) ∙ regroup front part (take end bytes) (drop (suc end) bytes);
      is_begun = record {
        holds = holds-line first ahead middle after_ahead front (line ++ 10 ∷ []) line before after begun.holds begun.ended ends unfilled (lines-unbroken line [] unbroken);
        ended = whole-append front (line ++ 10 ∷ []) begun.ended (inr (line, refl));
        unbroken = tt;
        part_is = ends.part_is;
        between = λ whole. refl;
      };
    }

-- and where there is no newline
pub adds-part : (first : ℕ) (ahead middle : Option (ℕ → ℤ)) (front part bytes rest : List ℕ) (before after : Begun) → IsBegun first ahead front part before middle → is_filled before ≡ false
    → IsUnbroken bytes → rest ≡ [] → after.number ≡ before.number → after.lines.items ≡ before.lines.items → after.kept ≡ before.kept → after.part ≡ part_of (part ++ bytes)
    → DividesAt first ahead (front ++ (part ++ bytes)) rest after middle
adds-part first ahead middle front part bytes rest before after begun unfilled unbroken none number lines kept part_is = record {
  front = front;
  part = part ++ bytes;
  divides = ap (λ x. front ++ x) (sym (append-nil (part ++ bytes)) ∙ ap (λ x. (part ++ bytes) ++ x) (sym none));
  is_begun = record {
    holds = same_lines first ahead middle front before after number lines kept begun.holds;
    ended = begun.ended;
    unbroken = unbroken-append part bytes begun.unbroken unbroken;
    part_is = part_is;
    between = λ whole. absurd (true≢false (sym whole ∙ sym (filled-is first ahead middle front before begun.holds) ∙ unfilled));
  };
}

-- what is left of the bytes goes on from where it stands
pub adds-more : (first : ℕ) (ahead middle after_ahead : Option (ℕ → ℤ)) (bytes rest rest_after : List ℕ) (before after : Begun) → DividesAt first ahead bytes rest before middle
    → ((front part : List ℕ) → IsBegun first ahead front part before middle → DividesAt first ahead (front ++ (part ++ rest)) rest_after after after_ahead) → DividesAt first ahead bytes rest_after after after_ahead
adds-more first ahead middle after_ahead bytes rest rest_after before after at step =
    let more = step at.front at.part at.is_begun in
    record { front = more.front; part = more.part; divides = at.divides ∙ more.divides; is_begun = more.is_begun }

-- ---- the end of the input

-- the last line, which has no newline
pub ends-last : (first : ℕ) (ahead middle after_ahead : Option (ℕ → ℤ)) (front part : List ℕ) (before after : Begun) → IsBegun first ahead front part before middle → is_filled before ≡ false → part ≢ []
    → EndsLine part before after middle after_ahead → HoldsLines first ahead (front ++ part) after after_ahead
ends-last first ahead middle after_ahead front [] before after begun unfilled some ends = absurd (some refl)
ends-last first ahead middle after_ahead front (b ∷ part) before after begun unfilled some ends =
    holds-line first ahead middle after_ahead front (b ∷ part) (b ∷ part) before after begun.holds begun.ended ends unfilled (lines-last b part begun.unbroken)
