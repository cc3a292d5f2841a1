-- For how many moments the clock is asked at most.
use Rattle.std.proofs.Common.{◌≡◌, ◌≢◌, ◌+◌, ◌<◌, ◌≤◌, ℕ, suc, ℤ, List, [], ◌∷◌, ◌++◌, length, take, drop, get_or, Bool, true, false, true≢false, not, filter, if◌then◌else◌, Option, Result, Ok, Err, refl, sym, ap, ◌∙◌, append_assoc, subst, arith}
use Rattle.std.proofs.lemmas.List.{length-append}
use Rattle.std.specs.List.{enumerate_from}
use Rattle.std.specs.Prelude.{OnErr}
use Rattle.vrl_io.specs.Moments.{Advances}
use Rattle.vrl_batch.proofs.Begins.{newline_at}
use Rattle.vrl_batch.proofs.Joined.{events-append, is_event, lines-last, lines-unbroken, unbroken-append, unbroken-take}
use Rattle.vrl_batch.proofs.Told.{moved-both, moved_none, moved_one}
use Rattle.vrl_batch.specs.Begun.{IsBegun}
use Rattle.vrl_batch.specs.Lines.{event_lines_from, is_blank, lines_of, moment_count}
use Rattle.vrl_batch.specs.Moments.{MovesAtMost, MovesOn}
use Rattle.vrl_batch.specs.declared.begun.Begun.{Begun}

-- what holds of an error holds of a result where it is one
pub on_err : {A E X : Type 0} (r : Result A E) → X → OnErr r X
on_err (Ok v) x = tt
on_err (Err e) x = x

pub asks-none : (ahead : Option (ℕ → ℤ)) (most : ℕ) → MovesAtMost ahead most ahead
asks-none ahead most = (0, omega arith, moved_none ahead)

asks-more : (ahead after : Option (ℕ → ℤ)) (most more : ℕ) → most ≤ more → MovesAtMost ahead most after
    → MovesAtMost ahead more after
asks-more ahead after most more few asks = (asks.0, omega (arith, few, asks.1), asks.2)

pub asks-behind : (ahead middle after : Option (ℕ → ℤ)) (m n : ℕ) → MovesOn ahead m middle → MovesAtMost middle n after
    → MovesAtMost ahead (m + n) after
asks-behind ahead middle after m n moved asks = (m + asks.0, omega (arith, asks.1), moved-both ahead middle after m asks.0 moved asks.2)

-- ---- one line

one_moment : (test : Bool) → test ≡ false → 1 ≤ (if test then 0 else 1)
one_moment true is = absurd (true≢false is)
one_moment false is = omega arith

pub asks-line : (ahead after : Option (ℕ → ℤ)) (moment : ℤ) (line : List ℕ) → is_blank line ≡ false
    → Advances ahead moment after → MovesAtMost ahead (moment_count line) after
asks-line ahead after moment line event advances = (1, one_moment (is_blank line) event, moved_one ahead after moment advances)

first_event : (test : Bool) (n : ℕ) (line : List ℕ) (others : List (ℕ × List ℕ))
    → (if test then 0 else 1) ≤ length (if not test then (n, line) ∷ others else others)
first_event true n line others = omega arith
first_event false n line others = omega arith

-- the first line is one of all
first_asks : (n : ℕ) (bytes line : List ℕ) (lines : List (List ℕ)) → lines_of bytes ≡ line ∷ lines
    → moment_count line ≤ length (event_lines_from n bytes)
first_asks n bytes line lines is =
    subst (λ ls. moment_count line ≤ length (filter is_event (enumerate_from n ls))) (sym is)
    (first_event (is_blank line) n line (filter is_event (enumerate_from (n + 1) lines)))

-- ---- behind a batch that is begun

module _ (first : ℕ) (ahead middle : Option (ℕ → ℤ)) (front part : List ℕ) (begun : Begun) (is : IsBegun first ahead front part begun middle) where
  asks_on : (more : List ℕ) (after : Option (ℕ → ℤ))
      → MovesAtMost middle (length (event_lines_from (first + length (lines_of front)) more)) after
      → MovesAtMost ahead (length (event_lines_from first (front ++ more))) after
  asks_on more after asks =
      let so_far : MovesOn ahead (length (event_lines_from first front)) middle = subst (λ n. MovesOn ahead n middle) is.holds.one_each is.holds.tells.moved in
      let both = ap length (events-append first front more is.ended) ∙ length-append (event_lines_from first front) (event_lines_from (first + length (lines_of front)) more) in
      subst (λ n. MovesAtMost ahead n after) (sym both)
      (asks-behind ahead middle after (length (event_lines_from first front)) (length (event_lines_from (first + length (lines_of front)) more)) so_far asks)

  -- nothing was asked for the line that is begun
  pub asks-begun : (more : List ℕ) → MovesAtMost ahead (length (event_lines_from first (front ++ more))) middle
  asks-begun more = asks_on more middle (asks-none middle _)

  -- it has ended at a newline
  pub asks-ended : (bytes : List ℕ) (end : ℕ) (after : Option (ℕ → ℤ)) → ((k : ℕ) → k < end → get_or bytes k 0 ≢ 10)
      → end < length bytes → get_or bytes end 0 ≡ 10
      → MovesAtMost middle (moment_count (part ++ take end bytes)) after → MovesAtMost ahead (length (event_lines_from first (front ++ (part ++ bytes)))) after
  asks-ended bytes end after none within found asks =
      let line = part ++ take end bytes in
      let rest = drop (suc end) bytes in
      let unbroken = unbroken-append part (take end bytes) is.unbroken (unbroken-take bytes end none (omega (arith, within))) in
      let lines : lines_of (part ++ bytes) ≡ line ∷ lines_of rest =
      ap (λ x. lines_of (part ++ x)) (newline_at bytes end within found)
      ∙ ap lines_of (sym (append_assoc part (take end bytes) (10 ∷ rest)))
      ∙ lines-unbroken line rest unbroken in
      asks_on (part ++ bytes) after (asks-more middle after (moment_count line) _ (first_asks _ (part ++ bytes) line (lines_of rest) lines) asks)

-- it has ended with the input
pub asks-last : (first : ℕ) (ahead middle after : Option (ℕ → ℤ)) (front part : List ℕ) (begun : Begun)
    → IsBegun first ahead front part begun middle → part ≢ []
    → MovesAtMost middle (moment_count part) after → MovesAtMost ahead (length (event_lines_from first (front ++ part))) after
asks-last first ahead middle after front [] begun is some asks = absurd (some refl)
asks-last first ahead middle after front (b ∷ part) begun is some asks =
    asks_on first ahead middle front (b ∷ part) begun is (b ∷ part) after
    (asks-more middle after (moment_count (b ∷ part)) _ (first_asks _ (b ∷ part) (b ∷ part) [] (lines-last b part is.unbroken)) asks)
