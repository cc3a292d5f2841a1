-- Moments that a clock told, and the lines at them.
use Rattle.std.proofs.Common.{◌≡◌, ◌+◌, ◌<◌, ℕ, zero, suc, List, [], ◌∷◌, ◌++◌, length, map, Option, Some, None, IfSome, ℤ, pos, refl, sym, ap, ◌∙◌, subst, arith}
use Rattle.std.proofs.lemmas.List.{length-append}
use Rattle.std.specs.List.{enumerate_from}
use Rattle.vrl_value.specs.Moment.{IsInRange}
use Rattle.vrl_io.specs.Moments.{Advances}
use Rattle.vrl_batch.specs.Lines.{line_at}
use Rattle.vrl_batch.specs.Moments.{AreInRange, Begin, MovesOn, Tells, lines_at}
use Rattle.vrl_batch.specs.Runs.{IsTimed}
use Rattle.vrl_batch.specs.Reads.{Stream}
use Rattle.vrl_batch.specs.declared.line.Line.{Line}

-- ---- moments

begin-same : (ms : List ℤ) (f g : ℕ → ℤ) → ((i : ℕ) → f i ≡ g i) → Begin ms f → Begin ms g
begin-same [] f g same begin = tt
begin-same (m ∷ ms) f g same begin = (begin.0 ∙ same 0, begin-same ms (λ i. f (suc i)) (λ i. g (suc i)) (λ i. same (suc i)) begin.1)

begin-append : (ms ns : List ℤ) (f g : ℕ → ℤ) → Begin ms f → Begin ns g → ((i : ℕ) → g i ≡ f (length ms + i)) → Begin (ms ++ ns) f
begin-append [] ns f g first second later = begin-same ns g f (λ i. later i ∙ ap f (omega arith)) second
begin-append (m ∷ ms) ns f g first second later = (first.0, begin-append ms ns (λ i. f (suc i)) g first.1 second (λ i. later i ∙ ap f (omega arith)))

range-append : (ms ns : List ℤ) → AreInRange ms → AreInRange ns → AreInRange (ms ++ ns)
range-append [] ns first second = second
range-append (m ∷ ms) ns first second = (first.0, range-append ms ns first.1 second)

told-append : (ahead middle : Option (ℕ → ℤ)) (ms ns : List ℤ) → IfSome ahead (Begin ms) → MovesOn ahead (length ms) middle → IfSome middle (Begin ns) → IfSome ahead (Begin (ms ++ ns))
told-append None middle ms ns first moved second = tt
told-append (Some f) None ms ns first moved second = absurd moved
told-append (Some f) (Some g) ms ns first moved second = begin-append ms ns f g first second moved

-- some moments, and then some more
pub moved-both : (ahead middle after : Option (ℕ → ℤ)) (m n : ℕ) → MovesOn ahead m middle → MovesOn middle n after
    → MovesOn ahead (m + n) after
moved-both None None after m n first second = second
moved-both None (Some g) after m n first second = cc
moved-both (Some f) None after m n first second = absurd first
moved-both (Some f) (Some g) None m n first second = absurd second
moved-both (Some f) (Some g) (Some h) m n first second = λ i. second i ∙ first (n + i) ∙ ap f (omega arith)

moved-append : (ahead middle after : Option (ℕ → ℤ)) (ms ns : List ℤ) → MovesOn ahead (length ms) middle
    → MovesOn middle (length ns) after → MovesOn ahead (length (ms ++ ns)) after
moved-append ahead middle after ms ns first second =
    subst (λ n. MovesOn ahead n after) (sym (length-append ms ns)) (moved-both ahead middle after (length ms) (length ns) first second)

pub tells-append : (ahead middle after : Option (ℕ → ℤ)) (ms ns : List ℤ) → Tells ahead ms middle → Tells middle ns after → Tells ahead (ms ++ ns) after
tells-append ahead middle after ms ns first second = record {
  told = told-append ahead middle ms ns first.told first.moved second.told;
  moved = moved-append ahead middle after ms ns first.moved second.moved;
  in_range = range-append ms ns first.in_range second.in_range;
}

told_none : (ahead : Option (ℕ → ℤ)) → IfSome ahead (Begin [])
told_none None = tt
told_none (Some f) = tt

pub moved_none : (ahead : Option (ℕ → ℤ)) → MovesOn ahead 0 ahead
moved_none None = refl
moved_none (Some f) = λ i. ap f (omega arith)

pub tells-none : (ahead : Option (ℕ → ℤ)) → Tells ahead [] ahead
tells-none ahead = record { told = told_none ahead; moved = moved_none ahead; in_range = tt }

told_one : (ahead after : Option (ℕ → ℤ)) (m : ℤ) → Advances ahead m after → IfSome ahead (Begin (m ∷ []))
told_one None after m advances = tt
told_one (Some f) after m advances = (advances.0, tt)

pub moved_one : (ahead after : Option (ℕ → ℤ)) (m : ℤ) → Advances ahead m after → MovesOn ahead 1 after
moved_one None after m advances = advances
moved_one (Some f) None m advances = absurd advances.1
moved_one (Some f) (Some g) m advances = λ i. advances.1 i ∙ ap f (omega arith)

pub tells-one : (ahead after : Option (ℕ → ℤ)) (m : ℤ) → Advances ahead m after → IsInRange m → Tells ahead (m ∷ []) after
tells-one ahead after m advances range = record { told = told_one ahead after m advances; moved = moved_one ahead after m advances; in_range = (range, tt) }

-- ---- lines at their moments

pub lines_at-append : (ms ns : List ℤ) (es fs : List (ℕ × List ℕ)) → length ms ≡ length es → lines_at (ms ++ ns) (es ++ fs) ≡ lines_at ms es ++ lines_at ns fs
lines_at-append [] ns [] fs same = refl
lines_at-append [] ns (e ∷ es) fs same = absurd (omega (arith, same))
lines_at-append (m ∷ ms) ns [] fs same = absurd (omega (arith, same))
lines_at-append (m ∷ ms) ns (e ∷ es) fs same = ap (λ lines. line_at m e ∷ lines) (lines_at-append ms ns es fs (omega (arith, same)))

pub lines_at-length : (ms : List ℤ) (es : List (ℕ × List ℕ)) → length ms ≡ length es → length (lines_at ms es) ≡ length es
lines_at-length [] [] same = refl
lines_at-length [] (e ∷ es) same = absurd (omega (arith, same))
lines_at-length (m ∷ ms) [] same = absurd (omega (arith, same))
lines_at-length (m ∷ ms) (e ∷ es) same = ap suc (lines_at-length ms es (omega (arith, same)))

lines_by-from : (ms : List ℤ) (es : List (ℕ × List ℕ)) (moments : ℕ → ℤ) (place : ℕ) → length ms ≡ length es → Begin ms (λ i. moments (place + i)) → lines_at ms es ≡ map (λ l. line_at (moments l.0) l.1) (enumerate_from place es)
lines_by-from [] [] moments place same begin = refl
lines_by-from [] (e ∷ es) moments place same begin = absurd (omega (arith, same))
lines_by-from (m ∷ ms) [] moments place same begin = absurd (omega (arith, same))
lines_by-from (m ∷ ms) (e ∷ es) moments place same begin =
    ap (λ x. line_at x e ∷ lines_at ms es) (begin.0 ∙ ap moments (omega arith))
    ∙ ap (λ lines. line_at (moments place) e ∷ lines) (lines_by-from ms es moments (place + 1) (omega (arith, same)) (begin-same ms (λ i. moments (place + suc i)) (λ i. moments ((place + 1) + i)) (λ i. ap moments (omega arith)) begin.1))

-- the moments of a clock that told no others
abbrev moment_at : List ℤ → ℕ → ℤ
moment_at [] i = pos 0
moment_at (m ∷ ms) zero = m
moment_at (m ∷ ms) (suc i) = moment_at ms i

begin_at : (ms : List ℤ) → Begin ms (moment_at ms)
begin_at [] = tt
begin_at (m ∷ ms) = (refl, begin_at ms)

range_at : (ms : List ℤ) (moments : ℕ → ℤ) → Begin ms moments → AreInRange ms → (i : ℕ) → i < length ms → IsInRange (moments i)
range_at [] moments begin all i below = absurd (omega (arith, below))
range_at (m ∷ ms) moments begin all zero below = subst IsInRange begin.0 all.0
range_at (m ∷ ms) moments begin all (suc i) below = range_at ms (λ i. moments (suc i)) begin.1 all.1 i (omega (arith, below))

module _ (ms : List ℤ) (run : List (ℕ × List ℕ)) (lines : List Line) (one_each : length ms ≡ length run) (lines_are : lines ≡ lines_at ms run) (in_range : AreInRange ms) where
  timed_by : (begin : Stream) (moments : ℕ → ℤ) → Begin ms moments → IfSome begin.ahead (λ told. (i : ℕ) → told i ≡ moments i) → IsTimed begin run lines moments
  timed_by begin moments first told = record {
    are_ahead = told;
    in_range = λ i below. range_at ms moments first in_range i (omega (arith, below, one_each));
    lines_are = lines_are ∙ lines_by-from ms run moments 0 one_each (begin-same ms moments (λ i. moments (0 + i)) (λ i. ap moments (omega arith)) first);
  }

  timed_if : (begin : Stream) (ahead : Option (ℕ → ℤ)) → begin.ahead ≡ ahead → IfSome ahead (Begin ms) → (moments : ℕ → ℤ) × IsTimed begin run lines moments
  timed_if begin None is told = (moment_at ms, timed_by begin (moment_at ms) (begin_at ms) (rw is tt))
  timed_if begin (Some first) is told = (first, timed_by begin first told (rw is (λ i. refl)))

  -- the lines are at the clock's moments, or at those that it told
  pub timed : (begin : Stream) → IfSome begin.ahead (Begin ms) → (moments : ℕ → ℤ) × IsTimed begin run lines moments
  timed begin told = timed_if begin begin.ahead refl told
