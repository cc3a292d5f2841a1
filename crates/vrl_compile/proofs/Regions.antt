-- Counts of what lies in a stretch of a text: nothing, or one thing alone.
use Rattle.std.proofs.Common.{ℕ, ◌+◌, ◌<◌, ◌≤◌, arith}

-- what is counted is nothing, or it is one thing, which stands from `x` to `y` between these places
pub data Count (x y n from to : ℕ) : Type 0 where
  none : n ≤ 0 → Count x y n from to
  single : n ≤ 1 → from ≤ x → x < y → y ≤ to → Count x y n from to

pub nothing : {x y : ℕ} (from to : ℕ) → Count x y 0 from to
nothing from to = none (omega arith)

pub fewer : {x y n from to : ℕ} (m : ℕ) → m ≤ n → Count x y n from to → Count x y m from to
fewer m less (none zero) = none (omega (arith, less, zero))
fewer m less (single one first some last) = single (omega (arith, less, one)) first some last

pub widened : {x y n from to : ℕ} (start stop : ℕ) → start ≤ from → to ≤ stop → Count x y n from to → Count x y n start stop
widened start stop before behind (none zero) = none zero
widened start stop before behind (single one first some last) = single one (omega (arith, before, first)) some (omega (arith, behind, last))

-- two stretches, one behind the other
pub beside : {x y n m from to start stop : ℕ} → from ≤ start → to ≤ start → to ≤ stop → Count x y n from to → Count x y m start stop → Count x y (n + m) from stop
beside before between behind (none zero) (none nil) = none (omega (arith, zero, nil))
beside before between behind (none zero) (single one first some last) = single (omega (arith, zero, one)) (omega (arith, before, first)) some last
beside before between behind (single one first some last) (none nil) = single (omega (arith, nil, one)) first some (omega (arith, behind, last))
beside before between behind (single one first some last) (single two second more final) = absurd (omega (arith, first, some, last, between, second, more, final))

pub at_most_one : {x y n from to : ℕ} → Count x y n from to → n ≤ 1
at_most_one (none zero) = omega (arith, zero)
at_most_one (single one first some last) = one

-- the same within a stretch, which it doesn't fill; what it leaves free at its start is so wide at least
pub data Inside (x y a n from to : ℕ) : Type 0 where
  no_part : n ≤ 0 → Inside x y a n from to
  part : n ≤ 1 → from + a ≤ x → x < y → y ≤ to → from + y < x + to → Inside x y a n from to

pub inside : {x y a n start stop : ℕ} (from to : ℕ) → from + a ≤ start → stop ≤ to → from + stop < start + to → Count x y n start stop → Inside x y a n from to
inside from to before behind less (none zero) = no_part zero
inside from to before behind less (single one first some last) = part one (omega (arith, before, first)) some (omega (arith, behind, last)) (omega (arith, less, first, last))

pub two_inside : {x y a n m start stop first last : ℕ} (from to : ℕ) → from + a ≤ start → from + stop < start + to → stop ≤ first → first ≤ last → start ≤ first → last ≤ to → from + last < first + to → Count x y n start stop → Count x y m first last → Inside x y a (n + m) from to
two_inside from to before less between order ahead behind least (none zero) (none nil) = no_part (omega (arith, zero, nil))
two_inside from to before less between order ahead behind least (none zero) (single one at some up) = part (omega (arith, zero, one)) (omega (arith, before, ahead, at)) some (omega (arith, behind, up)) (omega (arith, least, at, up))
two_inside from to before less between order ahead behind least (single one at some up) (none nil) = part (omega (arith, nil, one)) (omega (arith, before, at)) some (omega (arith, up, between, order, behind)) (omega (arith, less, at, up))
two_inside from to before less between order ahead behind least (single one at some up) (single two next more final) = absurd (omega (arith, at, some, up, between, next, more, final))
