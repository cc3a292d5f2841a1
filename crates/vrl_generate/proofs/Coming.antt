-- The lines to come, one after the other.
use Rattle.std.proofs.Common.{◌≡◌, ℕ, zero, suc, ◌+◌, ◌-◌, ◌/◌, ◌%◌, ◌<◌, [], ◌∷◌, length, map, refl, sym, ap, ◌∙◌, add-one, arith}
use Rattle.std.proofs.Math.Nat.{mul-add-mod_self_left, div-add-mod}
use Rattle.std.specs.List.{range_with_len}
use Rattle.vrl_batch.specs.Lines.{line_at}
use Rattle.vrl_generate.specs.Made.{state_after, made_state, line_from, lines_behind, made_moment, made_line}

-- a sum modulo m, one part of which was taken modulo m before
pub mod_sum : (a c m : ℕ) → (a % m + c) % m ≡ (a + c) % m
mod_sum a c m = sym (mul-add-mod_self_left m (a / m) (a % m + c)) ∙ ap (λ x. x % m) (omega (arith, div-add-mod a m))

pub none_behind : (made state left : ℕ) → left ≡ 0 → lines_behind made state left ≡ []
unfolding lines_behind
none_behind made state zero none = refl
none_behind made state (suc left) none = absurd (omega arith)

pub one_behind : (made state left : ℕ) → 0 < left → lines_behind made state left ≡ line_from (state_after state) (made + 1) ∷ lines_behind (made + 1) (state_after state) (left - 1)
unfolding lines_behind
one_behind made state zero some = absurd (omega arith)
one_behind made state (suc left) some = ap (λ n. line_from (state_after state) (made + 1) ∷ lines_behind (made + 1) (state_after state) n) (omega arith)

-- the lines behind the i-th are those with the numbers from i + 1 on
pub are_made : (seed i left : ℕ) → lines_behind i (made_state seed i) left ≡ map (λ k. line_at (made_moment k) (k, made_line seed k)) (range_with_len (i + 1) left)
unfolding lines_behind made_state
are_made seed i zero = refl
are_made seed i (suc left) = rw add-one (ap (λ rest. line_from (made_state seed (suc i)) (suc i) ∷ rest) (are_made seed (suc i) left))

-- how many are to come
pub length-behind : (made state left : ℕ) → length (lines_behind made state left) ≡ left
unfolding lines_behind
length-behind made state zero = refl
length-behind made state (suc left) = ap suc (length-behind (made + 1) (state_after state) left)
