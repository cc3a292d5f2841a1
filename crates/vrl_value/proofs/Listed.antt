-- What stands at the places of items that one was put into or taken out of.
use Rattle.std.proofs.Common.{◌≡◌, ◌≢◌, ℕ, zero, suc, ◌<◌, ◌≤◌, Some, None, unwrap_or, refl, ap, ◌∙◌, arith}
use Rattle.vrl_value.specs.Look.{item_at}
use Rattle.vrl_value.specs.Parts.{put_item, replace_item, without_item}
use Rattle.vrl_value.specs.Tree.{Tree, null, Items, no_items, item}

pub item_at-put : (i : ℕ) (t : Tree) (ts : Items) → item_at i (put_item i t ts) ≡ Some t
item_at-put zero t no_items = refl
item_at-put zero t (item u ts) = refl
item_at-put (suc i) t no_items = item_at-put i t no_items
item_at-put (suc i) t (item u ts) = item_at-put i t ts

-- a lower place is as it was, or null
pub item_at-put_before : (i j : ℕ) (t : Tree) (ts : Items) → j < i → item_at j (put_item i t ts) ≡ Some (unwrap_or (item_at j ts) null)
item_at-put_before zero j t ts lower = absurd (omega arith)
item_at-put_before (suc i) zero t no_items lower = refl
item_at-put_before (suc i) zero t (item u ts) lower = refl
item_at-put_before (suc i) (suc j) t no_items lower = item_at-put_before i j t no_items (omega arith)
item_at-put_before (suc i) (suc j) t (item u ts) lower = item_at-put_before i j t ts (omega arith)

-- a higher place is as it was
pub item_at-put_behind : (i j : ℕ) (t : Tree) (ts : Items) → i < j → item_at j (put_item i t ts) ≡ item_at j ts
item_at-put_behind i zero t ts higher = absurd (omega arith)
item_at-put_behind zero (suc j) t no_items higher = refl
item_at-put_behind zero (suc j) t (item u ts) higher = refl
item_at-put_behind (suc i) (suc j) t no_items higher = item_at-put_behind i j t no_items (omega arith)
item_at-put_behind (suc i) (suc j) t (item u ts) higher = item_at-put_behind i j t ts (omega arith)

pub item_at-without_before : (i j : ℕ) (ts : Items) → j < i → item_at j (without_item i ts) ≡ item_at j ts
item_at-without_before i j no_items lower = refl
item_at-without_before zero j (item u ts) lower = absurd (omega arith)
item_at-without_before (suc i) zero (item u ts) lower = refl
item_at-without_before (suc i) (suc j) (item u ts) lower = item_at-without_before i j ts (omega arith)

pub item_at-without_behind : (i j : ℕ) (ts : Items) → i ≤ j → item_at j (without_item i ts) ≡ item_at (suc j) ts
item_at-without_behind i j no_items higher = refl
item_at-without_behind zero j (item u ts) higher = refl
item_at-without_behind (suc i) zero (item u ts) higher = absurd (omega arith)
item_at-without_behind (suc i) (suc j) (item u ts) higher = item_at-without_behind i j ts (omega arith)

-- what replaced an item is there, and the others are as they were
pub item_at-replace : (i : ℕ) (t w : Tree) (ts : Items) → item_at i ts ≡ Some w → item_at i (replace_item i t ts) ≡ Some t
item_at-replace i t w no_items found = absurd cc
item_at-replace zero t w (item u ts) found = refl
item_at-replace (suc i) t w (item u ts) found = item_at-replace i t w ts found

pub item_at-replace_other : (i j : ℕ) (t : Tree) (ts : Items) → j ≢ i → item_at j (replace_item i t ts) ≡ item_at j ts
item_at-replace_other i j t no_items other = refl
item_at-replace_other zero zero t (item u ts) other = absurd (other refl)
item_at-replace_other zero (suc j) t (item u ts) other = refl
item_at-replace_other (suc i) zero t (item u ts) other = refl
item_at-replace_other (suc i) (suc j) t (item u ts) other = item_at-replace_other i j t ts (λ e. other (ap suc e))

-- where there is no item, none is taken out
pub without_item-none : (i : ℕ) (ts : Items) → item_at i ts ≡ None → without_item i ts ≡ ts
without_item-none i no_items none = refl
without_item-none zero (item u ts) none = absurd cc
without_item-none (suc i) (item u ts) none = ap (item u) (without_item-none i ts none)

-- items that have the same at each place are the same
pub same_items : (a b : Items) → ((i : ℕ) → item_at i a ≡ item_at i b) → a ≡ b
same_items no_items no_items same = refl
same_items no_items (item u b) same = let none = same 0 in absurd cc
same_items (item t a) no_items same = let none = same 0 in absurd cc
same_items (item t a) (item u b) same =
    let first : Some t ≡ Some u = same 0 in
    let e : t ≡ u = cc in
    ap (λ x. item x a) e ∙ ap (item u) (same_items a b (λ i. same (suc i)))
