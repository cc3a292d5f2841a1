-- Strings counted one after the other come to their counts.
use Rattle.std.proofs.Common.{◌≡◌, ◌<◌, ◌+◌, ◌^◌, ℕ, zero, suc, pos, Bool, true, false, List, [], ◌∷◌, Option, Some, None, length, bytes_eq, refl, sym, ap, ◌∙◌, subst, arith, if◌then◌else◌}
use Rattle.std.proofs.lemmas.Int.{int_wrap_fits, wrapping_add_is}
use Rattle.std.proofs.lemmas.Slice.Eq.{bytes_eq-Decides}
use Rattle.std.specs.Int.{int_wrap, w64}
use Rattle.vrl_value.specs.Laws.{MembersAreMaps}
use Rattle.vrl_value.specs.Tree.{Tree, string, integer, boolean, null, timestamp, regex, array, object, Members, no_members, find, MembersAreOrdered}
use Rattle.vrl_value.proofs.Members.{find-put, find-put_other}
use Rattle.vrl_value.proofs.Order.{put_ordered}
use Rattle.vrl_builtin.proofs.GivenTags.{no}
use Rattle.fn_object.specs.Counting.{add_count, add_counts, one_more}
use Rattle.fn_object.specs.Tally.{count_in, counted, is_text, put_count}

-- a count as what is found
abbrev shown : ℕ → Option Tree
shown zero = None
shown (suc n) = Some (integer (pos (suc n)))

one_up : (n : ℕ) → suc n + 1 ≡ suc (suc n)
one_up n = omega arith

more_is : (n : ℕ) → suc n < 2 ^ 63 → one_more (shown n) ≡ pos (suc n)
more_is zero small = refl
more_is (suc n) small = wrapping_add_is w64 (pos (suc n)) (pos 1) (omega (arith, small)) (omega arith) ∙ ap (λ m. int_wrap w64 (pos m)) (one_up n) ∙ int_wrap_fits w64 (pos (suc (suc n))) (omega (arith, small))

-- ---- one after the other

added_at : (b : Bool) (k s : List ℕ) (n : ℕ) (ms : Members) → bytes_eq k s ≡ b → find k ms ≡ shown n → suc n < 2 ^ 63 → find k (add_count (string s) ms) ≡ shown (if b then suc n else n)
added_at true k s n ms is found small =
    let same : k ≡ s = (bytes_eq-Decides k s).0 is in
    subst (λ (l : List ℕ). find k (add_count (string l) ms) ≡ shown (suc n)) same
    (find-put k (integer (one_more (find k ms))) ms ∙ ap (λ o. Some (integer (one_more o))) found ∙ ap (λ z. Some (integer z)) (more_is n small))
added_at false k s n ms is found small = find-put_other k s (integer (one_more (find s ms))) ms (λ same. no (sym is ∙ (bytes_eq-Decides k s).1 same)) ∙ found

added : (k : List ℕ) (t : Tree) (n : ℕ) (ms : Members) → find k ms ≡ shown n → suc n < 2 ^ 63 → find k (add_count t ms) ≡ shown (if is_text k t then suc n else n)
added k (string s) n ms found small = added_at (bytes_eq k s) k s n ms refl found small
added k (integer m) n ms found small = found
added k (boolean b) n ms found small = found
added k null n ms found small = found
added k (timestamp m) n ms found small = found
added k (regex m) n ms found small = found
added k (array ts) n ms found small = found
added k (object ns) n ms found small = found

sum_at : (b : Bool) (n c : ℕ) → (if b then suc n else n) + c ≡ n + (if b then suc c else c)
sum_at true n c = omega arith
sum_at false n c = refl

count_small : (b : Bool) (n l : ℕ) → n + suc l < 2 ^ 63 → (if b then suc n else n) + l < 2 ^ 63
count_small true n l small = omega (arith, small)
count_small false n l small = omega (arith, small)

all_added : (k : List ℕ) (ts : List Tree) (n : ℕ) (ms : Members) → find k ms ≡ shown n → n + length ts < 2 ^ 63 → find k (add_counts ts ms) ≡ shown (n + count_in k ts)
all_added k [] n ms found small = found ∙ ap shown (plus_none n) where
  plus_none : (m : ℕ) → m ≡ m + 0
  plus_none m = omega arith
all_added k (t ∷ ts) n ms found small =
    all_added k ts (if is_text k t then suc n else n) (add_count t ms) (added k t n ms found (omega (arith, small))) (count_small (is_text k t) n (length ts) small) ∙ ap shown (sum_at (is_text k t) n (count_in k ts))

-- ---- each with its count

abbrev told_count : ℕ → ℕ → Option Tree
told_count zero m = None
told_count (suc n) m = Some (integer (pos m))

told_at : (b : Bool) (k s : List ℕ) (all : List Tree) (n : ℕ) (ms : Members) → bytes_eq k s ≡ b → find k ms ≡ told_count n (count_in k all) → find k (put_count all (string s) ms) ≡ told_count (if b then suc n else n) (count_in k all)
told_at true k s all n ms is found =
    let same : k ≡ s = (bytes_eq-Decides k s).0 is in
    subst (λ (l : List ℕ). find k (put_count all (string l) ms) ≡ Some (integer (pos (count_in k all)))) same (find-put k (integer (pos (count_in k all))) ms)
told_at false k s all n ms is found = find-put_other k s (integer (pos (count_in s all))) ms (λ same. no (sym is ∙ (bytes_eq-Decides k s).1 same)) ∙ found

told : (k : List ℕ) (t : Tree) (all : List Tree) (n : ℕ) (ms : Members) → find k ms ≡ told_count n (count_in k all) → find k (put_count all t ms) ≡ told_count (if is_text k t then suc n else n) (count_in k all)
told k (string s) all n ms found = told_at (bytes_eq k s) k s all n ms refl found
told k (integer m) all n ms found = found
told k (boolean b) all n ms found = found
told k null all n ms found = found
told k (timestamp m) all n ms found = found
told k (regex m) all n ms found = found
told k (array ts) all n ms found = found
told k (object ns) all n ms found = found

all_told : (k : List ℕ) (all ts : List Tree) → find k (counted all ts) ≡ told_count (count_in k ts) (count_in k all)
all_told k all [] = refl
all_told k all (t ∷ ts) = told k t all (count_in k ts) (counted all ts) (all_told k all ts)

own_count : (n : ℕ) → shown n ≡ told_count n n
own_count zero = refl
own_count (suc n) = refl

-- ---- both are in order

add_ordered : (t : Tree) (ms : Members) → MembersAreOrdered ms → MembersAreOrdered (add_count t ms)
add_ordered (string s) ms ordered = put_ordered s (integer (one_more (find s ms))) ms tt ordered
add_ordered (integer m) ms ordered = ordered
add_ordered (boolean b) ms ordered = ordered
add_ordered null ms ordered = ordered
add_ordered (timestamp m) ms ordered = ordered
add_ordered (regex m) ms ordered = ordered
add_ordered (array ts) ms ordered = ordered
add_ordered (object ns) ms ordered = ordered

adds_ordered : (ts : List Tree) (ms : Members) → MembersAreOrdered ms → MembersAreOrdered (add_counts ts ms)
adds_ordered [] ms ordered = ordered
adds_ordered (t ∷ ts) ms ordered = adds_ordered ts (add_count t ms) (add_ordered t ms ordered)

count_ordered : (all : List Tree) (t : Tree) (ms : Members) → MembersAreOrdered ms → MembersAreOrdered (put_count all t ms)
count_ordered all (string s) ms ordered = put_ordered s (integer (pos (count_in s all))) ms tt ordered
count_ordered all (integer m) ms ordered = ordered
count_ordered all (boolean b) ms ordered = ordered
count_ordered all null ms ordered = ordered
count_ordered all (timestamp m) ms ordered = ordered
count_ordered all (regex m) ms ordered = ordered
count_ordered all (array ts) ms ordered = ordered
count_ordered all (object ns) ms ordered = ordered

counts_ordered : (all ts : List Tree) → MembersAreOrdered (counted all ts)
counts_ordered all [] = tt
counts_ordered all (t ∷ ts) = count_ordered all t (counted all ts) (counts_ordered all ts)

pub counts_are : MembersAreMaps → (ts : List Tree) → length ts < 2 ^ 63 → add_counts ts no_members ≡ counted ts ts
counts_are maps ts small =
    maps.one_map (add_counts ts no_members) (counted ts ts) (adds_ordered ts no_members tt) (counts_ordered ts ts)
    (λ k. all_added k ts 0 no_members refl (omega (arith, small)) ∙ ap shown (none_more (count_in k ts)) ∙ own_count (count_in k ts) ∙ sym (all_told k ts ts)) where
      none_more : (n : ℕ) → 0 + n ≡ n
      none_more n = omega arith
