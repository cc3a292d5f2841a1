-- What is found among an object's members.
use Rattle.std.proofs.Common.{◌≡◌, ◌≢◌, ℕ, List, Bool, true, false, Option, Some, None, Ordering, Less, Equal, Greater, nat_cmp, is_eq, bytes_eq, IsTrue, IfSome, refl, sym, ap, ◌∙◌}
use Rattle.std.proofs.lemmas.Bool.{true≢false, and_parts}
use Rattle.std.proofs.lemmas.Cmp.{nat_list_cmp_total, tied_itself}
use Rattle.std.proofs.lemmas.Map.Text.{is_eq-slice_cmp}
use Rattle.std.proofs.lemmas.Slice.Eq.{bytes_eq-Decides}
use Rattle.std.specs.Cmp.Lexicographic.{slice_cmp}
use Rattle.std.specs.Ordering.{match_ordering}
use Rattle.vrl_value.specs.Parts.{replace, without}
use Rattle.vrl_value.specs.Tree.{Tree, Members, no_members, member, put, find, is_json, members_are_json}

-- a key is in order with itself
same_key : (k : List ℕ) → slice_cmp nat_cmp k k ≡ Equal
same_key k = tied_itself nat_list_cmp_total k

-- two keys in order are the same
pub same_keys : (k l : List ℕ) → slice_cmp nat_cmp k l ≡ Equal → k ≡ l
same_keys k l equal = (bytes_eq-Decides k l).0 (sym (is_eq-slice_cmp k l) ∙ ap is_eq equal)

-- the step of `find-put`, at the order of the key and the first one
find-put_at : (o : Ordering) (k l : List ℕ) (t u : Tree) (ms : Members) → slice_cmp nat_cmp k l ≡ o → find k (put k t ms) ≡ Some t
    → find k (match_ordering o (member k t (member l u ms)) (member l t ms) (member l u (put k t ms))) ≡ Some t
find-put_at Less k l t u ms is later = rw same_key
find-put_at Equal k l t u ms is later = rw is
find-put_at Greater k l t u ms is later = rw is later

-- what was put at a key is found there
pub find-put : (k : List ℕ) (t : Tree) (ms : Members) → find k (put k t ms) ≡ Some t
find-put k t no_members = rw same_key
find-put k t (member l u ms) = find-put_at _ k l t u ms refl (find-put k t ms)

-- where the order isn't equal, the middle case is not taken
other_order : (o : Ordering) (a b : Option Tree) → is_eq o ≡ false → match_ordering o a b a ≡ a
other_order Less a b e = refl
other_order Equal a b e = absurd (true≢false e)
other_order Greater a b e = refl

-- a test of two keys that aren't the same fails
differ : (k l : List ℕ) (same : Bool) → bytes_eq k l ≡ same → ¬ (k ≡ l) → same ≡ false
differ k l true e other = absurd (other ((bytes_eq-Decides k l).0 e))
differ k l false e other = refl

-- a member at another key is passed over
pub find-member_other : (q k : List ℕ) (t : Tree) (ms : Members) → ¬ (q ≡ k) → find q (member k t ms) ≡ find q ms
find-member_other q k t ms other = other_order (slice_cmp nat_cmp q k) _ _ (is_eq-slice_cmp q k ∙ differ q k _ refl other)

-- the step of `find-put_other`, at the order of the key and the first one
find-put_other_at : (o : Ordering) (q k l : List ℕ) (t u : Tree) (ms : Members) → slice_cmp nat_cmp k l ≡ o → ¬ (q ≡ k) → find q (put k t ms) ≡ find q ms
    → find q (match_ordering o (member k t (member l u ms)) (member l t ms) (member l u (put k t ms))) ≡ find q (member l u ms)
find-put_other_at Less q k l t u ms is other later = find-member_other q k t (member l u ms) other
find-put_other_at Equal q k l t u ms is other later =
    let apart = λ (h : q ≡ l). other (h ∙ sym (same_keys k l is)) in
    find-member_other q l t ms apart ∙ sym (find-member_other q l u ms apart)
find-put_other_at Greater q k l t u ms is other later = ap (λ r. match_ordering (slice_cmp nat_cmp q l) r (Some u) r) later

-- at the other keys the same is found as before
pub find-put_other : (q k : List ℕ) (t : Tree) (ms : Members) → ¬ (q ≡ k) → find q (put k t ms) ≡ find q ms
find-put_other q k t no_members other = find-member_other q k t no_members other
find-put_other q k t (member l u ms) other = find-put_other_at _ q k l t u ms refl other (find-put_other q k t ms other)

found_at : (o : Ordering) (k l : List ℕ) (t u w : Tree) (ms : Members) → slice_cmp nat_cmp k l ≡ o → match_ordering o (find k ms) (Some u) (find k ms) ≡ Some w → (find k ms ≡ Some w → find k (replace k t ms) ≡ Some t)
    → find k (match_ordering o (member l u (replace k t ms)) (member l t ms) (member l u (replace k t ms))) ≡ Some t
found_at Less k l t u w ms is found later = rw is (later found)
found_at Equal k l t u w ms is found later = rw is
found_at Greater k l t u w ms is found later = rw is (later found)

-- what replaced something at a key is found there
pub find-replace : (k : List ℕ) (t w : Tree) (ms : Members) → find k ms ≡ Some w → find k (replace k t ms) ≡ Some t
find-replace k t w no_members found = absurd cc
find-replace k t w (member l u ms) found = found_at (slice_cmp nat_cmp k l) k l t u w ms refl found (find-replace k t w ms)

replace_other_at : (o : Ordering) (q k l : List ℕ) (t u : Tree) (ms : Members) → slice_cmp nat_cmp k l ≡ o → q ≢ k → find q (replace k t ms) ≡ find q ms
    → find q (match_ordering o (member l u (replace k t ms)) (member l t ms) (member l u (replace k t ms))) ≡ find q (member l u ms)
replace_other_at Less q k l t u ms is other later = ap (λ r. match_ordering (slice_cmp nat_cmp q l) r (Some u) r) later
replace_other_at Equal q k l t u ms is other later =
    let apart = λ (h : q ≡ l). other (h ∙ sym (same_keys k l is)) in
    find-member_other q l t ms apart ∙ sym (find-member_other q l u ms apart)
replace_other_at Greater q k l t u ms is other later = ap (λ r. match_ordering (slice_cmp nat_cmp q l) r (Some u) r) later

-- and at every other key what was found before
pub find-replace_other : (q k : List ℕ) (t : Tree) (ms : Members) → q ≢ k → find q (replace k t ms) ≡ find q ms
find-replace_other q k t no_members other = refl
find-replace_other q k t (member l u ms) other = replace_other_at (slice_cmp nat_cmp k l) q k l t u ms refl other (find-replace_other q k t ms other)

gone_at : (o : Ordering) (k l : List ℕ) (u : Tree) (ms : Members) → slice_cmp nat_cmp k l ≡ o → find k (without k ms) ≡ None
    → find k (match_ordering o (member l u (without k ms)) (without k ms) (member l u (without k ms))) ≡ None
gone_at Less k l u ms is later = rw is later
gone_at Equal k l u ms is later = later
gone_at Greater k l u ms is later = rw is later

-- what was taken out is not found
pub find-without : (k : List ℕ) (ms : Members) → find k (without k ms) ≡ None
find-without k no_members = refl
find-without k (member l u ms) = gone_at (slice_cmp nat_cmp k l) k l u ms refl (find-without k ms)

without_other_at : (o : Ordering) (q k l : List ℕ) (u : Tree) (ms : Members) → slice_cmp nat_cmp k l ≡ o → q ≢ k → find q (without k ms) ≡ find q ms
    → find q (match_ordering o (member l u (without k ms)) (without k ms) (member l u (without k ms))) ≡ find q (member l u ms)
without_other_at Less q k l u ms is other later = ap (λ r. match_ordering (slice_cmp nat_cmp q l) r (Some u) r) later
without_other_at Equal q k l u ms is other later = later ∙ sym (find-member_other q l u ms (λ h. other (h ∙ sym (same_keys k l is))))
without_other_at Greater q k l u ms is other later = ap (λ r. match_ordering (slice_cmp nat_cmp q l) r (Some u) r) later

pub find-without_other : (q k : List ℕ) (ms : Members) → q ≢ k → find q (without k ms) ≡ find q ms
find-without_other q k no_members other = refl
find-without_other q k (member l u ms) other = without_other_at (slice_cmp nat_cmp k l) q k l u ms refl other (find-without_other q k ms other)

none_cases : (o : Ordering) (l : List ℕ) (u : Tree) (ms rest : Members) (found : Option Tree) → (found ≡ None → rest ≡ ms) → match_ordering o found (Some u) found ≡ None
    → match_ordering o (member l u rest) rest (member l u rest) ≡ member l u ms
none_cases Less l u ms rest found later none = ap (member l u) (later none)
none_cases Equal l u ms rest found later none = absurd cc
none_cases Greater l u ms rest found later none = ap (member l u) (later none)

-- where nothing is found there is nothing to take out
pub without-none : (k : List ℕ) (ms : Members) → find k ms ≡ None → without k ms ≡ ms
without-none k no_members none = refl
without-none k (member l u ms) none = none_cases (slice_cmp nat_cmp k l) l u ms (without k ms) (find k ms) (without-none k ms) none

-- the step of `json_found`, at the order of the key and the first one
json_found_at : (o : Ordering) (u : Tree) (rest : Option Tree) → IsTrue (is_json u) → IfSome rest (λ t. IsTrue (is_json t)) → IfSome (match_ordering o rest (Some u) rest) (λ t. IsTrue (is_json t))
json_found_at Less u rest first others = others
json_found_at Equal u rest first others = first
json_found_at Greater u rest first others = others

-- what is found among members that are JSON is JSON
pub json_found : (k : List ℕ) (ms : Members) → IsTrue (members_are_json ms) → IfSome (find k ms) (λ t. IsTrue (is_json t))
json_found k no_members all = tt
json_found k (member l u ms) all =
    let parts = and_parts (is_json u) (members_are_json ms) all in
    json_found_at (slice_cmp nat_cmp k l) u (find k ms) parts.0 (json_found k ms parts.1)
