-- The byte from which on a text is looked at.
use Rattle.std.proofs.Common.{◌≡◌, ℕ, ◌+◌, ◌-◌, ◌≤◌, Bool, true, false, ◌&&◌, if◌then◌else◌, List, Some, None, IsCharBoundary, IsUtf8, length, drop, slice_range, subst, refl, ◌∙◌, arith, pos}
use Rattle.std.proofs.lemmas.Bool.{and_parts, cond-true}
use Rattle.std.proofs.lemmas.Bool.Decides.{nat_tests}
use Rattle.std.proofs.lemmas.List.{length-drop, take_all}
use Rattle.std.proofs.lemmas.Str.{IsCharBoundary-end, IsCharBoundary-from_drop}
use Rattle.regex.specs.Search.{is_cut_at}
use Rattle.regex.proofs.Utf8Lemmas.{IsCharBoundary-of_test, is_cut_at-text}
use Rattle.regex_hir.specs.Text.{is_boundary}
use Rattle.std.specs.Prelude.{nat_le}
use Rattle.fn_search.specs.Find.{start_of}

else_if : {A : Type 0} (b : Bool) (x y : A) → (b ≡ true → ⊥) → (if b then x else y) ≡ y
else_if true x y never = absurd (never refl)
else_if false x y never = refl

-- where what is left is a text
pub starts : (s left : List ℕ) (i : ℕ) → i ≤ length s → left ≡ drop i s → IsUtf8 left → start_of s (pos i) ≡ Some i
starts s left i within is text = cond-true (is_cut_at true s i) (Some i) None (is_cut_at-text s i (IsCharBoundary-from_drop s i within (subst IsUtf8 is text)))

pub rest_is : (s x : List ℕ) (i : ℕ) → x ≡ slice_range s i (length s) → length x + i ≡ length s → x ≡ drop i s
rest_is s x i is long = is ∙ take_all (length s - i) (drop i s) (omega (arith, length-drop i s))

-- where nothing is left
pub starts_not : (s : List ℕ) (i : ℕ) → (i ≤ length s → IsCharBoundary s i → ¬ IsCharBoundary s (length s)) → start_of s (pos i) ≡ None
unfolding is_cut_at
starts_not s i never = else_if (nat_le i (length s) && is_boundary s i) (Some i) None (λ is.
    let both = and_parts (nat_le i (length s)) (is_boundary s i) is in
    let within : i ≤ length s = grind (arith, nat_tests) in
    never within (IsCharBoundary-of_test s i within both.1) (IsCharBoundary-end s))
