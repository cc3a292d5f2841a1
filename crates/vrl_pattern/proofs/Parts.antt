-- Each group of a match in a text lies between characters.
use Rattle.std.proofs.Common.{◌≡◌, ℕ, zero, suc, ◌+◌, ◌-◌, ◌*◌, ◌<◌, ◌≤◌, Bool, true, false, ◌&&◌, List, All, map, take, length, Option, Some, None, IfSome, IsUtf8, IsCharBoundary, refl, sym, ◌∙◌, arith, if◌then◌else◌, nat_le, ne_eqb, true≢false, subst, slice_index, get_or, ◌==◌}
use Rattle.std.proofs.lemmas.Bool.{cond-false}
use Rattle.std.proofs.lemmas.Bool.Decides.{nat_tests}
use Rattle.std.proofs.lemmas.List.Elements.{All-map, All-take, All-weaker}
use Rattle.std.proofs.lemmas.Option.{none-some, same_Some}
use Rattle.std.proofs.Math.Logic.{∥∥₁_elim}
use Rattle.std.specs.Coded.{coded_ℕ, coded_option, coded×}
use base.Stored.{Coded-set}
use Rattle.regex_hir.specs.Text.{is_boundary}
use Rattle.regex_hir.proofs.FindLemmas.{IsFirst-of_first_between}
use Rattle.regex_vm.specs.Found.{group_cells}
use Rattle.regex.specs.Patterns.{Match, find_all_str, find_str, span}
use Rattle.regex.specs.Search.{group_span}
use Rattle.regex.specs.Strings.{matcher_pattern}
use Rattle.regex.specs.Views.{engine_width}
use Rattle.regex.specs.Writes.{group_of}
use Rattle.regex.specs.declared.string.matcher.Matcher.{Matcher}
use Rattle.regex.proofs.GroupLemmas.{group_span_of_match}
use Rattle.regex.proofs.RoomLemmas.{engine_has_room}
use Rattle.regex.proofs.SearchLemmas.{leftmost_attempt, leftmost_within}
use Rattle.regex.proofs.Utf8Lemmas.{IsCharBoundary-of_test, match_ends_cleanly}
use Rattle.regex.proofs.WrittenLemmas.{all_found, IsFound}
use Rattle.vrl_pattern.specs.Matches.{group_place}
use Rattle.vrl_pattern.specs.Places.{AreParts, IsPart}

tested : {A : Type 0} (b : Bool) (o : Option A) (x : A) → (if b then o else None) ≡ Some x → (b ≡ true) × (o ≡ Some x)
tested true o x e = (refl, e)
tested false o x e = absurd (none-some x e)

and_both : (a b : Bool) → (a && b) ≡ true → (a ≡ true) × (b ≡ true)
and_both true b e = (refl, e)
and_both false b e = absurd (true≢false (sym e))

-- the cells of a group that are between characters
cells_part : (hay : List ℕ) (first last : ℕ) (s : ℕ × ℕ) →
    (if nat_le 1 first && (nat_le first last && (nat_le last (length hay + 1) && (is_boundary hay (first - 1) && is_boundary hay (last - 1)))) then Some (first - 1, last - 1) else None) ≡ Some s →
    IsPart hay s
cells_part hay first last s e =
    let at = tested (nat_le 1 first && (nat_le first last && (nat_le last (length hay + 1) && (is_boundary hay (first - 1) && is_boundary hay (last - 1))))) (Some (first - 1, last - 1)) s e in
    let a = and_both (nat_le 1 first) _ at.0 in
    let b = and_both (nat_le first last) _ a.1 in
    let d = and_both (nat_le last (length hay + 1)) _ b.1 in
    let f = and_both (is_boundary hay (first - 1)) (is_boundary hay (last - 1)) d.1 in
    let some : 1 ≤ first = grind (arith, nat_tests) in
    let ordered : first ≤ last = grind (arith, nat_tests) in
    let inside : last ≤ length hay + 1 = grind (arith, nat_tests) in
    let is : (first - 1, last - 1) ≡ s = same_Some _ _ at.1 in
    subst (IsPart hay) is (record {
      ordered = omega arith;
      starts = IsCharBoundary-of_test hay (first - 1) (omega arith) f.0;
      ends = IsCharBoundary-of_test hay (last - 1) (omega arith) f.1;
    })

span_is_part : (hay : List ℕ) (whole : ℕ × ℕ) (cells : List ℕ) (n : ℕ) (s : ℕ × ℕ) → group_span true hay whole cells (suc n) ≡ Some s → IsPart hay s
unfolding group_span
span_is_part hay whole cells n s e = cells_part hay (slice_index cells (2 * suc n - 2)) (slice_index cells (2 * suc n - 1)) s
    (sym (cond-false (suc n == 0) (Some whole) _ (ne_eqb (suc n) 0 (omega arith))) ∙ e)

if_some : {A : Type 0} (o : Option A) (P : A → Type 0) → ((x : A) → o ≡ Some x → P x) → IfSome o P
if_some None P so = tt
if_some (Some x) P so = so x refl

module _ (matcher : Matcher) (hay : List ℕ) (utf8 : IsUtf8 hay) (bytes : All (λ b. b < 256) hay) where
  starts_cleanly : (start : ℕ) (m : Match) → find_str (matcher_pattern matcher) hay start ≡ Some m → IsCharBoundary hay m.start
  unfolding find_str
  starts_cleanly start m e =
      let first = IsFirst-of_first_between _ start (length hay) m e in
      IsCharBoundary-of_test hay m.start first.to (tested (is_boundary hay m.start) _ m.trace first.here).0

  whole_is_part : (start : ℕ) (m : Match) → find_str (matcher_pattern matcher) hay start ≡ Some m → IsPart hay (span m)
  whole_is_part start m e =
      let starts = starts_cleanly start m e in record {
        ordered = (leftmost_within (matcher_pattern matcher) hay true start m e).1;
        starts = starts;
        ends = match_ends_cleanly (matcher_pattern matcher) hay bytes matcher.whole_characters utf8 m.start m.trace starts (leftmost_attempt (matcher_pattern matcher) hay true start m e).2;
      }

  group_is_part : (start : ℕ) (m : Match) → find_str (matcher_pattern matcher) hay start ≡ Some m → (n : ℕ) → IfSome (group_place m n) (IsPart hay)
  group_is_part start m e zero = whole_is_part start m e
  group_is_part start m e (suc n) =
      let same : group_span true hay (span m) (group_cells m (engine_width matcher.engine)) (suc n) ≡ group_of m (suc n) =
      ∥∥₁_elim matcher.whole_characters (Coded-set (coded_option (coded× coded_ℕ coded_ℕ)) _ _)
      (λ h. group_span_of_match true (matcher_pattern matcher) hay start m (engine_width matcher.engine) (suc n) (λ _. (utf8, h)) (engine_has_room matcher.engine) (omega arith) e) in
      if_some (group_of m (suc n)) (IsPart hay) (λ s is. span_is_part hay (span m) _ n s (same ∙ is))

  -- so of each match from the left
  pub all_are_parts : (most : ℕ) (ns : List ℕ) → All (AreParts hay) (map (λ m. map (group_place m) ns) (take most (find_all_str (matcher_pattern matcher) hay)))
  all_are_parts most ns =
      let all = find_all_str (matcher_pattern matcher) hay in
      let places : Match → List (Option (ℕ × ℕ)) = λ m. map (group_place m) ns in
      let P : Match → Type 0 = λ m. AreParts hay (places m) in
      let each : All P all =
      All-weaker (IsFound (find_str (matcher_pattern matcher) hay)) P
      (λ m found. All-map (λ s. IfSome s (IsPart hay)) (group_place m) ns (λ k d h. group_is_part found.0 m found.1 (get_or ns k d)))
      all (all_found (find_str (matcher_pattern matcher) hay) None (length hay + 1)) in
      All-map (AreParts hay) places (take most all) (All-take P most all each)
