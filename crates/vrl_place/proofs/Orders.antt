-- Steps in order, and a case for each order.
use Rattle.std.proofs.Common.{◌≡◌, ◌≢◌, ℕ, ◌<◌, true, false, List, Some, Ordering, Less, Equal, Greater, is_eq, refl, sym, ap, ◌∙◌}
use Rattle.std.proofs.lemmas.Bool.{true≢false}
use Rattle.std.proofs.lemmas.Cmp.{nat_cmp_total, nat_list_cmp_total, tied_itself, ranked}
use Rattle.std.proofs.lemmas.Map.Text.{is_eq-slice_cmp}
use Rattle.std.proofs.lemmas.Slice.Eq.{bytes_eq-Decides}
use Rattle.std.specs.Cmp.{nat_cmp_is}
use Rattle.std.specs.Cmp.Lexicographic.{slice_cmp}
use Rattle.std.specs.Ordering.{nat_cmp, match_ordering}
use Rattle.vrl_value.specs.Look.{Step}
use Rattle.vrl_value.specs.declared.value.Tag.{Tag}
use Rattle.vrl_kind.specs.Sets.{Sets}
use Rattle.vrl_kind.specs.Tags.{Tags}

-- the same at a path and a tag, case by case
pub cases_at : (o : Ordering) (X I Y : Sets) (Z J W : Tags) (q : List Step) (t : Tag) → X q t ≡ Z t → I q t ≡ J t → Y q t ≡ W t → match_ordering o X I Y q t ≡ match_ordering o Z J W t
cases_at Less X I Y Z J W q t x i y = x
cases_at Equal X I Y Z J W q t x i y = i
cases_at Greater X I Y Z J W q t x i y = y

pub tags_cases : (o : Ordering) (X I Y Z J W : Tags) (t : Tag) → X t ≡ Z t → I t ≡ J t → Y t ≡ W t → match_ordering o X I Y t ≡ match_ordering o Z J W t
tags_cases Less X I Y Z J W t x i y = x
tags_cases Equal X I Y Z J W t x i y = i
tags_cases Greater X I Y Z J W t x i y = y

pub below : (i k : ℕ) → i < k → nat_cmp i k ≡ Less
below i k h = sym (nat_cmp_is i k Less h)

pub itself : (k : ℕ) → nat_cmp k k ≡ Equal
itself k = tied_itself nat_cmp_total k

pub above : (i k : ℕ) → k < i → nat_cmp i k ≡ Greater
above i k h = sym (nat_cmp_is i k Greater h)

pub some_is : (i j : ℕ) → Some i ≡ Some j → i ≡ j
some_is i j same = cc

pub under : (j i : ℕ) → nat_cmp j i ≡ Less → j < i
under j i e = ranked j i Less (sym e)

pub equal : (j i : ℕ) → nat_cmp j i ≡ Equal → j ≡ i
equal j i e = ranked j i Equal (sym e)

pub over : (j i : ℕ) → nat_cmp j i ≡ Greater → i < j
over j i e = ranked j i Greater (sym e)

pub one_name : (n m : List ℕ) → slice_cmp nat_cmp n m ≡ Equal → n ≡ m
one_name n m same = (bytes_eq-Decides n m).0 (sym (is_eq-slice_cmp n m) ∙ ap is_eq same)

pub other_name : (o : Ordering) (n m : List ℕ) → slice_cmp nat_cmp n m ≡ o → o ≢ Equal → n ≢ m
other_name o n m is ne same = ne (sym is ∙ ap (λ x. slice_cmp nat_cmp n x) (sym same) ∙ tied_itself nat_list_cmp_total n)

-- what a test for one name says
pub is_one : (o : Ordering) → match_ordering o false true false ≡ true → o ≡ Equal
is_one Less h = absurd (true≢false (sym h))
is_one Equal h = refl
is_one Greater h = absurd (true≢false (sym h))

pub is_other : (o : Ordering) → match_ordering o false true false ≡ false → o ≢ Equal
is_other Less h e = cc
is_other Equal h e = true≢false h
is_other Greater h e = cc
