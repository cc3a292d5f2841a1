-- The first match, and all of them.
use Rattle.std.proofs.Common.{◌≡◌, ℕ, zero, suc, ◌+◌, ◌≤◌, List, [], ◌∷◌, map, take, length, Option, Some, None, option_map, add-one, refl, ap, ◌∙◌, arith}
use Rattle.std.proofs.lemmas.List.{take_all}
use Rattle.regex.specs.Patterns.{Match, find_str}
use Rattle.regex_hir.specs.Find.{find_after, matches_from}
use Rattle.vrl_value.specs.Tree.{Tree}
use Rattle.vrl_builtin.specs.Rows.{told}
use Rattle.vrl_pattern.specs.Matches.{all_matches, first_match, pattern_of}
use Rattle.fn_search.specs.Known.{listed}

head_of : (f : ℕ → Option Match) (n : ℕ) (o : Option Match) → take 1 (matches_from f (suc n) o) ≡ listed o
unfolding matches_from
head_of f n None = refl
head_of f n (Some m) = refl

pub first_of_all : (source text : List ℕ) → take 1 (all_matches source text) ≡ listed (first_match source text)
first_of_all source text =
    ap (λ n. take 1 (matches_from (find_str (pattern_of source) text) n (find_str (pattern_of source) text 0))) (add-one (length text)) ∙ head_of _ (length text) _

few : (f : ℕ → Option Match) (n : ℕ) (o : Option Match) → length (matches_from f n o) ≤ n
unfolding matches_from
few f zero o = omega arith
few f (suc n) None = omega arith
few f (suc n) (Some m) = let rest = few f n (find_after f m.trace.end) in omega (arith, rest)

-- a text has no more matches than places
pub all_of : (source text : List ℕ) (most : ℕ) → length text + 1 ≤ most → take most (all_matches source text) ≡ all_matches source text
all_of source text most within =
    let few_are = few (find_str (pattern_of source) text) (length text + 1) (find_str (pattern_of source) text 0) in
    take_all most (all_matches source text) (omega (arith, few_are, within))

pub map_listed : {A B : Type 0} (f : A → B) (o : Option A) → map f (listed o) ≡ listed (option_map f o)
map_listed f None = refl
map_listed f (Some a) = refl

pub told_so : {A : Type 0} (f : A → Tree) (words : List ℕ) (o : Option A) → told (λ v. v) words (option_map f o) ≡ told f words o
told_so f words None = refl
told_so f words (Some a) = refl

pub map_twice : {A B C : Type 0} (f : B → C) (g : A → B) (xs : List A) → map f (map g xs) ≡ map (λ x. f (g x)) xs
map_twice f g [] = refl
map_twice f g (x ∷ xs) = ap (λ ys. f (g x) ∷ ys) (map_twice f g xs)
