-- The regex that is built of a source matches what the source's pattern does.
use Rattle.std.proofs.Common.{◌≡◌, ℕ, zero, suc, ◌+◌, ◌*◌, ◌<◌, ◌==◌, true, List, [], ◌∷◌, ◌++◌, map, take, length, Option, Some, None, IsSomeAnd, chars, refl, sym, ap, ap₂, ◌∙◌, if◌then◌else◌, slice_range, get_or, option_map, rules, string_bytes, String, vec_len, Vec, ◌≤◌}
use Rattle.std.proofs.lemmas.List.{length-map, take-map}
use mathlib.Core.Path.{fun_ext}
use Rattle.std.specs.declared.alloc.Global.{Global}
use Rattle.regex.specs.Patterns.{Re, Match, SameCaptures, Reads, find_all_str, find_str, span}
use Rattle.regex.specs.Replace.{bytes_of, group_bytes, replaced_by}
use Rattle.regex.specs.Search.{gaps, take_limit}
use Rattle.regex.specs.Strings.{group_count, regex_names, regex_pattern}
use Rattle.regex.specs.Templates.{written_after}
use Rattle.regex.specs.Writes.{both}
use Rattle.regex.specs.declared.string.regex.Regex.{Regex}
use Rattle.regex.proofs.ForCallers.{find_all_alike, gaps_alike, span_alike, spans}
use Rattle.regex_syntax.specs.Brackets.{Nested}
use Rattle.regex_syntax.specs.Grammar.{Names, read}
use Rattle.regex_syntax.specs.Grammar as grammar
use Rattle.regex_syntax.specs.Verdict.{default_config}
use Rattle.vrl_pattern.specs.Built.{IsBuiltOf}
use Rattle.vrl_pattern.specs.Matches.{all_matches, first_match, group_place, groups_read, names_read, pattern_of, pattern_read, replaced}

-- ---- what is read

alike_read : (o : Option (Nested Re × Names)) (most : ℕ) (a : Re) (names : Names) →
    IsSomeAnd o (λ (re, found). (re.depth ≤ most) × SameCaptures a re.value × (names ≡ found) × (grammar.group_count a ≤ length names)) → SameCaptures a (pattern_read o)
alike_read None most a names reads = absurd reads
alike_read (Some x) most a names reads = reads.1

named_read : (o : Option (Nested Re × Names)) (most : ℕ) (a : Re) (names : Names) →
    IsSomeAnd o (λ (re, found). (re.depth ≤ most) × SameCaptures a re.value × (names ≡ found) × (grammar.group_count a ≤ length names)) → names ≡ names_read o
named_read None most a names reads = absurd reads
named_read (Some x) most a names reads = reads.2

vec_len_items : (v : Vec (Option (String Global)) Global) → vec_len v ≡ length v.items
vec_len_items v = search rules

module _ (source : List ℕ) (regex : Regex) (built : IsBuiltOf source regex) where
  reads : Reads default_config source regex.pattern.program.hir (regex_names regex)
  reads = rw (built.source_is, built.config_is) at built.read

  pub same_pattern : SameCaptures (regex_pattern regex) (pattern_of source)
  unfolding Reads pattern_of
  same_pattern = alike_read (read default_config (chars source)) default_config.nest_limit (regex_pattern regex) (regex_names regex) reads

  pub same_names : regex_names regex ≡ groups_read source
  unfolding Reads groups_read
  same_names = named_read (read default_config (chars source)) default_config.nest_limit (regex_pattern regex) (regex_names regex) reads

  -- as many groups
  pub count_of_groups : group_count regex ≡ length (groups_read source)
  count_of_groups = vec_len_items regex.pattern.names ∙ sym (length-map regex.pattern.names.items (option_map string_bytes)) ∙ ap length same_names

-- ---- what is found

-- what is computed of a match by what a caller sees of it
abbrev Seen : Type 0
Seen = ℕ × ℕ × (ℕ → Option ℕ)

abbrev place_seen : Seen → ℕ → Option (ℕ × ℕ)
place_seen s zero = Some (s.0, s.1)
place_seen s (suc n) = both (s.2 (2 * suc n)) (s.2 (2 * suc n + 1))

-- the same as `regex` writes it
abbrev span_seen : Seen → ℕ → Option (ℕ × ℕ)
span_seen s n = if n == 0 then Some (s.0, s.1) else both (s.2 (2 * n)) (s.2 (2 * n + 1))

seen_so : (m : Match) (n : ℕ) → place_seen (spans m) n ≡ group_place m n
seen_so m zero = refl
seen_so m (suc n) = refl

map_seen : {A : Type 0} (f : Seen → A) (ms : List Match) → map (λ m. f (spans m)) ms ≡ map f (map spans ms)
map_seen f [] = refl
map_seen f (m ∷ ms) = ap (λ xs. f (spans m) ∷ xs) (map_seen f ms)

take_seen : (n : ℕ) (xs ys : List Match) → map spans xs ≡ map spans ys → map spans (take n xs) ≡ map spans (take n ys)
take_seen n xs ys e = sym (take-map spans n xs) ∙ ap (take n) e ∙ take-map spans n ys

limit_seen : (limit : Option ℕ) (xs ys : List Match) → map spans xs ≡ map spans ys → map spans (take_limit limit xs) ≡ map spans (take_limit limit ys)
limit_seen None xs ys e = e
limit_seen (Some n) xs ys e = take_seen n xs ys e

replaced_seen : (w : Seen → List ℕ) (hay : List ℕ) (xs ys : List Match) → map spans xs ≡ map spans ys → (at : ℕ) →
    replaced_by (λ m. w (spans m)) hay at xs ≡ replaced_by (λ m. w (spans m)) hay at ys
unfolding replaced_by
replaced_seen w hay [] [] e at = refl
replaced_seen w hay [] (y ∷ ys) e at = absurd cc
replaced_seen w hay (x ∷ xs) [] e at = absurd cc
replaced_seen w hay (x ∷ xs) (y ∷ ys) e at =
    let head : spans x ≡ spans y = cc in
    let tail : map spans xs ≡ map spans ys = cc in
    ap₂ ◌++◌ (ap (λ (s : Seen). slice_range hay at s.0 ++ w s) head)
    (replaced_seen w hay xs ys tail x.trace.end ∙ ap (λ (s : Seen). replaced_by (λ m. w (spans m)) hay s.1 ys) head)

module _ (source : List ℕ) (regex : Regex) (built : IsBuiltOf source regex) (hay : List ℕ) (bytes : (k : ℕ) → get_or hay k 0 < 256) where
  pub same_first : option_map span (find_str (regex_pattern regex) hay 0) ≡ option_map span (first_match source hay)
  same_first = span_alike (same_pattern source regex built) hay bytes true 0

  all_seen : map spans (find_all_str (regex_pattern regex) hay) ≡ map spans (all_matches source hay)
  all_seen = find_all_alike (same_pattern source regex built) hay bytes true

  pub same_places : (most : ℕ) (ns : List ℕ) → map (λ m. map (group_place m) ns) (take most (find_all_str (regex_pattern regex) hay)) ≡ map (λ m. map (group_place m) ns) (take most (all_matches source hay))
  same_places most ns =
      let f : Seen → List (Option (ℕ × ℕ)) = λ s. map (place_seen s) ns in
      let g : Match → List (Option (ℕ × ℕ)) = λ m. map (group_place m) ns in
      let same : (m : Match) → f (spans m) ≡ g m = λ m. ap (λ h. map h ns) (fun_ext (seen_so m)) in
      let all : (λ m. f (spans m)) ≡ g = fun_ext same in
      ap (λ h. map h (take most (find_all_str (regex_pattern regex) hay))) (sym all) ∙ map_seen f _ ∙ ap (map f) (take_seen most _ _ all_seen) ∙ sym (map_seen f _)
      ∙ ap (λ h. map h (take most (all_matches source hay))) all

  pub same_gaps : (cuts : ℕ) → gaps (length hay) 0 (take cuts (find_all_str (regex_pattern regex) hay)) ≡ gaps (length hay) 0 (take cuts (all_matches source hay))
  same_gaps cuts = gaps_alike (same_pattern source regex built) hay bytes true (Some cuts)

  pub same_replaced : (template : List ℕ) (limit : Option ℕ) →
      replaced_by (λ m. written_after (groups_read source) (group_bytes hay m) template 0) hay 0 (take_limit limit (find_all_str (regex_pattern regex) hay))
      ≡ replaced source hay template limit
  same_replaced template limit =
      replaced_seen (λ s. written_after (groups_read source) (λ n. bytes_of hay (span_seen s n)) template 0) hay _ _ (limit_seen limit _ _ all_seen) 0
