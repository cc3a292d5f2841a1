-- The parts of a text between matches that are found one after the other.
use Rattle.std.proofs.Common.{◌≡◌, ℕ, zero, suc, ◌+◌, ◌-◌, ◌<◌, ◌==◌, true, List, [], ◌∷◌, ◌++◌, length, map, take, slice_range, get_or, Some, option_map, if◌then◌else◌, sym, ap, ◌∙◌, arith, append_assoc}
use Rattle.std.proofs.lemmas.List.{map-append}
use Rattle.regex.specs.Patterns.{Match, Re, find_all_str, span}
use Rattle.regex.specs.Search.{matches_after, next_match}
use Rattle.regex.specs.Strings.{regex_pattern}
use Rattle.regex.specs.declared.string.regex.Regex.{Regex}
use Rattle.regex.proofs.SearchLemmas.{matches_after_some}
use Rattle.vrl_value.specs.Tree.{Tree, string}
use Rattle.vrl_value.specs.View.{tree_of}
use Rattle.vrl_value.specs.declared.value.Value.{Value}
use Rattle.vrl_pattern.specs.Built.{IsBuiltOf}
use Rattle.vrl_pattern.specs.Matches.{cut, parts_of, pieces}
use Rattle.vrl_pattern.proofs.Alike.{same_gaps}
use Rattle.vrl_pattern.proofs.Next.{spanned}

cut_more : (text : List ℕ) (start left : ℕ) (before ms : List Match) (m : Match) → 0 < left → before ≡ m ∷ ms →
    cut text start (take left before) ≡ slice_range text start m.start ∷ cut text m.trace.end (take (left - 1) ms)
cut_more text start zero before ms m some is = absurd (omega arith)
cut_more text start (suc n) before ms m some is =
    let less : suc n - 1 ≡ n = omega arith in
    ap (λ xs. cut text start (take (suc n) xs)) is
    ∙ ap (λ k. slice_range text start m.start ∷ cut text m.trace.end (take k ms)) (sym less)

-- one part more, in front of the next match
pub parts_go_on : (re : Re) (text : List ℕ) (start after left : ℕ) (s : ℕ × ℕ)
    (parts more : List Value) (v : Value) (all : List Tree) → 0 < left →
    option_map span (next_match true re text after) ≡ Some s →
    tree_of v ≡ string (slice_range text start s.0) → more ≡ parts ++ v ∷ [] →
    map tree_of parts ++ map string (cut text start (take left (matches_after true re text after))) ≡ all →
    map tree_of more ++ map string (cut text s.1 (take (left - 1) (matches_after true re text (s.1 + 1)))) ≡ all
parts_go_on re text start after left s parts more v all some found one adds so_far =
    let m = spanned (next_match true re text after) s found in
    let before = matches_after true re text after in
    let behind = matches_after true re text (m.0.trace.end + 1) in
    let rest : ℕ × ℕ → List Tree =
    λ p. map string (cut text p.1 (take (left - 1) (matches_after true re text (p.1 + 1)))) in
    let turn = cut_more text start left before behind m.0 some (matches_after_some re text true after m.0 m.1) in
    ap (λ vs. map tree_of vs ++ rest s) adds
    ∙ ap (λ ts. ts ++ rest s) (map-append tree_of parts (v ∷ []))
    ∙ append_assoc (map tree_of parts) (tree_of v ∷ []) (rest s)
    ∙ ap (λ t. map tree_of parts ++ t ∷ rest s) one
    ∙ ap (λ p. map tree_of parts ++ string (slice_range text start p.0) ∷ rest p) m.2
    ∙ ap (λ ts. map tree_of parts ++ map string ts) (sym turn) ∙ so_far

-- the last part, where no match is left
pub parts_end : (text : List ℕ) (start : ℕ) (left : List Match) (parts all : List Tree) → left ≡ [] →
    parts ++ map string (cut text start left) ≡ all →
    parts ++ string (slice_range text start (length text)) ∷ [] ≡ all
parts_end text start left parts all none so_far = ap (λ ms. parts ++ map string (cut text start ms)) (sym none) ∙ so_far

-- the parts between the matches of a regex are those between the matches of its source
pub all_pieces : (source : List ℕ) (regex : Regex) → IsBuiltOf source regex →
    (hay : List ℕ) → ((k : ℕ) → get_or hay k 0 < 256) → (limit : ℕ) →
    parts_of hay limit (find_all_str (regex_pattern regex) hay) ≡ pieces source hay limit
all_pieces source regex built hay bytes limit =
    ap (λ g. map (λ p. slice_range hay p.0 p.1) (if limit == 0 then [] else g))
    (same_gaps source regex built hay bytes (limit - 1))
