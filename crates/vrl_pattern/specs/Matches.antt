-- What a regex matches in a text, told by its source: what the grammar of the crate `regex` reads
-- in the source under its own options, and what that crate's definitions say it matches.
use Rattle.std.specs.Prelude.{ℕ, zero, suc, ◌-◌, List, [], Option, Some, None, chars, length, map, take, slice_range, ◌==◌, if◌then◌else◌}
use Rattle.std.specs.List.{range_with_len}
use Rattle.regex.specs.Patterns.{Re, Match, empty, find_all_str, find_str, span}
use Rattle.regex.specs.Replace.{group_bytes, replaced_by}
use Rattle.regex.specs.Search.{gaps, take_limit}
use Rattle.regex.specs.Templates.{written_after}
use Rattle.regex.specs.Writes.{group_of}
use Rattle.regex_syntax.specs.Brackets.{Nested}
use Rattle.regex_syntax.specs.Grammar.{Names, read}
use Rattle.regex_syntax.specs.Verdict.{default_config}

-- what is read; no regex is kept whose source is malformed
abbrev pub pattern_read : Option (Nested Re × Names) → Re
pattern_read None = empty
pattern_read (Some found) = found.0.value

abbrev pub names_read : Option (Nested Re × Names) → Names
names_read None = []
names_read (Some found) = found.1

-- the pattern of a source
unfoldable pub pattern_of : List ℕ → Re
pattern_of source = pattern_read (read default_config (chars source))

-- its groups from group 0 on, each with its name where it has one
unfoldable pub groups_read : List ℕ → Names
groups_read source = names_read (read default_config (chars source))

-- the leftmost match in a text
abbrev pub first_match : List ℕ → List ℕ → Option Match
first_match source text = find_str (pattern_of source) text 0

-- the matches in a text from the left, none over another
abbrev pub all_matches : List ℕ → List ℕ → List Match
all_matches source text = find_all_str (pattern_of source) text

-- where a group lies, if it took part; group 0 is the match
abbrev pub group_place : Match → ℕ → Option (ℕ × ℕ)
group_place m zero = Some (span m)
group_place m (suc n) = group_of m (suc n)

-- where each group lies
abbrev pub group_places : List ℕ → Match → List (Option (ℕ × ℕ))
group_places source m = map (group_place m) (range_with_len 0 (length (groups_read source)))

-- the parts of a text from a place on, between these matches and around them
abbrev pub cut : List ℕ → ℕ → List Match → List (List ℕ)
cut text start ms = map (λ p. slice_range text p.0 p.1) (gaps (length text) start ms)

-- the parts of a text between these matches, at most so many, the last of which holds the rest
abbrev pub parts_of : List ℕ → ℕ → List Match → List (List ℕ)
parts_of text limit ms =
    map (λ p. slice_range text p.0 p.1) (if limit == 0 then [] else gaps (length text) 0 (take (limit - 1) ms))

-- those between the matches of a source
abbrev pub pieces : List ℕ → List ℕ → ℕ → List (List ℕ)
pieces source text limit = parts_of text limit (all_matches source text)

-- the text with the first so many matches replaced, or each: what the template writes stands in the
-- place of each
abbrev pub replaced : List ℕ → List ℕ → List ℕ → Option ℕ → List ℕ
replaced source text template count =
    replaced_by (λ m. written_after (groups_read source) (group_bytes text m) template 0) text 0
    (take_limit count (all_matches source text))
