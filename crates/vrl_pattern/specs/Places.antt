-- Where something lies in a text.
use Rattle.std.specs.Prelude.{◌≤◌, ℕ, List, All, IfSome, IsCharBoundary, Option, option_map, map}
use Rattle.vrl_pattern.specs.declared.place.Place.{Place}

abbrev pub place_span : Place → ℕ × ℕ
place_span p = (p.start, p.end)

-- the spans of places, none where there is no place
abbrev pub place_spans : List (Option Place) → List (Option (ℕ × ℕ))
place_spans = map (option_map place_span)

-- a span in a text, both ends of which fall between characters
pub record IsPart (text : List ℕ) (s : ℕ × ℕ) : Type 0 where
  pub ordered : s.0 ≤ s.1
  pub starts : IsCharBoundary text s.0
  pub ends : IsCharBoundary text s.1

-- each span is such a part
abbrev pub AreParts : List ℕ → List (Option (ℕ × ℕ)) → Type 0
AreParts text = All (λ s. IfSome s (IsPart text))
