-- The next match, by the leftmost one from where the last one ended.
use Rattle.std.proofs.Common.{◌≡◌, ℕ, ◌-◌, ◌<◌, ◌≤◌, List, true, Option, None, Some, option_map, refl, sym, ap, subst, ◌∙◌}
use Rattle.std.proofs.lemmas.Option.{none-some, same_Some}
use Rattle.regex.specs.Patterns.{Match, Re, find_str, span}
use Rattle.regex.specs.Search.{next_match}
use Rattle.regex.proofs.SearchLemmas.{leftmost_within, next_later, next_same}

-- the match that has a span
pub spanned : (o : Option Match) (s : ℕ × ℕ) → option_map span o ≡ Some s → (m : Match) × (o ≡ Some m) × (s ≡ span m)
spanned None s e = absurd (cc)
spanned (Some m) s e = (m, refl, sym (same_Some _ _ e))

pub not_spanned : (o : Option Match) → option_map span o ≡ None → o ≡ None
not_spanned None e = refl
not_spanned (Some m) e = absurd (cc)

module _ (re : Re) (hay : List ℕ) where
  -- the leftmost one begins no earlier than it is looked for
  pub begins_behind : (from : ℕ) (s : ℕ × ℕ) → option_map span (find_str re hay from) ≡ Some s → from ≤ s.0
  begins_behind from s found =
      let m = spanned (find_str re hay from) s found in
      subst (λ (p : ℕ × ℕ). from ≤ p.0) (sym m.2) (leftmost_within re hay true from m.0 m.1).0

module _ (re : Re) (hay : List ℕ) (after : ℕ) where
  -- there is none where none begins from there on
  pub none_next : find_str re hay (after - 1) ≡ None → next_match true re hay after ≡ None
  none_next none = next_same re hay true after (λ m is. absurd (none-some m (sym none ∙ is))) ∙ none

  -- it is the leftmost one, unless that is an empty one there
  pub some_next : (m : Match) → find_str re hay (after - 1) ≡ Some m → after ≤ m.trace.end →
      next_match true re hay after ≡ Some m
  some_next m is behind =
      let ends : (n : Match) → find_str re hay (after - 1) ≡ Some n → after ≤ n.trace.end =
      λ n found. subst (λ (x : Match). after ≤ x.trace.end) (same_Some _ _ (sym is ∙ found)) behind in
      next_same re hay true after ends ∙ is

  -- the same, told by the spans alone
  pub no_span_next : option_map span (find_str re hay (after - 1)) ≡ None →
      option_map span (next_match true re hay after) ≡ None
  no_span_next none = ap (option_map span) (none_next (not_spanned (find_str re hay (after - 1)) none))

  pub span_next : (s : ℕ × ℕ) → option_map span (find_str re hay (after - 1)) ≡ Some s → after ≤ s.1 →
      option_map span (next_match true re hay after) ≡ Some s
  span_next s found behind =
      let m = spanned (find_str re hay (after - 1)) s found in
      ap (option_map span) (some_next m.0 m.1 (subst (λ (p : ℕ × ℕ). after ≤ p.1) m.2 behind)) ∙ ap Some (sym m.2)

  pub span_later : (s : ℕ × ℕ) → option_map span (find_str re hay (after - 1)) ≡ Some s → s.1 < after →
      option_map span (next_match true re hay after) ≡ option_map span (find_str re hay after)
  span_later s found before =
      let m = spanned (find_str re hay (after - 1)) s found in
      ap (option_map span) (next_later re hay true after m.0 m.1 (subst (λ (p : ℕ × ℕ). p.1 < after) m.2 before))
