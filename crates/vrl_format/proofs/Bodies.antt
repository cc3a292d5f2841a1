-- The most bodies of closures that are open at once. Separators that part nothing make no difference
-- to it.
use Rattle.std.proofs.Common.{arith, ◌≡◌, refl, sym, ap, ◌∙◌, ℕ, ◌≤◌, max, Bool, true, false, ◌&&◌, not, List, [], ◌∷◌, Option, Some}
use Rattle.vrl_token.specs.Brackets.{block_behind, bodies_in, closed, closes, open_behind, opened, with_bracket}
use Rattle.vrl_token.specs.declared.bracket.Bracket.{Bracket}
use Rattle.vrl_token.specs.declared.token.Token.{Token}
use Rattle.vrl_token.specs.declared.token.Token.TheVariants as token
use Rattle.vrl_format.proofs.Joining.{is_behind}
use Rattle.vrl_format.specs.Apart.{is_edge_behind}
use Rattle.vrl_format.proofs.Parting.{is_edge_before, parted_from}
use Rattle.vrl_format.proofs.Deepest.{canon, maxed, spelled}
use Rattle.vrl_format.proofs.Worst.{bodies, most, most_here}

abbrev is_close_bars : Token → Bool
is_close_bars token.CloseBars = true
is_close_bars t = false

-- ---- what stands before

-- behind these tokens the same brackets are open, and a block would be a body behind either
record Alike (before other : List Token) : Type 0 where
  open_are : open_behind before ≡ open_behind other
  bars_are : is_behind is_close_bars before ≡ is_behind is_close_bars other

abbrev block_by : Bool → Bracket
block_by true = block_behind (token.CloseBars ∷ [])
block_by false = block_behind []

block_is : (before : List Token) → block_behind before ≡ block_by (is_behind is_close_bars before)
block_is [] = refl
block_is (token.CloseBars ∷ ts) = refl
block_is (t ∷ ts) = refl

opened_alike : (t : Token) (before other : List Token) → Alike before other → opened t before ≡ opened t other
opened_alike token.OpenBlock before other alike = ap Some (block_is before ∙ ap block_by alike.bars_are ∙ sym (block_is other))
opened_alike t before other alike = refl

alike_more : (t : Token) (before other : List Token) → Alike before other → Alike (t ∷ before) (t ∷ other)
alike_more t before other alike = record {
  open_are = ap (λ (o : Option Bracket). with_bracket o (closes t) (open_behind before)) (opened_alike t before other alike)
      ∙ ap (λ (bs : List Bracket). with_bracket (opened t other) (closes t) bs) alike.open_are;
  bars_are = refl;
}

-- ---- the most bodies

-- the most are those of the parted tokens: behind a token, behind separators, and at an edge
record SameBodies (ts : List Token) : Type 0 where
  plain : (before other : List Token) → Alike before other → most bodies before ts ≡ most bodies other (canon (parted_from false false ts))
  behind : (before other : List Token) → open_behind before ≡ open_behind other → is_behind is_close_bars before ≡ false
      → most bodies before ts ≡ most bodies other (canon (parted_from false true ts))
  edge : (seen : Bool) (before other : List Token) → Alike before other → is_behind is_close_bars before ≡ false
      → most bodies before ts ≡ most bodies other (canon (parted_from true seen ts))

abbrev behind_token : Token → List Token → List Token
behind_token t ts = canon (parted_from (is_edge_behind t) false ts)

moved_bodies : (t : Token) (ts : List Token) → SameBodies ts → (before other : List Token) → Alike (t ∷ before) (t ∷ other) → most bodies (t ∷ before) ts ≡ most bodies (t ∷ other) (behind_token t ts)
moved_bodies token.OpenBlock ts same before other alike = same.edge false (token.OpenBlock ∷ before) (token.OpenBlock ∷ other) alike refl
moved_bodies token.Separator ts same before other alike = same.plain (token.Separator ∷ before) (token.Separator ∷ other) alike
moved_bodies t ts same before other alike = same.plain (t ∷ before) (t ∷ other) alike

bodies_step : (t : Token) (ts : List Token) → SameBodies ts → (before other : List Token) → Alike before other → most bodies before (t ∷ ts) ≡ most bodies other (t ∷ behind_token t ts)
bodies_step t ts same before other alike = maxed (ap bodies_in alike.open_are) (moved_bodies t ts same before other (alike_more t before other alike))

bodies_edge : (t : Token) (ts : List Token) → SameBodies ts → (seen : Bool) (before other : List Token) → Alike before other
    → most bodies before (t ∷ ts) ≡ most bodies other (spelled (seen && (false && not (is_edge_before t))) t (behind_token t ts))
bodies_edge t ts same true before other alike = bodies_step t ts same before other alike
bodies_edge t ts same false before other alike = bodies_step t ts same before other alike

-- a number that is no more than another one
under : (a b c d : ℕ) → a ≡ b → c ≡ d → b ≤ d → max a c ≡ d
under a b c d same other below = omega arith

bodies_separator : (ts : List Token) → SameBodies ts → SameBodies (token.Separator ∷ ts)
bodies_separator ts same = record {
  plain = λ before other alike. passed before other alike.open_are;
  behind = λ before other open_are no_bars. passed before other open_are;
  edge = λ seen before other alike no_bars. under (bodies before) (bodies other) (most bodies (token.Separator ∷ before) ts) (most bodies other (canon (parted_from true true ts)))
      (ap bodies_in alike.open_are)
      (same.edge true (token.Separator ∷ before) other (record { open_are = alike.open_are; bars_are = sym no_bars ∙ alike.bars_are }) refl)
      (most_here bodies other (canon (parted_from true true ts)));
}
  where
    passed : (before other : List Token) → open_behind before ≡ open_behind other → most bodies before (token.Separator ∷ ts) ≡ most bodies other (canon (parted_from false true ts))
    passed before other open_are = under (bodies before) (bodies other) (most bodies (token.Separator ∷ before) ts) (most bodies other (canon (parted_from false true ts)))
        (ap bodies_in open_are) (same.behind (token.Separator ∷ before) other open_are refl) (most_here bodies other (canon (parted_from false true ts)))

over : (a b c : ℕ) → a ≡ c → b ≤ c → a ≡ max b c
over a b c same below = omega arith

bodies_behind : (t : Token) (ts : List Token) → SameBodies ts → (before other : List Token) → open_behind before ≡ open_behind other → is_behind is_close_bars before ≡ false
    → most bodies before (t ∷ ts) ≡ most bodies other (token.Separator ∷ t ∷ behind_token t ts)
bodies_behind t ts same before other open_are no_bars =
    over (most bodies before (t ∷ ts)) (bodies other) (most bodies (token.Separator ∷ other) (t ∷ behind_token t ts))
    (bodies_step t ts same before (token.Separator ∷ other) (record { open_are = open_are; bars_are = no_bars }))
    (most_here bodies (token.Separator ∷ other) (t ∷ behind_token t ts))

bodies_brace : (ts : List Token) → SameBodies ts → (before other : List Token) → open_behind before ≡ open_behind other
    → most bodies before (token.CloseBrace ∷ ts) ≡ most bodies other (token.CloseBrace ∷ canon (parted_from false false ts))
bodies_brace ts same before other open_are =
    maxed (ap bodies_in open_are) (same.plain (token.CloseBrace ∷ before) (token.CloseBrace ∷ other) (record { open_are = ap closed open_are; bars_are = refl }))

bodies_more : (t : Token) (ts : List Token) → SameBodies ts → SameBodies (t ∷ ts)
bodies_more token.Separator ts same = bodies_separator ts same
bodies_more token.CloseBrace ts same = record {
  plain = bodies_step token.CloseBrace ts same;
  behind = λ before other open_are no_bars. bodies_brace ts same before other open_are;
  edge = λ seen before other alike no_bars. bodies_edge token.CloseBrace ts same seen before other alike;
}
bodies_more t ts same = record {
  plain = bodies_step t ts same;
  behind = bodies_behind t ts same;
  edge = λ seen before other alike no_bars. bodies_edge t ts same seen before other alike;
}

same_bodies : (ts : List Token) → SameBodies ts
same_bodies [] = record {
  plain = λ before other alike. ap bodies_in alike.open_are;
  behind = λ before other open_are no_bars. ap bodies_in open_are;
  edge = λ seen before other alike no_bars. ap bodies_in alike.open_are;
}
same_bodies (t ∷ ts) = bodies_more t ts (same_bodies ts)

-- the most bodies are those among the parted tokens
pub bodies_parted : (ts : List Token) → most bodies [] ts ≡ most bodies [] (canon (parted_from true false ts))
bodies_parted ts = (same_bodies ts).edge false [] [] (record { open_are = refl; bars_are = refl }) refl
