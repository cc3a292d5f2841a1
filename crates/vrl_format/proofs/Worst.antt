-- The greatest of numbers that are told of places among tokens.
use Rattle.std.proofs.Common.{arith, ◌≡◌, refl, sym, ap, ◌∙◌, subst, ℕ, ◌+◌, ◌<◌, ◌≤◌, ◌⊎◌, inl, inr, max, List, [], ◌∷◌, ◌++◌, reverse}
use Rattle.std.proofs.lemmas.Bool.{cases_lt}
use Rattle.std.proofs.lemmas.List.{append-nil, append_assoc, reverse-append}
use Rattle.vrl_token.specs.Brackets.{bodies_in, open_behind}
use Rattle.vrl_token.specs.Nesting.{IsDeepAt, IsTooDeep, last_nesting, nesting_in, stretches_behind}
use Rattle.vrl_token.specs.declared.token.Token.{Token}
use Rattle.vrl_format.proofs.Joining.{behind_all}

-- the greatest number of a place before which some of these tokens stand, the nearest first
abbrev pub worst : (List Token → ℕ) → List Token → ℕ
worst f [] = f []
worst f (t ∷ ts) = max (f (t ∷ ts)) (worst f ts)

-- the same but for the last place
abbrev strict : (List Token → ℕ) → List Token → ℕ
strict f [] = 0
strict f (t ∷ ts) = worst f ts

-- the greatest from a place on, behind which these tokens stand
abbrev pub most : (List Token → ℕ) → List Token → List Token → ℕ
most f before [] = f before
most f before (t ∷ ts) = max (f before) (most f (t ∷ before) ts)

worst_is : (f : List Token → ℕ) (before : List Token) → worst f before ≡ max (strict f before) (f before)
worst_is f [] = omega arith
worst_is f (t ∷ ts) = omega arith

worst_more : (f : List Token → ℕ) (before : List Token) (n : ℕ) → max (worst f before) n ≡ max (strict f before) (max (f before) n)
worst_more f before n = let is = worst_is f before in omega arith

worst_ahead : (f : List Token → ℕ) (before ts : List Token) → worst f (behind_all before ts) ≡ max (strict f before) (most f before ts)
worst_ahead f before [] = worst_is f before
worst_ahead f before (t ∷ ts) = worst_ahead f (t ∷ before) ts ∙ worst_more f before (most f (t ∷ before) ts)

none_before : (n : ℕ) → max 0 n ≡ n
none_before n = omega arith

pub worst_most : (f : List Token → ℕ) (ts : List Token) → worst f (behind_all [] ts) ≡ most f [] ts
worst_most f ts = worst_ahead f [] ts ∙ none_before (most f [] ts)

pub most_here : (f : List Token → ℕ) (before ts : List Token) → f before ≤ most f before ts
most_here f before [] = omega arith
most_here f before (t ∷ ts) = omega arith

-- ---- places that exceed a number

worst_here : (f : List Token → ℕ) (before : List Token) → f before ≤ worst f before
worst_here f [] = omega arith
worst_here f (t ∷ ts) = omega arith

exceeds : (f : List Token → ℕ) (m : ℕ) (behind before : List Token) → m < f before → m < worst f (behind ++ before)
exceeds f m [] before above = let here = worst_here f before in omega arith
exceeds f m (t ∷ behind) before above = let later = exceeds f m behind before above in omega arith

-- a place whose number is above this one
record Place (f : List Token → ℕ) (m : ℕ) (all : List Token) : Type 0 where
  before : List Token
  behind : List Token
  parts_are : all ≡ behind ++ before
  above : m < f before

place : (f : List Token → ℕ) (m : ℕ) (all : List Token) → m < worst f all → Place f m all
place f m [] above = record { before = []; behind = []; parts_are = refl; above = above }
place f m (t ∷ ts) above = elim (cases_lt m (f (t ∷ ts))) [
  | inl here ↦ record { before = t ∷ ts; behind = []; parts_are = refl; above = here }
  | inr not ↦
      let later = place f m ts (omega arith) in
      record { before = later.before; behind = t ∷ later.behind; parts_are = ap (λ (l : List Token). t ∷ l) later.parts_are; above = later.above }
]

-- ---- tokens that are nested too deeply

-- how deep the tokens are nested at a place
abbrev pub depth : List Token → List Token → ℕ
depth all before = nesting_in all (stretches_behind before) + last_nesting before

-- how many bodies of closures are open at a place
abbrev pub bodies : List Token → ℕ
bodies before = bodies_in (open_behind before)

deep_exceeds : (all before behind : List Token) → all ≡ behind ++ before → IsDeepAt all before → (64 < worst (depth all) all) ⊎ (4 < worst bodies all)
deep_exceeds all before behind are (inl deep) = inl (subst (λ l. 64 < worst (depth all) l) (sym are) (exceeds (depth all) 64 behind before deep))
deep_exceeds all before behind are (inr many) = inr (subst (λ l. 4 < worst bodies l) (sym are) (exceeds bodies 4 behind before many))

pub too_deep_exceeds : (all : List Token) → IsTooDeep all → (64 < worst (depth all) all) ⊎ (4 < worst bodies all)
too_deep_exceeds all deep = deep_exceeds all deep.before deep.behind deep.parts_are deep.deep

pub exceeding_is_too_deep : (all : List Token) → (64 < worst (depth all) all) ⊎ (4 < worst bodies all) → IsTooDeep all
exceeding_is_too_deep all (inl deep) =
    let at = place (depth all) 64 all deep in record { before = at.before; behind = at.behind; parts_are = at.parts_are; deep = inl at.above }
exceeding_is_too_deep all (inr many) =
    let at = place bodies 4 all many in record { before = at.before; behind = at.behind; parts_are = at.parts_are; deep = inr at.above }

-- ---- tokens from the last one on

pub behind_reversed : (before ts : List Token) → behind_all before ts ≡ reverse ts ++ before
behind_reversed before [] = refl
behind_reversed before (t ∷ ts) =
    behind_reversed (t ∷ before) ts ∙ sym (append_assoc (reverse ts) (t ∷ []) before) ∙ ap (λ (l : List Token). l ++ before) (sym (reverse-append (t ∷ []) ts))

pub backwards_is : (ts : List Token) → reverse ts ≡ behind_all [] ts
backwards_is ts = sym (behind_reversed [] ts ∙ append-nil (reverse ts))
