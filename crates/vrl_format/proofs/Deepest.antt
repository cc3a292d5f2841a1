-- The deepest place among tokens, from those on that stand before a place: the counts of the
-- stretches that go on there stand in a stack, the innermost first. Separators that part nothing
-- make no difference to it.
use Rattle.std.proofs.Common.{arith, ◌≡◌, refl, ap, ◌∙◌, ℕ, zero, suc, ◌+◌, ◌≤◌, max, Bool, true, false, ◌&&◌, not, List, [], ◌∷◌, length}
use Rattle.vrl_token.specs.Brackets.{closes}
use Rattle.vrl_token.specs.Nesting.{is_counted, opens, own_nesting, parts}
use Rattle.vrl_token.specs.declared.token.Token.{Token}
use Rattle.vrl_token.specs.declared.token.Token.TheVariants as token
use Rattle.vrl_format.specs.Apart.{Parted, is_edge_behind}
use Rattle.vrl_format.proofs.Parting.{is_edge_before, parted_from}

-- ---- stacks of counts

-- what a token does to the stretches
pub data Move : Type 0 where
  opening closing parting counting staying : Move

abbrev pub move_by : Bool → Bool → Bool → Bool → Move
move_by true c p k = opening
move_by false true p k = closing
move_by false false true k = parting
move_by false false false true = counting
move_by false false false false = staying

abbrev pub move : Token → Move
move t = move_by (opens t) (closes t) (parts t) (is_counted t)

abbrev pub drop_first : List ℕ → List ℕ
drop_first [] = []
drop_first (c ∷ cs) = cs

-- the counts so far behind a token, from those before it
abbrev pub moved : Move → List ℕ → List ℕ
moved opening stack = 0 ∷ stack
moved closing [] = []
moved closing (c ∷ []) = c ∷ []
moved closing (c ∷ d ∷ ds) = d ∷ ds
moved parting [] = []
moved parting (c ∷ cs) = 0 ∷ cs
moved counting [] = []
moved counting (c ∷ cs) = suc c ∷ cs
moved staying stack = stack

-- the whole counts of the stretches before a token, from their counts so far and the whole counts of
-- those behind it
abbrev pub totals : Move → List ℕ → List ℕ → List ℕ
totals opening stack later = drop_first later
totals closing [] later = later
totals closing (c ∷ []) later = later
totals closing (c ∷ d ∷ ds) later = c ∷ later
totals parting [] later = later
totals parting (c ∷ cs) later = c ∷ drop_first later
totals counting stack later = later
totals staying stack later = later

abbrev pub finish : List ℕ → List Token → List ℕ
finish stack [] = stack
finish stack (t ∷ ts) = totals (move t) stack (finish (moved (move t) stack) ts)

-- the nesting of the innermost of stretches with these counts
abbrev pub nest : List ℕ → ℕ
nest [] = 0
nest (c ∷ []) = c
nest (c ∷ d ∷ ds) = c + (1 + nest (d ∷ ds))

-- the deepest place from here on, where the token before has this nesting by itself
abbrev pub deepest : List ℕ → ℕ → List Token → ℕ
deepest stack own [] = nest stack + own
deepest stack own (t ∷ ts) = max (nest (finish stack (t ∷ ts)) + own) (deepest (moved (move t) stack) (own_nesting t) ts)

-- ---- closing braces

abbrev pub deeper : Move → ℕ → ℕ
deeper opening d = suc d
deeper closing zero = zero
deeper closing (suc d) = d
deeper parting d = d
deeper counting d = d
deeper staying d = d

abbrev pub is_more : ℕ → Bool
is_more zero = false
is_more (suc d) = true

abbrev pub brace_closes : Token → ℕ → Bool
brace_closes token.CloseBrace d = is_more d
brace_closes t d = true

-- each `}` closes a bracket, where so many are open
abbrev pub braces_close : ℕ → List Token → Bool
braces_close d [] = true
braces_close d (t ∷ ts) = brace_closes t d && braces_close (deeper (move t) d) ts

-- ---- the tokens of parted ones, with one separator where some stand

abbrev pub spelled : Bool → Token → List Token → List Token
spelled true t rest = token.Separator ∷ t ∷ rest
spelled false t rest = t ∷ rest

abbrev pub canon : List Parted → List Token
canon [] = []
canon (p ∷ ps) = spelled p.apart p.token (canon ps)

-- ---- numbers

nest_top : (c : ℕ) (cs : List ℕ) → nest (c ∷ cs) ≡ c + nest (0 ∷ cs)
nest_top c [] = omega arith
nest_top c (d ∷ ds) = omega arith

nest_drop : (stack : List ℕ) → nest (0 ∷ drop_first stack) ≤ nest stack
nest_drop [] = omega arith
nest_drop (c ∷ cs) = let top = nest_top c cs in omega arith

deepest_here : (stack : List ℕ) (own : ℕ) (ts : List Token) → nest (finish stack ts) + own ≤ deepest stack own ts
deepest_here stack own [] = omega arith
deepest_here stack own (t ∷ ts) = omega arith

pub maxed : {a b c d : ℕ} → a ≡ b → c ≡ d → max a c ≡ max b d
maxed {b = b} {c = c} p q = ap (λ (n : ℕ). max n c) p ∙ ap (λ (n : ℕ). max b n) q

absorbed : (c l d : ℕ) (later : List ℕ) → max (nest (c ∷ later) + l) (max (nest (0 ∷ later) + 0) d) ≡ max (nest (c ∷ later) + l) d
absorbed c l d later = let top = nest_top c later in omega arith

covered : (a b d : ℕ) → a ≤ b → b + 0 ≤ d → max (a + 0) d ≡ d
covered a b d below here = omega arith

bottom : (c l : ℕ) (cs : List ℕ) → max (nest (c ∷ cs) + l) (nest (0 ∷ cs) + 0) ≡ nest (c ∷ cs) + l
bottom c l cs = let top = nest_top c cs in omega arith

-- ---- whole counts

finish_by : (m : Move) (c : ℕ) (cs : List ℕ) (ts us : List Token) → ((d : ℕ) (ds : List ℕ) → braces_close (length ds) ts ≡ true → finish (d ∷ ds) ts ≡ finish (d ∷ ds) us)
    → braces_close (deeper m (length cs)) ts ≡ true → totals m (c ∷ cs) (finish (moved m (c ∷ cs)) ts) ≡ totals m (c ∷ cs) (finish (moved m (c ∷ cs)) us)
finish_by opening c cs ts us same fits = ap drop_first (same 0 (c ∷ cs) fits)
finish_by closing c [] ts us same fits = same c [] fits
finish_by closing c (d ∷ ds) ts us same fits = ap (λ (l : List ℕ). c ∷ l) (same d ds fits)
finish_by parting c cs ts us same fits = ap (λ (l : List ℕ). c ∷ drop_first l) (same 0 cs fits)
finish_by counting c cs ts us same fits = same (suc c) cs fits
finish_by staying c cs ts us same fits = same c cs fits

-- the whole counts are those of the parted tokens: behind a token, behind separators, and at an edge
record SameCounts (ts : List Token) : Type 0 where
  plain : (c : ℕ) (cs : List ℕ) → braces_close (length cs) ts ≡ true → finish (c ∷ cs) ts ≡ finish (c ∷ cs) (canon (parted_from false false ts))
  behind : (c : ℕ) (cs : List ℕ) → braces_close (length cs) ts ≡ true → c ∷ drop_first (finish (0 ∷ cs) ts) ≡ finish (c ∷ cs) (canon (parted_from false true ts))
  edge : (seen : Bool) (cs : List ℕ) → braces_close (length cs) ts ≡ true → drop_first (finish (0 ∷ cs) ts) ≡ drop_first (finish (0 ∷ cs) (canon (parted_from true seen ts)))

-- what stands behind a token that is no separator
abbrev behind_token : Token → List Token → List Token
behind_token t ts = canon (parted_from (is_edge_behind t) false ts)

counts_step : (t : Token) (ts : List Token) → SameCounts ts → (c : ℕ) (cs : List ℕ) → braces_close (deeper (move t) (length cs)) ts ≡ true → finish (c ∷ cs) (t ∷ ts) ≡ finish (c ∷ cs) (t ∷ behind_token t ts)
counts_step token.OpenBlock ts same c cs fits = same.edge false (c ∷ cs) fits
counts_step token.Separator ts same c cs fits = finish_by parting c cs ts (canon (parted_from false false ts)) same.plain fits
counts_step t ts same c cs fits = finish_by (move t) c cs ts (canon (parted_from false false ts)) same.plain fits

counts_edge : (t : Token) (ts : List Token) → SameCounts ts → (seen : Bool) (cs : List ℕ) → braces_close (deeper (move t) (length cs)) ts ≡ true
    → drop_first (finish (0 ∷ cs) (t ∷ ts)) ≡ drop_first (finish (0 ∷ cs) (spelled (seen && (false && not (is_edge_before t))) t (behind_token t ts)))
counts_edge t ts same true cs fits = ap drop_first (counts_step t ts same 0 cs fits)
counts_edge t ts same false cs fits = ap drop_first (counts_step t ts same 0 cs fits)

counts_brace : (ts : List Token) → SameCounts ts → (c : ℕ) (cs : List ℕ) → braces_close (length cs) (token.CloseBrace ∷ ts) ≡ true
    → c ∷ drop_first (finish (0 ∷ cs) (token.CloseBrace ∷ ts)) ≡ finish (c ∷ cs) (token.CloseBrace ∷ canon (parted_from false false ts))
counts_brace ts same c [] fits = let nothing : ⊥ = cc in absurd nothing
counts_brace ts same c (d ∷ ds) fits = ap (λ (l : List ℕ). c ∷ l) (same.plain d ds fits)

brace_rest : (d : ℕ) (ts : List Token) → braces_close d (token.CloseBrace ∷ ts) ≡ true → braces_close (deeper closing d) ts ≡ true
brace_rest zero ts fits = let nothing : ⊥ = cc in absurd nothing
brace_rest (suc d) ts fits = fits

counts_more : (t : Token) (ts : List Token) → SameCounts ts → SameCounts (t ∷ ts)
counts_more token.Separator ts same = record { plain = same.behind; behind = same.behind; edge = λ seen cs fits. same.edge true cs fits }
counts_more token.CloseBrace ts same = record {
  plain = λ c cs fits. counts_step token.CloseBrace ts same c cs (brace_rest (length cs) ts fits);
  behind = counts_brace ts same;
  edge = λ seen cs fits. counts_edge token.CloseBrace ts same seen cs (brace_rest (length cs) ts fits);
}
counts_more t ts same = record {
  plain = λ c cs fits. counts_step t ts same c cs fits;
  behind = λ c cs fits. ap (λ (l : List ℕ). c ∷ drop_first l) (counts_step t ts same 0 cs fits);
  edge = λ seen cs fits. counts_edge t ts same seen cs fits;
}

same_counts : (ts : List Token) → SameCounts ts
same_counts [] = record { plain = λ c cs fits. refl; behind = λ c cs fits. refl; edge = λ seen cs fits. refl }
same_counts (t ∷ ts) = counts_more t ts (same_counts ts)

-- ---- the deepest place

deepest_by : (m : Move) (c : ℕ) (cs : List ℕ) (own : ℕ) (ts us : List Token)
    → ((d : ℕ) (ds : List ℕ) (n : ℕ) → braces_close (length ds) ts ≡ true → deepest (d ∷ ds) n ts ≡ deepest (d ∷ ds) n us)
    → braces_close (deeper m (length cs)) ts ≡ true → deepest (moved m (c ∷ cs)) own ts ≡ deepest (moved m (c ∷ cs)) own us
deepest_by opening c cs own ts us same fits = same 0 (c ∷ cs) own fits
deepest_by closing c [] own ts us same fits = same c [] own fits
deepest_by closing c (d ∷ ds) own ts us same fits = same d ds own fits
deepest_by parting c cs own ts us same fits = same 0 cs own fits
deepest_by counting c cs own ts us same fits = same (suc c) cs own fits
deepest_by staying c cs own ts us same fits = same c cs own fits

record SameDepths (ts : List Token) : Type 0 where
  plain : (c : ℕ) (cs : List ℕ) (own : ℕ) → braces_close (length cs) ts ≡ true → deepest (c ∷ cs) own ts ≡ deepest (c ∷ cs) own (canon (parted_from false false ts))
  behind : (c : ℕ) (cs : List ℕ) (own : ℕ) → braces_close (length cs) ts ≡ true
      → max (nest (c ∷ drop_first (finish (0 ∷ cs) ts)) + own) (deepest (0 ∷ cs) 0 ts) ≡ deepest (c ∷ cs) own (canon (parted_from false true ts))
  edge : (seen : Bool) (cs : List ℕ) → braces_close (length cs) ts ≡ true → deepest (0 ∷ cs) 0 ts ≡ deepest (0 ∷ cs) 0 (canon (parted_from true seen ts))

moved_depths : (t : Token) (ts : List Token) → SameDepths ts → (c : ℕ) (cs : List ℕ) → braces_close (deeper (move t) (length cs)) ts ≡ true
    → deepest (moved (move t) (c ∷ cs)) (own_nesting t) ts ≡ deepest (moved (move t) (c ∷ cs)) (own_nesting t) (behind_token t ts)
moved_depths token.OpenBlock ts same c cs fits = same.edge false (c ∷ cs) fits
moved_depths token.Separator ts same c cs fits = same.plain 0 cs 0 fits
moved_depths t ts same c cs fits = deepest_by (move t) c cs (own_nesting t) ts (canon (parted_from false false ts)) same.plain fits

depths_step : (t : Token) (ts : List Token) → SameDepths ts → (c : ℕ) (cs : List ℕ) (own : ℕ) → braces_close (deeper (move t) (length cs)) ts ≡ true
    → deepest (c ∷ cs) own (t ∷ ts) ≡ deepest (c ∷ cs) own (t ∷ behind_token t ts)
depths_step t ts same c cs own fits = maxed (ap (λ (l : List ℕ). nest l + own) (counts_step t ts (same_counts ts) c cs fits)) (moved_depths t ts same c cs fits)

depths_edge : (t : Token) (ts : List Token) → SameDepths ts → (seen : Bool) (cs : List ℕ) → braces_close (deeper (move t) (length cs)) ts ≡ true
    → deepest (0 ∷ cs) 0 (t ∷ ts) ≡ deepest (0 ∷ cs) 0 (spelled (seen && (false && not (is_edge_before t))) t (behind_token t ts))
depths_edge t ts same true cs fits = depths_step t ts same 0 cs 0 fits
depths_edge t ts same false cs fits = depths_step t ts same 0 cs 0 fits

depths_brace : (ts : List Token) → SameDepths ts → (c : ℕ) (cs : List ℕ) (own : ℕ) → braces_close (length cs) (token.CloseBrace ∷ ts) ≡ true
    → max (nest (c ∷ drop_first (finish (0 ∷ cs) (token.CloseBrace ∷ ts))) + own) (deepest (0 ∷ cs) 0 (token.CloseBrace ∷ ts)) ≡ deepest (c ∷ cs) own (token.CloseBrace ∷ canon (parted_from false false ts))
depths_brace ts same c [] own fits = let nothing : ⊥ = cc in absurd nothing
depths_brace ts same c (d ∷ ds) own fits =
    absorbed c own (deepest (d ∷ ds) 0 ts) (finish (d ∷ ds) ts)
    ∙ maxed (ap (λ (l : List ℕ). nest (c ∷ l) + own) ((same_counts ts).plain d ds fits)) (same.plain d ds 0 fits)

depths_separator : (ts : List Token) → SameDepths ts → SameDepths (token.Separator ∷ ts)
depths_separator ts same = record {
  plain = same.behind;
  behind = λ c cs own fits. absorbed c own (deepest (0 ∷ cs) 0 ts) (drop_first (finish (0 ∷ cs) ts)) ∙ same.behind c cs own fits;
  edge = λ seen cs fits. covered (nest (0 ∷ drop_first (finish (0 ∷ cs) ts))) (nest (finish (0 ∷ cs) ts)) (deepest (0 ∷ cs) 0 ts)
      (nest_drop (finish (0 ∷ cs) ts)) (deepest_here (0 ∷ cs) 0 ts) ∙ same.edge true cs fits;
}

depths_more : (t : Token) (ts : List Token) → SameDepths ts → SameDepths (t ∷ ts)
depths_more token.Separator ts same = depths_separator ts same
depths_more token.CloseBrace ts same = record {
  plain = λ c cs own fits. depths_step token.CloseBrace ts same c cs own (brace_rest (length cs) ts fits);
  behind = depths_brace ts same;
  edge = λ seen cs fits. depths_edge token.CloseBrace ts same seen cs (brace_rest (length cs) ts fits);
}
depths_more t ts same = record {
  plain = λ c cs own fits. depths_step t ts same c cs own fits;
  behind = λ c cs own fits. maxed (ap (λ (l : List ℕ). nest (c ∷ drop_first l) + own) (counts_step t ts (same_counts ts) 0 cs fits)) (depths_step t ts same 0 cs 0 fits);
  edge = λ seen cs fits. depths_edge t ts same seen cs fits;
}

same_depths : (ts : List Token) → SameDepths ts
same_depths [] = record { plain = λ c cs own fits. refl; behind = λ c cs own fits. bottom c own cs; edge = λ seen cs fits. refl }
same_depths (t ∷ ts) = depths_more t ts (same_depths ts)

-- the deepest place is that among the parted tokens
pub deepest_parted : (ts : List Token) → braces_close 0 ts ≡ true → deepest (0 ∷ []) 0 ts ≡ deepest (0 ∷ []) 0 (canon (parted_from true false ts))
deepest_parted ts fits = (same_depths ts).edge false [] fits

-- ---- braces of parted tokens

braces_spelled : (apart : Bool) (t : Token) (d : ℕ) (rest : List Token) → braces_close d (spelled apart t rest) ≡ braces_close d (t ∷ rest)
braces_spelled true t d rest = refl
braces_spelled false t d rest = refl

braces_more : (t : Token) (ts : List Token) → ((edge seen : Bool) (d : ℕ) → braces_close d (canon (parted_from edge seen ts)) ≡ braces_close d ts)
    → (edge seen : Bool) (d : ℕ) → braces_close d (canon (parted_from edge seen (t ∷ ts))) ≡ braces_close d (t ∷ ts)
braces_more token.Separator ts same edge seen d = same edge true d
braces_more t ts same edge seen d =
    braces_spelled (seen && (not edge && not (is_edge_before t))) t d (behind_token t ts)
    ∙ ap (λ (b : Bool). brace_closes t d && b) (same (is_edge_behind t) false (deeper (move t) d))

pub braces_parted : (ts : List Token) (edge seen : Bool) (d : ℕ) → braces_close d (canon (parted_from edge seen ts)) ≡ braces_close d ts
braces_parted [] edge seen d = refl
braces_parted (t ∷ ts) edge seen d = braces_more t ts (λ e s n. braces_parted ts e s n) edge seen d
