-- Each literal of a script that is read is well formed: it has no parts, and a regex is one of the script's regex literals.
use Rattle.std.proofs.Common.{arith, ◌≡◌, ◌≤◌, ◌+◌, ℕ, Bool, true, false, Option, Some, List, [], ◌∷◌, ◌++◌, length, ltb, refl, sym, ap, subst}
use Rattle.std.proofs.lemmas.Bool.{and_from, lt-ltb}
use Rattle.std.proofs.lemmas.List.{length-append}
use Rattle.vrl_diag.specs.declared.diagnostic.Span.{Span}
use Rattle.vrl_syntax.specs.Tree.{Args, Arms, Closure, Else, Expr, expr, Exprs, Pairs, Script, group}
use Rattle.vrl_token.specs.declared.token.Hole.{Hole}
use Rattle.vrl_token.specs.declared.token.Spanned.{Spanned}
use Rattle.vrl_token.specs.declared.token.Token.{Token}
use Rattle.vrl_token.specs.declared.token.Token.TheVariants as token
use Rattle.vrl_value.specs.Tree.{Tree, string, integer, boolean, null, timestamp, regex}
use Rattle.vrl_parse.specs.Grammar.{IsScript, no_items, separator, last_item, more_items, IsItem, both_targets, single as single_item, IsSingle, assigned, merged, returned, aborted, aborted_with, coalesce, IsLevel, tighter, joined, tightest, IsUnary, negated, primary, IsPrimary, a_literal, a_template, a_path, without_suffix, with_suffix, with_closure, an_object, a_block, an_if, MayHaveSuffix, a_call, an_array, a_group, IsCall, called, AreArgs, no_arguments, last_argument, more_arguments, IsArg, named, unnamed, IsClosure, a_closure, AreSingles, no_singles, last_single, more_singles, ArePairs, no_parts, last_pair, more_pairs, IsBlock, a_script, AreArms, last_arm, with_else, more_arms}
use Rattle.vrl_parse.specs.Reading.{Reads, sources_of}
use Rattle.vrl_word.specs.Words.{Word, literal_at, regex_of, template_at, text_at, with_hole, with_holes, words_from}
use Rattle.vrl_store.specs.WellFormed.{AreWellFormedArgs, AreWellFormedArms, AreWellFormedExprs, AreWellFormedPairs, IsWellFormed, IsWellFormedClosure, IsWellFormedElse, IsWellFormedExpr}
use Rattle.vrl_compile.proofs.PassingWords.{Pass, back_pass, behind_pass, first_passes, front_pass, rest_pass}

-- ---- the numbers of words

abbrev is_low_at : ℕ → Token → ℕ → Bool
is_low_at count (token.Regex s) n = ltb n count
is_low_at count t n = true

-- a word that is a regex literal is one of the first so many
abbrev is_low : ℕ → Word → Bool
is_low count w = is_low_at count w.token w.number

number_low : (count n : ℕ) (t : Token) → length (regex_of t) + n ≤ count → is_low_at count t n ≡ true
number_low count n (token.Regex s) fits = lt-ltb n count (omega (arith, fits))
number_low count n t fits = refl

numbers_low : (count n : ℕ) (ts : List Spanned) → length (sources_of ts) + n ≤ count → Pass (is_low count) (words_from n ts)
numbers_low count n [] fits = refl
numbers_low count n (t ∷ ts) fits =
    let parts : length (sources_of (t ∷ ts)) ≡ length (regex_of t.token) + length (sources_of ts) = length-append (regex_of t.token) (sources_of ts) in
    and_from _ _ (number_low count n t.token (omega (arith, parts, fits))) (numbers_low count (length (regex_of t.token) + n) ts (omega (arith, parts, fits)))

-- ---- what is read in them

literal_formed : (count : ℕ) (t : Token) (n : ℕ) (v : Tree) → literal_at t n ≡ Some v → is_low_at count t n ≡ true → IsWellFormed count v
literal_formed count (token.Text s) n v is low = let same : string s ≡ v = cc in subst (IsWellFormed count) same (record { ordered = tt; below = refl })
literal_formed count (token.RawText s) n v is low = let same : string s ≡ v = cc in subst (IsWellFormed count) same (record { ordered = tt; below = refl })
literal_formed count (token.Regex s) n v is low = let same : regex n ≡ v = cc in subst (IsWellFormed count) same (record { ordered = tt; below = low })
literal_formed count (token.Timestamp moment) n v is low = let same : timestamp moment ≡ v = cc in subst (IsWellFormed count) same (record { ordered = tt; below = refl })
literal_formed count (token.Number k) n v is low = let same : integer k ≡ v = cc in subst (IsWellFormed count) same (record { ordered = tt; below = refl })
literal_formed count token.True n v is low = let same : boolean true ≡ v = cc in subst (IsWellFormed count) same (record { ordered = tt; below = refl })
literal_formed count token.False n v is low = let same : boolean false ≡ v = cc in subst (IsWellFormed count) same (record { ordered = tt; below = refl })
literal_formed count token.Null n v is low = let same : null ≡ v = cc in subst (IsWellFormed count) same (record { ordered = tt; below = refl })
literal_formed count t n v is low = let nothing : ⊥ = cc in absurd nothing

-- the texts of a text with variables
holes_formed : (count : ℕ) (s : Span) (sum : Expr) (holes : List Hole) → IsWellFormedExpr count sum → IsWellFormedExpr count (with_holes s sum holes)
holes_formed count s sum [] formed = formed
holes_formed count s sum (h ∷ holes) formed = holes_formed count s (with_hole s sum h) holes ((formed, tt), record { ordered = tt; below = refl })

template_formed : (count : ℕ) (t : Token) (s : Span) (e : Expr) → template_at t s ≡ Some e → IsWellFormedExpr count e
template_formed count (token.Template before holes) s e is =
    let same : expr s (group (with_holes s (text_at s before) holes)) ≡ e = cc in
    subst (IsWellFormedExpr count) same (holes_formed count s (text_at s before) holes (record { ordered = tt; below = refl }))
template_formed count t s e is = let nothing : ⊥ = cc in absurd nothing

mutual
  script_formed : (count : ℕ) {ws : List Word} {es : Exprs} → IsScript ws es → Pass (is_low count) ws → AreWellFormedExprs count es
  script_formed count no_items low = tt
  script_formed count (separator {w = w} {ws = ws} is rest) low = script_formed count rest (rest_pass (is_low count) w ws low)
  script_formed count (last_item it) low = (item_formed count it low, tt)
  script_formed count (more_items {ws = ws} {vs = vs} {w = w} it is rest) low = (item_formed count it (front_pass (is_low count) ws (w ∷ vs) low), script_formed count rest (behind_pass (is_low count) ws w vs low))

  item_formed : (count : ℕ) {ws : List Word} {e : Expr} → IsItem ws e → Pass (is_low count) ws → IsWellFormedExpr count e
  item_formed count (both_targets {w = w} {c = c} {v = v} {q = q} {ws = ws} t comma u assign it) low =
      single_formed count it (rest_pass (is_low count) q ws (rest_pass (is_low count) v (q ∷ ws) (rest_pass (is_low count) c (v ∷ q ∷ ws) (rest_pass (is_low count) w (c ∷ v ∷ q ∷ ws) low))))
  item_formed count (single_item it) low = single_formed count it low

  single_formed : (count : ℕ) {ws : List Word} {e : Expr} → IsSingle ws e → Pass (is_low count) ws → IsWellFormedExpr count e
  single_formed count (assigned {w = w} {q = q} {ws = ws} t is it) low = single_formed count it (rest_pass (is_low count) q ws (rest_pass (is_low count) w (q ∷ ws) low))
  single_formed count (merged {w = w} {q = q} {ws = ws} t is it) low = single_formed count it (rest_pass (is_low count) q ws (rest_pass (is_low count) w (q ∷ ws) low))
  single_formed count (returned {w = w} {ws = ws} is it) low = single_formed count it (rest_pass (is_low count) w ws low)
  single_formed count (aborted is) low = tt
  single_formed count (aborted_with {w = w} {ws = ws} is it) low = single_formed count it (rest_pass (is_low count) w ws low)
  single_formed count (coalesce it) low = level_formed count it low

  level_formed : (count : ℕ) {n : ℕ} {ws : List Word} {e : Expr} → IsLevel n ws e → Pass (is_low count) ws → IsWellFormedExpr count e
  level_formed count (tighter it) low = level_formed count it low
  level_formed count (joined {ws = ws} {vs = vs} w left is right) low = (level_formed count left (front_pass (is_low count) ws (w ∷ vs) low), level_formed count right (behind_pass (is_low count) ws w vs low))
  level_formed count (tightest it) low = unary_formed count it low

  unary_formed : (count : ℕ) {ws : List Word} {e : Expr} → IsUnary ws e → Pass (is_low count) ws → IsWellFormedExpr count e
  unary_formed count (negated {w = w} {ws = ws} is it) low = unary_formed count it (rest_pass (is_low count) w ws low)
  unary_formed count (primary it) low = primary_formed count it low

  primary_formed : (count : ℕ) {ws : List Word} {e : Expr} → IsPrimary ws e → Pass (is_low count) ws → IsWellFormedExpr count e
  primary_formed count (a_literal {w = w} {v = v} is) low = literal_formed count w.token w.number v is (first_passes (is_low count) w [] low)
  primary_formed count (a_template {w = w} {e = e} is) low = template_formed count w.token w.span e is
  primary_formed count (a_path is) low = tt
  primary_formed count (without_suffix it) low = part_formed count it low
  primary_formed count (with_suffix {ws = ws} {w = w} it is) low = part_formed count it (front_pass (is_low count) ws (w ∷ []) low)
  primary_formed count (with_closure {ws = ws} {vs = vs} it closure) low = (call_formed count it (front_pass (is_low count) ws vs low), closure_formed count closure (back_pass (is_low count) ws vs low))
  primary_formed count (an_object {o = o} {c = c} {ws = ws} opens it closes) low = pairs_formed count it (front_pass (is_low count) ws (c ∷ []) (rest_pass (is_low count) o (ws ++ c ∷ []) low))
  primary_formed count (a_block it) low = block_formed count it low
  primary_formed count (an_if {w = w} {ws = ws} is it) low = arms_formed count it (rest_pass (is_low count) w ws low)

  part_formed : (count : ℕ) {ws : List Word} {e : Expr} → MayHaveSuffix ws e → Pass (is_low count) ws → IsWellFormedExpr count e
  part_formed count (a_call it) low = (call_formed count it low, tt)
  part_formed count (an_array {o = o} {c = c} {ws = ws} opens it closes) low = singles_formed count it (front_pass (is_low count) ws (c ∷ []) (rest_pass (is_low count) o (ws ++ c ∷ []) low))
  part_formed count (a_group {o = o} {c = c} {ws = ws} opens it closes) low = item_formed count it (front_pass (is_low count) ws (c ∷ []) (rest_pass (is_low count) o (ws ++ c ∷ []) low))

  call_formed : (count : ℕ) {ws : List Word} {f : List ℕ × Bool} {s t : Span} {gs : Args} → IsCall ws f s gs t → Pass (is_low count) ws → AreWellFormedArgs count gs
  call_formed count (called {w = w} {o = o} {c = c} {ws = ws} is opens it closes) low =
      args_formed count it (front_pass (is_low count) ws (c ∷ []) (rest_pass (is_low count) o (ws ++ c ∷ []) (rest_pass (is_low count) w (o ∷ ws ++ c ∷ []) low)))

  args_formed : (count : ℕ) {ws : List Word} {gs : Args} → AreArgs ws gs → Pass (is_low count) ws → AreWellFormedArgs count gs
  args_formed count no_arguments low = tt
  args_formed count (last_argument it) low = (arg_formed count it low, tt)
  args_formed count (more_arguments {ws = ws} {vs = vs} {c = c} it is rest) low = (arg_formed count it (front_pass (is_low count) ws (c ∷ vs) low), args_formed count rest (behind_pass (is_low count) ws c vs low))

  arg_formed : (count : ℕ) {ws : List Word} {n : Option (List ℕ)} {s : Span} {e : Expr} → IsArg ws n s e → Pass (is_low count) ws → IsWellFormedExpr count e
  arg_formed count (named {w = w} {c = c} {ws = ws} is colon it) low = single_formed count it (rest_pass (is_low count) c ws (rest_pass (is_low count) w (c ∷ ws) low))
  arg_formed count (unnamed it) low = single_formed count it low

  closure_formed : (count : ℕ) {ws : List Word} {c : Closure} {s : Span} → IsClosure ws c s → Pass (is_low count) ws → IsWellFormedClosure count c
  closure_formed count (a_closure {a = a} {o = o} {c = c} {ws = ws} {vs = vs} arrow opens names closes it) low =
      block_formed count it (behind_pass (is_low count) ws c vs (rest_pass (is_low count) o (ws ++ c ∷ vs) (rest_pass (is_low count) a (o ∷ ws ++ c ∷ vs) low)))

  singles_formed : (count : ℕ) {ws : List Word} {es : Exprs} → AreSingles ws es → Pass (is_low count) ws → AreWellFormedExprs count es
  singles_formed count no_singles low = tt
  singles_formed count (last_single it) low = (single_formed count it low, tt)
  singles_formed count (more_singles {ws = ws} {vs = vs} {c = c} it is rest) low = (single_formed count it (front_pass (is_low count) ws (c ∷ vs) low), singles_formed count rest (behind_pass (is_low count) ws c vs low))

  pairs_formed : (count : ℕ) {ws : List Word} {ps : Pairs} → ArePairs ws ps → Pass (is_low count) ws → AreWellFormedPairs count ps
  pairs_formed count no_parts low = tt
  pairs_formed count (last_pair {k = k} {c = c} {ws = ws} is colon it) low = (single_formed count it (rest_pass (is_low count) c ws (rest_pass (is_low count) k (c ∷ ws) low)), tt)
  pairs_formed count (more_pairs {k = k} {c = c} {d = d} {ws = ws} {vs = vs} is colon it comma rest) low =
      let behind = rest_pass (is_low count) c (ws ++ d ∷ vs) (rest_pass (is_low count) k (c ∷ ws ++ d ∷ vs) low) in
      (single_formed count it (front_pass (is_low count) ws (d ∷ vs) behind), pairs_formed count rest (behind_pass (is_low count) ws d vs behind))

  block_formed : (count : ℕ) {ws : List Word} {es : Exprs} {s : Span} → IsBlock ws es s → Pass (is_low count) ws → AreWellFormedExprs count es
  block_formed count (a_script {o = o} {c = c} {ws = ws} opens it closes) low = script_formed count it (front_pass (is_low count) ws (c ∷ []) (rest_pass (is_low count) o (ws ++ c ∷ []) low))

  arms_formed : (count : ℕ) {ws : List Word} {gs : Arms} {es : Else} {s : Span} → AreArms ws gs es s → Pass (is_low count) ws → AreWellFormedArms count gs × IsWellFormedElse count es
  arms_formed count (last_arm {ws = ws} {vs = vs} predicate it) low = ((level_formed count predicate (front_pass (is_low count) ws vs low), (block_formed count it (back_pass (is_low count) ws vs low), tt)), tt)
  arms_formed count (with_else {l = l} {ws = ws} {vs = vs} {us = us} predicate it is other) low =
      let behind = back_pass (is_low count) ws (vs ++ l ∷ us) low in
      ((level_formed count predicate (front_pass (is_low count) ws (vs ++ l ∷ us) low), (block_formed count it (front_pass (is_low count) vs (l ∷ us) behind), tt)), block_formed count other (behind_pass (is_low count) vs l us behind))
  arms_formed count (more_arms {l = l} {w = w} {ws = ws} {vs = vs} {us = us} predicate it is more rest) low =
      let behind = back_pass (is_low count) ws (vs ++ l ∷ w ∷ us) low in
      let others = arms_formed count rest (rest_pass (is_low count) w us (behind_pass (is_low count) vs l (w ∷ us) behind)) in
      ((level_formed count predicate (front_pass (is_low count) ws (vs ++ l ∷ w ∷ us) low), (block_formed count it (front_pass (is_low count) vs (l ∷ w ∷ us) behind), others.0)), others.1)

-- of the whole script
pub literals_are_well_formed : (ts : List Spanned) (s : Script) → Reads ts s → AreWellFormedExprs (length s.patterns) s.items
literals_are_well_formed ts s reads =
    subst (λ k. AreWellFormedExprs k s.items) (sym (ap length reads.patterns))
    (script_formed (length (sources_of ts)) reads.items (numbers_low (length (sources_of ts)) 0 ts (omega arith)))
