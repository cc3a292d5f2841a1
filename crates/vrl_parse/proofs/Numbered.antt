-- Each regex of a script that is read is one of its regex literals: a word's number is that of the literals before it.
use Rattle.std.proofs.Common.{arith, ◌≡◌, ◌≤◌, ◌+◌, ℕ, Bool, true, false, ◌&&◌, Option, Some, List, [], ◌∷◌, ◌++◌, length, ltb, refl, sym, ap, ◌∙◌, subst}
use Rattle.std.specs.List.{list_all}
use Rattle.std.proofs.lemmas.Bool.{and_from, and_parts, lt-ltb}
use Rattle.std.proofs.lemmas.List.{length-append}
use Rattle.std.proofs.lemmas.List.Folds.{list_all-append}
use Rattle.vrl_diag.specs.declared.diagnostic.Span.{Span}
use Rattle.vrl_syntax.specs.Regexes.{args_regexes_below, arms_regexes_below, closure_regexes_below, else_regexes_below, expr_regexes_below, exprs_regexes_below, pairs_regexes_below}
use Rattle.vrl_syntax.specs.Tree.{Args, Arms, Closure, Else, Expr, expr, Exprs, Pairs, Script, group}
use Rattle.vrl_token.specs.declared.token.Hole.{Hole}
use Rattle.vrl_token.specs.declared.token.Spanned.{Spanned}
use Rattle.vrl_token.specs.declared.token.Token.{Token}
use Rattle.vrl_token.specs.declared.token.Token.TheVariants as token
use Rattle.vrl_value.specs.Regexes.{regexes_below}
use Rattle.vrl_value.specs.Tree.{Tree, string, integer, boolean, null, timestamp, regex}
use Rattle.vrl_parse.specs.Grammar.{IsScript, no_items, separator, last_item, more_items, IsItem, both_targets, single as single_item, IsSingle, assigned, merged, returned, aborted, aborted_with, coalesce, IsLevel, tighter, joined, tightest, IsUnary, negated, primary, IsPrimary, a_literal, a_template, a_path, without_suffix, with_suffix, with_closure, an_object, a_block, an_if, MayHaveSuffix, a_call, an_array, a_group, IsCall, called, AreArgs, no_arguments, last_argument, more_arguments, IsArg, named, unnamed, IsClosure, a_closure, AreSingles, no_singles, last_single, more_singles, ArePairs, no_parts, last_pair, more_pairs, IsBlock, a_script, AreArms, last_arm, with_else, more_arms}
use Rattle.vrl_parse.specs.Reading.{Reads, sources_of}
use Rattle.vrl_word.specs.Words.{Word, literal_at, regex_of, template_at, text_at, with_hole, with_holes, words_from}

-- ---- the numbers of words

abbrev is_low : ℕ → Token → ℕ → Bool
is_low count (token.Regex s) n = ltb n count
is_low count t n = true

-- the regex literals among the words are of the first so many
abbrev are_low : ℕ → List Word → Bool
are_low count ws = list_all (λ w. is_low count w.token w.number) ws

first_low : (count : ℕ) (w : Word) (ws : List Word) → are_low count (w ∷ ws) ≡ true → is_low count w.token w.number ≡ true
first_low count w ws low = (and_parts (is_low count w.token w.number) (are_low count ws) low).0

rest_low : (count : ℕ) (w : Word) (ws : List Word) → are_low count (w ∷ ws) ≡ true → are_low count ws ≡ true
rest_low count w ws low = (and_parts (is_low count w.token w.number) (are_low count ws) low).1

front_low : (count : ℕ) (ws vs : List Word) → are_low count (ws ++ vs) ≡ true → are_low count ws ≡ true
front_low count ws vs low = (and_parts (are_low count ws) (are_low count vs) (sym (list_all-append (λ w. is_low count w.token w.number) ws vs) ∙ low)).0

back_low : (count : ℕ) (ws vs : List Word) → are_low count (ws ++ vs) ≡ true → are_low count vs ≡ true
back_low count ws vs low = (and_parts (are_low count ws) (are_low count vs) (sym (list_all-append (λ w. is_low count w.token w.number) ws vs) ∙ low)).1

-- behind one word, and behind two
behind_low : (count : ℕ) (ws : List Word) (w : Word) (vs : List Word) → are_low count (ws ++ w ∷ vs) ≡ true → are_low count vs ≡ true
behind_low count ws w vs low = rest_low count w vs (back_low count ws (w ∷ vs) low)

number_low : (count n : ℕ) (t : Token) → length (regex_of t) + n ≤ count → is_low count t n ≡ true
number_low count n (token.Regex s) fits = lt-ltb n count (omega (arith, fits))
number_low count n t fits = refl

numbers_low : (count n : ℕ) (ts : List Spanned) → length (sources_of ts) + n ≤ count → are_low count (words_from n ts) ≡ true
numbers_low count n [] fits = refl
numbers_low count n (t ∷ ts) fits =
    let parts : length (sources_of (t ∷ ts)) ≡ length (regex_of t.token) + length (sources_of ts) = length-append (regex_of t.token) (sources_of ts) in
    and_from _ _ (number_low count n t.token (omega (arith, parts, fits))) (numbers_low count (length (regex_of t.token) + n) ts (omega (arith, parts, fits)))

-- ---- what is read in them

literal_low : (count : ℕ) (t : Token) (n : ℕ) (v : Tree) → literal_at t n ≡ Some v → is_low count t n ≡ true → regexes_below count v ≡ true
literal_low count (token.Text s) n v is low = let same : v ≡ string s = cc in ap (regexes_below count) same
literal_low count (token.RawText s) n v is low = let same : v ≡ string s = cc in ap (regexes_below count) same
literal_low count (token.Regex s) n v is low = let same : v ≡ regex n = cc in ap (regexes_below count) same ∙ low
literal_low count (token.Timestamp moment) n v is low = let same : v ≡ timestamp moment = cc in ap (regexes_below count) same
literal_low count (token.Number k) n v is low = let same : v ≡ integer k = cc in ap (regexes_below count) same
literal_low count token.True n v is low = let same : v ≡ boolean true = cc in ap (regexes_below count) same
literal_low count token.False n v is low = let same : v ≡ boolean false = cc in ap (regexes_below count) same
literal_low count token.Null n v is low = let same : v ≡ null = cc in ap (regexes_below count) same
literal_low count t n v is low = let nothing : ⊥ = cc in absurd nothing

-- a text with variables has no regex
holes_low : (count : ℕ) (s : Span) (sum : Expr) (holes : List Hole) → expr_regexes_below count sum ≡ true → expr_regexes_below count (with_holes s sum holes) ≡ true
holes_low count s sum [] low = low
holes_low count s sum (h ∷ holes) low = holes_low count s (with_hole s sum h) holes (and_from _ true (and_from _ true low refl) refl)

template_low : (count : ℕ) (t : Token) (s : Span) (e : Expr) → template_at t s ≡ Some e → expr_regexes_below count e ≡ true
template_low count (token.Template before holes) s e is =
    let same : expr s (group (with_holes s (text_at s before) holes)) ≡ e = cc in
    subst (λ x. expr_regexes_below count x ≡ true) same (holes_low count s (text_at s before) holes refl)
template_low count t s e is = let nothing : ⊥ = cc in absurd nothing

-- a predicate, its block, and what stands behind them
arm_from : (p b a o : Bool) → p ≡ true → b ≡ true → (a && o) ≡ true → ((p && (b && a)) && o) ≡ true
arm_from p b a o one two three = let parts = and_parts a o three in and_from (p && (b && a)) o (and_from p (b && a) one (and_from b a two parts.0)) parts.1

mutual
  script_low : (count : ℕ) {ws : List Word} {es : Exprs} → IsScript ws es → are_low count ws ≡ true → exprs_regexes_below count es ≡ true
  script_low count no_items low = refl
  script_low count (separator {w = w} {ws = ws} is rest) low = script_low count rest (rest_low count w ws low)
  script_low count (last_item it) low = and_from _ true (item_low count it low) refl
  script_low count (more_items {ws = ws} {vs = vs} {w = w} it is rest) low = and_from _ _ (item_low count it (front_low count ws (w ∷ vs) low)) (script_low count rest (behind_low count ws w vs low))

  item_low : (count : ℕ) {ws : List Word} {e : Expr} → IsItem ws e → are_low count ws ≡ true → expr_regexes_below count e ≡ true
  item_low count (both_targets {w = w} {c = c} {v = v} {q = q} {ws = ws} t comma u assign it) low =
      single_low count it (rest_low count q ws (rest_low count v (q ∷ ws) (rest_low count c (v ∷ q ∷ ws) (rest_low count w (c ∷ v ∷ q ∷ ws) low))))
  item_low count (single_item it) low = single_low count it low

  single_low : (count : ℕ) {ws : List Word} {e : Expr} → IsSingle ws e → are_low count ws ≡ true → expr_regexes_below count e ≡ true
  single_low count (assigned {w = w} {q = q} {ws = ws} t is it) low = single_low count it (rest_low count q ws (rest_low count w (q ∷ ws) low))
  single_low count (merged {w = w} {q = q} {ws = ws} t is it) low = single_low count it (rest_low count q ws (rest_low count w (q ∷ ws) low))
  single_low count (returned {w = w} {ws = ws} is it) low = single_low count it (rest_low count w ws low)
  single_low count (aborted is) low = refl
  single_low count (aborted_with {w = w} {ws = ws} is it) low = single_low count it (rest_low count w ws low)
  single_low count (coalesce it) low = level_low count it low

  level_low : (count : ℕ) {n : ℕ} {ws : List Word} {e : Expr} → IsLevel n ws e → are_low count ws ≡ true → expr_regexes_below count e ≡ true
  level_low count (tighter it) low = level_low count it low
  level_low count (joined {ws = ws} {vs = vs} w left is right) low = and_from _ _ (level_low count left (front_low count ws (w ∷ vs) low)) (level_low count right (behind_low count ws w vs low))
  level_low count (tightest it) low = unary_low count it low

  unary_low : (count : ℕ) {ws : List Word} {e : Expr} → IsUnary ws e → are_low count ws ≡ true → expr_regexes_below count e ≡ true
  unary_low count (negated {w = w} {ws = ws} is it) low = unary_low count it (rest_low count w ws low)
  unary_low count (primary it) low = primary_low count it low

  primary_low : (count : ℕ) {ws : List Word} {e : Expr} → IsPrimary ws e → are_low count ws ≡ true → expr_regexes_below count e ≡ true
  primary_low count (a_literal {w = w} {v = v} is) low = literal_low count w.token w.number v is (first_low count w [] low)
  primary_low count (a_template {w = w} {e = e} is) low = template_low count w.token w.span e is
  primary_low count (a_path is) low = refl
  primary_low count (without_suffix it) low = part_low count it low
  primary_low count (with_suffix {ws = ws} {w = w} it is) low = part_low count it (front_low count ws (w ∷ []) low)
  primary_low count (with_closure {ws = ws} {vs = vs} it closure) low = and_from _ _ (call_low count it (front_low count ws vs low)) (closure_low count closure (back_low count ws vs low))
  primary_low count (an_object {o = o} {c = c} {ws = ws} opens it closes) low = pairs_low count it (front_low count ws (c ∷ []) (rest_low count o (ws ++ c ∷ []) low))
  primary_low count (a_block it) low = block_low count it low
  primary_low count (an_if {w = w} {ws = ws} is it) low = arms_low count it (rest_low count w ws low)

  part_low : (count : ℕ) {ws : List Word} {e : Expr} → MayHaveSuffix ws e → are_low count ws ≡ true → expr_regexes_below count e ≡ true
  part_low count (a_call it) low = and_from _ true (call_low count it low) refl
  part_low count (an_array {o = o} {c = c} {ws = ws} opens it closes) low = singles_low count it (front_low count ws (c ∷ []) (rest_low count o (ws ++ c ∷ []) low))
  part_low count (a_group {o = o} {c = c} {ws = ws} opens it closes) low = item_low count it (front_low count ws (c ∷ []) (rest_low count o (ws ++ c ∷ []) low))

  call_low : (count : ℕ) {ws : List Word} {f : List ℕ × Bool} {s t : Span} {gs : Args} → IsCall ws f s gs t → are_low count ws ≡ true → args_regexes_below count gs ≡ true
  call_low count (called {w = w} {o = o} {c = c} {ws = ws} is opens it closes) low =
      args_low count it (front_low count ws (c ∷ []) (rest_low count o (ws ++ c ∷ []) (rest_low count w (o ∷ ws ++ c ∷ []) low)))

  args_low : (count : ℕ) {ws : List Word} {gs : Args} → AreArgs ws gs → are_low count ws ≡ true → args_regexes_below count gs ≡ true
  args_low count no_arguments low = refl
  args_low count (last_argument it) low = and_from _ true (arg_low count it low) refl
  args_low count (more_arguments {ws = ws} {vs = vs} {c = c} it is rest) low = and_from _ _ (arg_low count it (front_low count ws (c ∷ vs) low)) (args_low count rest (behind_low count ws c vs low))

  arg_low : (count : ℕ) {ws : List Word} {n : Option (List ℕ)} {s : Span} {e : Expr} → IsArg ws n s e → are_low count ws ≡ true → expr_regexes_below count e ≡ true
  arg_low count (named {w = w} {c = c} {ws = ws} is colon it) low = single_low count it (rest_low count c ws (rest_low count w (c ∷ ws) low))
  arg_low count (unnamed it) low = single_low count it low

  closure_low : (count : ℕ) {ws : List Word} {c : Closure} {s : Span} → IsClosure ws c s → are_low count ws ≡ true → closure_regexes_below count c ≡ true
  closure_low count (a_closure {a = a} {o = o} {c = c} {ws = ws} {vs = vs} arrow opens names closes it) low =
      block_low count it (behind_low count ws c vs (rest_low count o (ws ++ c ∷ vs) (rest_low count a (o ∷ ws ++ c ∷ vs) low)))

  singles_low : (count : ℕ) {ws : List Word} {es : Exprs} → AreSingles ws es → are_low count ws ≡ true → exprs_regexes_below count es ≡ true
  singles_low count no_singles low = refl
  singles_low count (last_single it) low = and_from _ true (single_low count it low) refl
  singles_low count (more_singles {ws = ws} {vs = vs} {c = c} it is rest) low = and_from _ _ (single_low count it (front_low count ws (c ∷ vs) low)) (singles_low count rest (behind_low count ws c vs low))

  pairs_low : (count : ℕ) {ws : List Word} {ps : Pairs} → ArePairs ws ps → are_low count ws ≡ true → pairs_regexes_below count ps ≡ true
  pairs_low count no_parts low = refl
  pairs_low count (last_pair {k = k} {c = c} {ws = ws} is colon it) low = and_from _ true (single_low count it (rest_low count c ws (rest_low count k (c ∷ ws) low))) refl
  pairs_low count (more_pairs {k = k} {c = c} {d = d} {ws = ws} {vs = vs} is colon it comma rest) low =
      let behind = rest_low count c (ws ++ d ∷ vs) (rest_low count k (c ∷ ws ++ d ∷ vs) low) in
      and_from _ _ (single_low count it (front_low count ws (d ∷ vs) behind)) (pairs_low count rest (behind_low count ws d vs behind))

  block_low : (count : ℕ) {ws : List Word} {es : Exprs} {s : Span} → IsBlock ws es s → are_low count ws ≡ true → exprs_regexes_below count es ≡ true
  block_low count (a_script {o = o} {c = c} {ws = ws} opens it closes) low = script_low count it (front_low count ws (c ∷ []) (rest_low count o (ws ++ c ∷ []) low))

  arms_low : (count : ℕ) {ws : List Word} {gs : Arms} {es : Else} {s : Span} → AreArms ws gs es s → are_low count ws ≡ true → (arms_regexes_below count gs && else_regexes_below count es) ≡ true
  arms_low count (last_arm {ws = ws} {vs = vs} predicate it) low = arm_from _ _ true true (level_low count predicate (front_low count ws vs low)) (block_low count it (back_low count ws vs low)) refl
  arms_low count (with_else {l = l} {ws = ws} {vs = vs} {us = us} predicate it is other) low =
      let behind = back_low count ws (vs ++ l ∷ us) low in
      arm_from _ _ true _ (level_low count predicate (front_low count ws (vs ++ l ∷ us) low)) (block_low count it (front_low count vs (l ∷ us) behind)) (block_low count other (behind_low count vs l us behind))
  arms_low count (more_arms {l = l} {w = w} {ws = ws} {vs = vs} {us = us} predicate it is more rest) low =
      let behind = back_low count ws (vs ++ l ∷ w ∷ us) low in
      arm_from _ _ _ _ (level_low count predicate (front_low count ws (vs ++ l ∷ w ∷ us) low)) (block_low count it (front_low count vs (l ∷ w ∷ us) behind)) (arms_low count rest (rest_low count w us (behind_low count vs l (w ∷ us) behind)))

-- of the whole script
pub script_is_numbered : (ts : List Spanned) (s : Script) → Reads ts s → exprs_regexes_below (length s.patterns) s.items ≡ true
script_is_numbered ts s reads =
    subst (λ k. exprs_regexes_below k s.items ≡ true) (sym (ap length reads.patterns))
    (script_low (length (sources_of ts)) reads.items (numbers_low (length (sources_of ts)) 0 ts (omega arith)))
