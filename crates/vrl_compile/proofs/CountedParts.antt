-- What is counted in a script lies within the places of its words: each part stands between its first word and its last one, and fills this stretch
-- with no single part of its own.
use Rattle.std.proofs.Common.{◌≡◌, ℕ, suc, ◌+◌, ◌<◌, ◌≤◌, Bool, true, false, List, [], ◌∷◌, ◌++◌, Option, Some, if◌then◌else◌, length, bytes_eq, codes, ◌-◌, ◌&&◌, subst, arith}
use Rattle.std.specs.List.{AllByRecursion}
use Rattle.vrl_diag.specs.declared.diagnostic.Span.{Span}
use Rattle.vrl_syntax.specs.Stores.{metadata}
use Rattle.vrl_syntax.specs.Tree.{Args, Arms, Closure, Else, Expr, expr, Exprs, Form, Pairs, literal, array, object, read, query, group, block, conditional, negation, binary, assign, merge, both, call, return_of, abort_with, no_message, message, no_closure, span_of}
use Rattle.vrl_syntax.specs.declared.root.Root.TheVariants as root
use Rattle.vrl_syntax.specs.declared.root.Target.{Target}
use Rattle.vrl_syntax.specs.declared.root.Target.TheVariants.{Nowhere, Place}
use Rattle.vrl_token.specs.declared.token.Hole.{Hole}
use Rattle.vrl_token.specs.declared.token.Spanned.{Spanned}
use Rattle.vrl_token.specs.declared.token.Token.{Token}
use Rattle.vrl_token.specs.declared.token.Token.TheVariants as token
use Rattle.vrl_token.specs.Placing.{HolesFit, HolesStand, InOrderFrom, spans_of}
use Rattle.vrl_word.specs.Words.{Word, hole_span, name_span, over, regex_of, target_at, template_at, text_at, with_hole, with_holes, words_from}
use Rattle.vrl_parse.specs.Grammar.{IsScript, no_items, separator, last_item, more_items, IsItem, both_targets, single as single_item, IsSingle, assigned, merged, returned, aborted, aborted_with, coalesce, IsLevel, tighter, joined, tightest, IsUnary, negated, primary, IsPrimary, a_literal, a_template, a_path, without_suffix, with_suffix, with_closure, an_object, a_block, an_if, MayHaveSuffix, a_call, an_array, a_group, IsCall, called, AreArgs, no_arguments, last_argument, more_arguments, IsArg, named, unnamed, IsClosure, a_closure, AreSingles, no_singles, last_single, more_singles, ArePairs, no_parts, last_pair, more_pairs, IsBlock, a_script, AreArms, last_arm, with_else, more_arms}
use Rattle.vrl_check.specs.Apart.{weigh_args, weigh_arms, weigh_closure, weigh_else, weigh_expr, weigh_exprs, weigh_form, weigh_pairs, weigh_target, weigh_within, is_quiet, is_sum, Weights}
use Rattle.vrl_compile.proofs.Regions.{Count, nothing, fewer, widened, beside, Inside, no_part, part, inside, two_inside}

-- ---- words in order

-- the words stand between these places, one behind another, and each has a byte; the variables of a text stand in it
abbrev pub Stand : ℕ → List Word → ℕ → Type 0
Stand low [] high = low ≤ high
Stand low (w ∷ ws) high = (low ≤ w.span.start) × (w.span.start < w.span.end) × Stand w.span.end ws high × HolesStand w.token w.span

pub words_stand : (n low high : ℕ) (ts : List Spanned) → InOrderFrom low high (spans_of ts) → AllByRecursion (λ t. HolesStand t.token t.span) ts → Stand low (words_from n ts) high
words_stand n low high [] is holes = is
words_stand n low high (t ∷ ts) is holes = (is.0, is.1, words_stand (length (regex_of t.token) + n) t.span.end high ts is.2 holes.1, holes.0)

ascends : (low high : ℕ) (ws : List Word) → Stand low ws high → low ≤ high
ascends low high [] is = is
ascends low high (w ∷ ws) is = let more = ascends w.span.end high ws is.2 in let a = is.0 in let b = is.1 in omega (arith, a, b, more)

record Parted (low high : ℕ) (ws vs : List Word) : Type 0 where
  mid : ℕ
  front : Stand low ws mid
  back : Stand mid vs high

parted : (low high : ℕ) (ws vs : List Word) → Stand low (ws ++ vs) high → Parted low high ws vs
parted low high [] vs is = record { mid = low; front = omega arith; back = is }
parted low high (w ∷ ws) vs is = let more = parted w.span.end high ws vs is.2 in record { mid = more.mid; front = (is.0, is.1, more.front, is.3); back = more.back }

-- words between two that enclose them
record Enclosed (low high : ℕ) (o c : Word) (ws : List Word) : Type 0 where
  mid : ℕ
  opens : low ≤ o.span.start
  first : o.span.start < o.span.end
  within : Stand o.span.end ws mid
  order : o.span.end ≤ mid
  closes : mid ≤ c.span.start
  last : c.span.start < c.span.end
  ends : c.span.end ≤ high

enclosed : (low high : ℕ) (o c : Word) (ws : List Word) → Stand low (o ∷ ws ++ c ∷ []) high → Enclosed low high o c ws
enclosed low high o c ws is =
    let parts = parted o.span.end high ws (c ∷ []) is.2 in
    record { mid = parts.mid; opens = is.0; first = is.1; within = parts.front; order = ascends o.span.end parts.mid ws parts.front; closes = parts.back.0; last = parts.back.1; ends = parts.back.2 }

-- ---- what is counted in the parts of a script

-- an expression between two places
record Holds (x y a : ℕ) (w : Weights) (low high : ℕ) (e : Expr) : Type 0 where
  from : low ≤ (span_of e).start
  some : (span_of e).start < (span_of e).end
  to : (span_of e).end ≤ high
  count : Count x y (weigh_expr w e) ((span_of e).start + a) (span_of e).end

record HoldsBlock (x y : ℕ) (w : Weights) (low high : ℕ) (es : Exprs) (span : Span) : Type 0 where
  from : low ≤ span.start
  last : ℕ
  above : span.start < last
  below : last < span.end
  to : span.end ≤ high
  count : Count x y (weigh_exprs w es) (suc span.start) last

-- a call's arguments, between its name and its last word
record HoldsCall (x y : ℕ) (w : Weights) (low high : ℕ) (span stop : Span) (gs : Args) : Type 0 where
  from : low ≤ span.start
  some : span.start < span.end
  last : ℕ
  above : span.end ≤ last
  below : last < stop.end
  to : stop.end ≤ high
  count : Count x y (weigh_args w gs) span.end last

record HoldsClosure (x y : ℕ) (w : Weights) (low high : ℕ) (c : Closure) (span : Span) : Type 0 where
  last : ℕ
  above : low ≤ last
  below : last < span.end
  to : span.end ≤ high
  count : Count x y (weigh_closure w c) low last

record HoldsArg (x y : ℕ) (w : Weights) (low high : ℕ) (span : Span) (e : Expr) : Type 0 where
  from : low ≤ span.start
  some : span.start < span.end
  to : span.end ≤ high
  count : Count x y (w.argument span + weigh_expr w e) span.start span.end

record HoldsArms (x y : ℕ) (w : Weights) (low high : ℕ) (gs : Arms) (es : Else) (span : Span) : Type 0 where
  above : low ≤ span.end
  to : span.end ≤ high
  count : Count x y (weigh_arms w gs + weigh_else w es) low span.end

-- What is counted stands from `x` to `y`. An expression counts so at its own place beside what is inside it, a name beside what stands behind it,
-- an argument beside its value, and the block of a closure beside its items.
module _ (x y a : ℕ) (w : Weights) (small : a ≤ 1)
    (own : (span : Span) (n : ℕ) → span.start < span.end → Inside x y a n span.start span.end → Count x y (w.expression span + n) (span.start + a) span.end)
    (naming : (span : Span) (bang : Bool) (n from to : ℕ) → span.start < span.end → span.end ≤ from → from ≤ to → Count x y n from to → Count x y (w.name (name_span span bang) + n) (span.start + a) to)
    (arguing : (span : Span) (n from to : ℕ) → span.start < span.end → span.start + a ≤ from → to ≤ span.end → Count x y n from to → Count x y (w.argument span + n) span.start span.end)
    (blocking : (span : Span) (n last : ℕ) → span.start < last → Count x y n (suc span.start) last → Count x y (w.closure_block span + n) span.start last) where
  abbrev Fits : ℕ → ℕ → Expr → Type 0
  Fits low high e = Holds x y a w low high e

  made : (low high : ℕ) (span : Span) (f : Form) → low ≤ span.start → span.start < span.end → span.end ≤ high → Inside x y a (weigh_form w f) span.start span.end → Fits low high (expr span f)
  made low high span f from some to within = record { from = from; some = some; to = to; count = own span (weigh_form w f) some within }

  -- what stands in a group or a sum counts no more than by itself
  within_most : (quiet : Bool) (e : Expr) → weigh_within w quiet e ≤ weigh_expr w e
  within_most quiet (expr span f) = by (quiet && is_quiet f) where
    by : (b : Bool) → (if b then 0 else w.expression span) + weigh_form w f ≤ w.expression span + weigh_form w f
    by true = omega arith
    by false = omega arith

  -- one word, or what has no part that counts
  alone : (low high : ℕ) (span : Span) (f : Form) → low ≤ span.start → span.start < span.end → span.end ≤ high → weigh_form w f ≤ 0 → Fits low high (expr span f)
  alone low high span f from some to none_in_it = made low high span f from some to (no_part none_in_it)

  -- words, and an expression behind them that is counted alone
  prefixed : (low mid high : ℕ) (span : Span) (e : Expr) (f : Form) → low ≤ span.start → span.start < span.end → span.end ≤ mid → Fits mid high e → weigh_form w f ≤ weigh_expr w e → Fits low high (expr (over span (span_of e)) f)
  prefixed low mid high span e f from some behind it less =
      let start = it.from in
      let size = it.some in
      let stop = it.to in
      made low high (over span (span_of e)) f from (omega (arith, some, behind, start, size)) stop
      (inside span.start (span_of e).end (omega (arith, some, behind, start)) (omega arith) (omega (arith, some, behind, start)) (fewer (weigh_form w f) less it.count))

  -- between two words
  bracketed : (low high : ℕ) (o c : Word) (ws : List Word) (f : Form) (n : ℕ) (parts : Enclosed low high o c ws) → weigh_form w f ≤ n → Count x y n o.span.end parts.mid → Fits low high (expr (over o.span c.span) f)
  bracketed low high o c ws f n parts less count =
      let first = parts.first in
      let order = parts.order in
      let closes = parts.closes in
      let last = parts.last in
      made low high (over o.span c.span) f parts.opens (omega (arith, first, order, closes, last)) parts.ends
      (inside o.span.start c.span.end (omega (arith, first, small)) (omega (arith, closes, last)) (omega (arith, first, order, closes, last)) (fewer (weigh_form w f) less count))

  -- an expression and what stands behind it
  then_more : (low mid next high m : ℕ) (e : Expr) → Fits low mid e → mid ≤ next → next ≤ high → Count x y m next high → Count x y (weigh_expr w e + m) low high
  then_more low mid next high m e it between order count =
      let from = it.from in
      let some = it.some in
      let to = it.to in
      beside (omega (arith, from, some, to, between)) (omega (arith, to, between)) (omega (arith, to, between, order)) (widened low (span_of e).end (omega (arith, from)) (omega arith) it.count) count

  last_one : (low high : ℕ) (e : Expr) → Fits low high e → Count x y (weigh_expr w e + 0) low high
  last_one low high e it =
      let from = it.from in
      let to = it.to in
      fewer (weigh_expr w e + 0) (omega arith) (widened low high (omega (arith, from)) to it.count)

  place_counts : (span : Span) → span.start < span.end → Count x y (w.expression span) (span.start + a) span.end
  place_counts span some = fewer (w.expression span) (omega arith) (own span 0 some (no_part (omega arith)))

  -- the variables of a text, behind what a sum counts
  holes_count : (s : Span) (n : ℕ) (sum : Expr) (holes : List Hole) → n ≤ s.end - s.start → HolesFit n holes → Count x y (weigh_within w true sum) (suc s.start) (s.end - n) →
      Count x y (weigh_within w true (with_holes s sum holes)) (suc s.start) (s.end - 1)
  holes_count s n sum [] most fit count = let some : 0 < n = fit in widened (suc s.start) (s.end - 1) (omega arith) (omega (arith, some)) count
  holes_count s n sum (h ∷ holes) most fit count =
      let before = fit.0 in
      let some = fit.1 in
      let last = fit.2 in
      let own_place = place_counts (hole_span s h) (omega (arith, most, before, some, last)) in
      holes_count s (h.distance - length h.name) (with_hole s sum h) holes (omega (arith, most, before)) fit.3
      (fewer (weigh_within w true (with_hole s sum h)) (omega arith) (beside (omega (arith, most, before)) (omega (arith, most, before)) (omega (arith, most, before)) count own_place))

  template_fits : (low high : ℕ) (t : Token) (s : Span) (e : Expr) → template_at t s ≡ Some e → HolesStand t s → low ≤ s.start → s.start < s.end → s.end ≤ high → Fits low high e
  template_fits low high (token.Template before holes) s e is fit from some to =
      let same : expr s (group (with_holes s (text_at s before) holes)) ≡ e = cc in
      let first = fewer (weigh_within w true (text_at s before)) (omega arith) (nothing (suc s.start) (s.end - (s.end - s.start))) in
      let parts = holes_count s (s.end - s.start) (text_at s before) holes (omega arith) fit first in
      subst (Fits low high) same (made low high s (group (with_holes s (text_at s before) holes)) from some to (inside s.start s.end (omega (arith, small)) (omega arith) (omega (arith, some)) parts))
  template_fits low high t s e is fit from some to = let wrong : ⊥ = cc in absurd wrong

  name_target : (b : Bool) (t u : Target) (span : Span) → span.start < span.end → Some (if b then Nowhere else u) ≡ Some t → (Count x y (weigh_target w u) (span.start + a) span.end) → Count x y (weigh_target w t) (span.start + a) span.end
  name_target true t u span some is count = let same : Nowhere ≡ t = cc in subst (λ v. Count x y (weigh_target w v) (span.start + a) span.end) same (nothing (span.start + a) span.end)
  name_target false t u span some is count = let same : u ≡ t = cc in subst (λ v. Count x y (weigh_target w v) (span.start + a) span.end) same count

  target_counts : (k : Token) (span : Span) (t : Target) → target_at k span ≡ Some t → span.start < span.end → Count x y (weigh_target w t) (span.start + a) span.end
  target_counts (token.Name n) span t is some = name_target (bytes_eq n (codes "_")) t (Place span (root.Name n) []) span some is (place_counts span some)
  target_counts (token.NamePath n path) span t is some = let same : Place span (root.Name n) path ≡ t = cc in subst (λ v. Count x y (weigh_target w v) (span.start + a) span.end) same (place_counts span some)
  target_counts (token.EventPath path) span t is some = let same : Place span root.Event path ≡ t = cc in subst (λ v. Count x y (weigh_target w v) (span.start + a) span.end) same (place_counts span some)
  target_counts (token.MetadataPath path) span t is some = let same : Place span metadata path ≡ t = cc in subst (λ v. Count x y (weigh_target w v) (span.start + a) span.end) same (place_counts span some)
  target_counts k span t is some = let wrong : ⊥ = cc in absurd wrong

  -- two operands, or a target and what is merged into it
  two_parts : (low high n m : ℕ) (first last : Span) (f : Form) → low ≤ first.start → first.start < first.end → first.end ≤ last.start → last.start < last.end → last.end ≤ high → weigh_form w f ≤ n + m →
      Count x y n (first.start + a) first.end → Count x y m (last.start + a) last.end → Fits low high (expr (over first last) f)
  two_parts low high n m first last f from some between more to less one two =
      made low high (over first last) f from (omega (arith, some, between, more)) to (by (two_inside first.start last.end (omega arith) (omega (arith, some, between, more)) (omega (arith, between)) (omega (arith, small, more)) (omega (arith, some, between)) (omega arith) (omega (arith, some, between)) one two)) where
        by : Inside x y a (n + m) first.start last.end → Inside x y a (weigh_form w f) first.start last.end
        by (no_part zero) = no_part (omega (arith, less, zero))
        by (part at_most at size up free) = part (omega (arith, less, at_most)) at size up free

  call_fits : (low high : ℕ) (span stop last : Span) (f : List ℕ × Bool) (gs : Args) (c : Closure) (n last_end : ℕ) → low ≤ span.start → span.start < span.end → span.end ≤ last_end → last_end < last.end → last.end ≤ high → weigh_args w gs + weigh_closure w c ≤ n → Count x y n span.end last_end →
      Fits low high (expr (over span last) (call f.0 (name_span span f.1) f.1 gs c))
  call_fits low high span stop last f gs c n last_end from some above below to less count =
      made low high (over span last) (call f.0 (name_span span f.1) f.1 gs c) from (omega (arith, some, above, below)) to
      (inside span.start last.end (omega arith) (omega (arith, below)) (omega (arith, below)) (naming span f.1 (weigh_args w gs + weigh_closure w c) span.end last_end some (omega arith) above (fewer (weigh_args w gs + weigh_closure w c) less count)))

  block_counts : (low high : ℕ) (es : Exprs) (span : Span) → HoldsBlock x y w low high es span → Count x y (weigh_exprs w es) low span.end
  block_counts low high es span it = let from = it.from in let below = it.below in widened low span.end (omega (arith, from)) (omega (arith, below)) it.count

  mutual
    pub script_fits : (low high : ℕ) {ws : List Word} {es : Exprs} → IsScript ws es → Stand low ws high → Count x y (weigh_exprs w es) low high
    script_fits low high no_items stand = nothing low high
    script_fits low high (separator {w = word} is rest) stand =
        let from = stand.0 in
        let some = stand.1 in
        widened low high (omega (arith, from, some)) (omega arith) (script_fits word.span.end high rest stand.2)
    script_fits low high (last_item {e = e} it) stand = last_one low high e (item_fits low high it stand)
    script_fits low high (more_items {ws = ws} {vs = vs} {w = word} {e = e} {es = es} it is rest) stand =
        let parts = parted low high ws (word ∷ vs) stand in
        let at = parts.back.0 in
        let some = parts.back.1 in
        then_more low parts.mid word.span.end high (weigh_exprs w es) e (item_fits low parts.mid it parts.front) (omega (arith, at, some)) (ascends word.span.end high vs parts.back.2) (script_fits word.span.end high rest parts.back.2)

    item_fits : (low high : ℕ) {ws : List Word} {e : Expr} → IsItem ws e → Stand low ws high → Fits low high e
    item_fits low high (both_targets {w = word} {c = c} {v = v} {q = q} {t = t} {u = u} {e = e} one comma two equals it) stand =
        let one_starts = stand.2.0 in
        let one_ends = stand.2.1 in
        let two_starts = stand.2.2.0 in
        let two_ends = stand.2.2.1 in
        let three_starts = stand.2.2.2.0 in
        let three_ends = stand.2.2.2.1 in
        prefixed low q.span.end high word.span e (both t u e) stand.0 stand.1 (omega (arith, one_starts, one_ends, two_starts, two_ends, three_starts, three_ends)) (single_fits q.span.end high it stand.2.2.2.2) (omega arith)
    item_fits low high (single_item it) stand = single_fits low high it stand

    single_fits : (low high : ℕ) {ws : List Word} {e : Expr} → IsSingle ws e → Stand low ws high → Fits low high e
    single_fits low high (assigned {w = word} {q = q} {t = t} {e = e} one is it) stand =
        let one_starts = stand.2.0 in
        let one_ends = stand.2.1 in
        prefixed low q.span.end high word.span e (assign t e) stand.0 stand.1 (omega (arith, one_starts, one_ends)) (single_fits q.span.end high it stand.2.2) (omega arith)
    single_fits low high (merged {w = word} {q = q} {t = t} {e = e} one is it) stand =
        let one_starts = stand.2.0 in
        let one_ends = stand.2.1 in
        let part_of = single_fits q.span.end high it stand.2.2 in
        let from = part_of.from in
        two_parts low high (weigh_target w t) (weigh_expr w e) word.span (span_of e) (merge t e) stand.0 stand.1 (omega (arith, one_starts, one_ends, from)) part_of.some part_of.to (omega arith) (target_counts word.token word.span t one stand.1) part_of.count
    single_fits low high (returned {w = word} {e = e} is it) stand = prefixed low word.span.end high word.span e (return_of e) stand.0 stand.1 (omega arith) (single_fits word.span.end high it stand.2) (omega arith)
    single_fits low high (aborted {w = word} is) stand = alone low high word.span (abort_with no_message) stand.0 stand.1 stand.2 (omega arith)
    single_fits low high (aborted_with {w = word} {e = e} is it) stand = prefixed low word.span.end high word.span e (abort_with (message e)) stand.0 stand.1 (omega arith) (single_fits word.span.end high it stand.2) (omega arith)
    single_fits low high (coalesce it) stand = level_fits low high it stand

    level_fits : (low high : ℕ) {n : ℕ} {ws : List Word} {e : Expr} → IsLevel n ws e → Stand low ws high → Fits low high e
    level_fits low high (tighter it) stand = level_fits low high it stand
    level_fits low high (joined {o = o} {ws = ws} {vs = vs} word {l = l} {r = r} left is right) stand =
        let parts = parted low high ws (word ∷ vs) stand in
        let at = parts.back.0 in
        let size = parts.back.1 in
        let one = level_fits low parts.mid left parts.front in
        let two = level_fits word.span.end high right parts.back.2 in
        let to = one.to in
        let from = two.from in
        let left_most = within_most (is_sum o) l in
        let right_most = within_most (is_sum o) r in
        two_parts low high (weigh_expr w l) (weigh_expr w r) (span_of l) (span_of r) (binary o l r) one.from one.some (omega (arith, to, at, size, from)) two.some two.to (omega (arith, left_most, right_most)) one.count two.count
    level_fits low high (tightest it) stand = unary_fits low high it stand

    unary_fits : (low high : ℕ) {ws : List Word} {e : Expr} → IsUnary ws e → Stand low ws high → Fits low high e
    unary_fits low high (negated {w = word} {e = e} is it) stand = prefixed low word.span.end high word.span e (negation e) stand.0 stand.1 (omega arith) (unary_fits word.span.end high it stand.2) (omega arith)
    unary_fits low high (primary it) stand = primary_fits low high it stand

    primary_fits : (low high : ℕ) {ws : List Word} {e : Expr} → IsPrimary ws e → Stand low ws high → Fits low high e
    primary_fits low high (a_literal {w = word} {v = v} is) stand = alone low high word.span (literal v) stand.0 stand.1 stand.2 (omega arith)
    primary_fits low high (a_template {w = word} {e = e} is) stand = template_fits low high word.token word.span e is stand.3 stand.0 stand.1 (ascends word.span.end high [] stand.2)
    primary_fits low high (a_path {w = word} {r = r} {p = p} is) stand = alone low high word.span (read r p) stand.0 stand.1 stand.2 (omega arith)
    primary_fits low high (without_suffix it) stand = part_fits low high it stand
    primary_fits low high (with_suffix {ws = ws} {w = word} {p = p} {e = e} it is) stand =
        let parts = parted low high ws (word ∷ []) stand in
        let at = parts.back.0 in
        let size = parts.back.1 in
        let one = part_fits low parts.mid it parts.front in
        let some = one.some in
        let to = one.to in
        made low high (over (span_of e) word.span) (query e p) one.from (omega (arith, some, to, at, size)) parts.back.2
        (inside (span_of e).start word.span.end (omega arith) (omega (arith, to, at, size)) (omega (arith, to, at, size)) one.count)
    primary_fits low high (with_closure {ws = ws} {vs = vs} {span = span} {end = stop} {last = last} {f = f} {gs = gs} {c = c} it closure) stand =
        let parts = parted low high ws vs stand in
        let one = function_fits low parts.mid it parts.front in
        let two = closure_fits parts.mid high closure parts.back in
        let above = one.above in
        let below = one.below in
        let to = one.to in
        let more = two.above in
        call_fits low high span stop last f gs c (weigh_args w gs + weigh_closure w c) two.last one.from one.some (omega (arith, above, below, to, more)) two.below two.to (omega arith)
        (beside (omega (arith, above, below, to)) (omega (arith, below, to)) (omega (arith, below, to, more)) one.count two.count)
    primary_fits low high (an_object {o = o} {c = c} {ws = ws} {ps = ps} opens it closes) stand =
        let parts = enclosed low high o c ws stand in
        bracketed low high o c ws (object ps) (weigh_pairs w ps) parts (omega arith) (pairs_fit o.span.end parts.mid it parts.within)
    primary_fits low high (a_block {span = span} {es = es} it) stand =
        let one = block_fits low high it stand in
        let above = one.above in
        let below = one.below in
        made low high span (block es) one.from (omega (arith, above, below)) one.to (inside span.start span.end (omega (arith, small)) (omega (arith, below)) (omega (arith, below)) one.count)
    primary_fits low high (an_if {w = word} {end = stop} {gs = gs} {es = es} is it) stand =
        let some = stand.1 in
        let one = arms_fit word.span.end high it stand.2 in
        let above = one.above in
        made low high (over word.span stop) (conditional gs es) stand.0 (omega (arith, some, above)) one.to (inside word.span.start stop.end (omega (arith, some, small)) (omega arith) (omega (arith, some)) one.count)

    part_fits : (low high : ℕ) {ws : List Word} {e : Expr} → MayHaveSuffix ws e → Stand low ws high → Fits low high e
    part_fits low high (a_call {span = span} {end = stop} {f = f} {gs = gs} it) stand =
        let one = function_fits low high it stand in
        call_fits low high span stop stop f gs no_closure (weigh_args w gs) one.last one.from one.some one.above one.below one.to (omega arith) one.count
    part_fits low high (an_array {o = o} {c = c} {ws = ws} {es = es} opens it closes) stand =
        let parts = enclosed low high o c ws stand in
        bracketed low high o c ws (array es) (weigh_exprs w es) parts (omega arith) (singles_fit o.span.end parts.mid it parts.within)
    part_fits low high (a_group {o = o} {c = c} {ws = ws} {e = e} opens it closes) stand =
        let parts = enclosed low high o c ws stand in
        bracketed low high o c ws (group e) (weigh_expr w e + 0) parts (let most = within_most true e in omega (arith, most)) (last_one o.span.end parts.mid e (item_fits o.span.end parts.mid it parts.within))

    function_fits : (low high : ℕ) {ws : List Word} {f : List ℕ × Bool} {span stop : Span} {gs : Args} → IsCall ws f span gs stop → Stand low ws high → HoldsCall x y w low high span stop gs
    function_fits low high (called {w = word} {o = o} {c = c} {ws = ws} {gs = gs} is opens it closes) stand =
        let parts = enclosed word.span.end high o c ws stand.2 in
        let at = parts.opens in
        let size = parts.first in
        let order = parts.order in
        let ends = parts.closes in
        let last = parts.last in
        record { from = stand.0; some = stand.1; last = parts.mid; above = omega (arith, at, size, order); below = omega (arith, ends, last); to = parts.ends; count = widened word.span.end parts.mid (omega (arith, at, size)) (omega arith) (args_fit o.span.end parts.mid it parts.within) }

    args_fit : (low high : ℕ) {ws : List Word} {gs : Args} → AreArgs ws gs → Stand low ws high → Count x y (weigh_args w gs) low high
    args_fit low high no_arguments stand = nothing low high
    args_fit low high (last_argument {s = s} {e = e} it) stand =
        let one = arg_fits low high it stand in
        fewer (w.argument s + (weigh_expr w e + 0)) (omega arith) (widened low high one.from one.to one.count)
    args_fit low high (more_arguments {ws = ws} {vs = vs} {c = c} {s = s} {e = e} {gs = gs} it is rest) stand =
        let parts = parted low high ws (c ∷ vs) stand in
        let at = parts.back.0 in
        let size = parts.back.1 in
        let one = arg_fits low parts.mid it parts.front in
        let from = one.from in
        let some = one.some in
        let to = one.to in
        let order = ascends c.span.end high vs parts.back.2 in
        fewer (w.argument s + (weigh_expr w e + weigh_args w gs)) (omega arith)
        (beside (omega (arith, from, some, to, at, size)) (omega (arith, to, at, size)) (omega (arith, to, at, size, order)) (widened low s.end from (omega arith) one.count) (args_fit c.span.end high rest parts.back.2))

    arg_fits : (low high : ℕ) {ws : List Word} {n : Option (List ℕ)} {s : Span} {e : Expr} → IsArg ws n s e → Stand low ws high → HoldsArg x y w low high s e
    arg_fits low high (named {w = word} {c = c} {e = e} is colon it) stand =
        let some = stand.1 in
        let at = stand.2.0 in
        let size = stand.2.1 in
        let one = single_fits c.span.end high it stand.2.2 in
        let from = one.from in
        let more = one.some in
        let whole = over word.span (span_of e) in
        let wide : word.span.start < (span_of e).end = omega (arith, some, at, size, from, more) in
        record { from = stand.0; some = wide; to = one.to; count = arguing whole (weigh_expr w e) ((span_of e).start + a) (span_of e).end wide (omega (arith, some, at, size, from)) (omega arith) one.count }
    arg_fits low high (unnamed {e = e} it) stand =
        let one = single_fits low high it stand in
        record { from = one.from; some = one.some; to = one.to; count = arguing (span_of e) (weigh_expr w e) ((span_of e).start + a) (span_of e).end one.some (omega arith) (omega arith) one.count }

    closure_fits : (low high : ℕ) {ws : List Word} {c : Closure} {span : Span} → IsClosure ws c span → Stand low ws high → HoldsClosure x y w low high c span
    closure_fits low high (a_closure {a = arrow} {o = o} {c = c} {ws = ws} {vs = vs} {es = es} {span = span} is opens names closes it) stand =
        let parts = parted o.span.end high ws (c ∷ vs) stand.2.2 in
        let one = block_fits c.span.end high it parts.back.2 in
        let one_starts = stand.0 in
        let one_ends = stand.1 in
        let two_starts = stand.2.0 in
        let two_ends = stand.2.1 in
        let names_ascend = ascends o.span.end parts.mid ws parts.front in
        let three_starts = parts.back.0 in
        let three_ends = parts.back.1 in
        let from = one.from in
        let above = one.above in
        let start : low ≤ span.start = omega (arith, one_starts, one_ends, two_starts, two_ends, names_ascend, three_starts, three_ends, from) in
        record { last = one.last; above = omega (arith, start, above); below = one.below; to = one.to; count = widened low one.last (omega (arith, start)) (omega arith) (blocking span (weigh_exprs w es) one.last one.above one.count) }

    singles_fit : (low high : ℕ) {ws : List Word} {es : Exprs} → AreSingles ws es → Stand low ws high → Count x y (weigh_exprs w es) low high
    singles_fit low high no_singles stand = nothing low high
    singles_fit low high (last_single {e = e} it) stand = last_one low high e (single_fits low high it stand)
    singles_fit low high (more_singles {ws = ws} {vs = vs} {c = c} {e = e} {es = es} it is rest) stand =
        let parts = parted low high ws (c ∷ vs) stand in
        let at = parts.back.0 in
        let some = parts.back.1 in
        then_more low parts.mid c.span.end high (weigh_exprs w es) e (single_fits low parts.mid it parts.front) (omega (arith, at, some)) (ascends c.span.end high vs parts.back.2) (singles_fit c.span.end high rest parts.back.2)

    pairs_fit : (low high : ℕ) {ws : List Word} {ps : Pairs} → ArePairs ws ps → Stand low ws high → Count x y (weigh_pairs w ps) low high
    pairs_fit low high no_parts stand = nothing low high
    pairs_fit low high (last_pair {k = k} {c = c} {e = e} is colon it) stand =
        let one_starts = stand.0 in
        let one_ends = stand.1 in
        let two_starts = stand.2.0 in
        let two_ends = stand.2.1 in
        widened low high (omega (arith, one_starts, one_ends, two_starts, two_ends)) (omega arith) (last_one c.span.end high e (single_fits c.span.end high it stand.2.2))
    pairs_fit low high (more_pairs {k = k} {c = c} {d = d} {ws = ws} {vs = vs} {e = e} {ps = ps} is colon it comma rest) stand =
        let one_starts = stand.0 in
        let one_ends = stand.1 in
        let two_starts = stand.2.0 in
        let two_ends = stand.2.1 in
        let parts = parted c.span.end high ws (d ∷ vs) stand.2.2 in
        let at = parts.back.0 in
        let some = parts.back.1 in
        widened low high (omega (arith, one_starts, one_ends, two_starts, two_ends)) (omega arith)
        (then_more c.span.end parts.mid d.span.end high (weigh_pairs w ps) e (single_fits c.span.end parts.mid it parts.front) (omega (arith, at, some)) (ascends d.span.end high vs parts.back.2) (pairs_fit d.span.end high rest parts.back.2))

    block_fits : (low high : ℕ) {ws : List Word} {es : Exprs} {span : Span} → IsBlock ws es span → Stand low ws high → HoldsBlock x y w low high es span
    block_fits low high (a_script {o = o} {c = c} {ws = ws} {es = es} opens it closes) stand =
        let parts = enclosed low high o c ws stand in
        let first = parts.first in
        let order = parts.order in
        let ends = parts.closes in
        let last = parts.last in
        record { from = parts.opens; last = parts.mid; above = omega (arith, first, order); below = omega (arith, ends, last); to = parts.ends; count = widened (suc o.span.start) parts.mid (omega (arith, first)) (omega arith) (script_fits o.span.end parts.mid it parts.within) }

    arms_fit : (low high : ℕ) {ws : List Word} {gs : Arms} {es : Else} {span : Span} → AreArms ws gs es span → Stand low ws high → HoldsArms x y w low high gs es span
    arms_fit low high (last_arm {ws = ws} {vs = vs} {e = e} {es = es} {s = s} predicate it) stand =
        let parts = parted low high ws vs stand in
        let mid = ascends low parts.mid ws parts.front in
        let one = level_fits low parts.mid predicate parts.front in
        let two = block_fits parts.mid high it parts.back in
        let from = two.from in
        let above = two.above in
        let below = two.below in
        record {
          above = omega (arith, mid, from, above, below);
          to = two.to;
          count = fewer ((weigh_expr w e + (weigh_exprs w es + 0)) + 0) (omega arith) (then_more low parts.mid parts.mid s.end (weigh_exprs w es) e one (omega arith) (omega (arith, from, above, below)) (block_counts parts.mid high es s two));
        }
    arms_fit low high (with_else {l = l} {ws = ws} {vs = vs} {us = us} {e = e} {es = es} {fs = fs} {s = s} {t = t} predicate it is other) stand =
        let parts = parted low high ws (vs ++ l ∷ us) stand in
        let more = parted parts.mid high vs (l ∷ us) parts.back in
        let mid = ascends low parts.mid ws parts.front in
        let next = ascends parts.mid more.mid vs more.front in
        let one = level_fits low parts.mid predicate parts.front in
        let two = block_fits parts.mid more.mid it more.front in
        let three = block_fits l.span.end high other more.back.2 in
        let at = more.back.0 in
        let size = more.back.1 in
        let from = two.from in
        let above = two.above in
        let below = two.below in
        let to = two.to in
        let start = three.from in
        let over_it = three.above in
        let under_it = three.below in
        let both_blocks : Count x y (weigh_exprs w es + weigh_exprs w fs) parts.mid t.end = beside (omega (arith, next, at, size)) (omega (arith, to, at, size)) (omega (arith, to, at, size, start, over_it, under_it)) (block_counts parts.mid more.mid es s two) (block_counts l.span.end high fs t three) in
        record {
          above = omega (arith, mid, next, at, size, start, over_it, under_it);
          to = three.to;
          count = fewer ((weigh_expr w e + (weigh_exprs w es + 0)) + weigh_exprs w fs) (omega arith) (then_more low parts.mid parts.mid t.end (weigh_exprs w es + weigh_exprs w fs) e one (omega arith) (omega (arith, next, at, size, start, over_it, under_it)) both_blocks);
        }
    arms_fit low high (more_arms {l = l} {w = word} {ws = ws} {vs = vs} {us = us} {e = e} {es = es} {gs = gs} {fs = fs} {s = s} {t = t} predicate it is more_is rest) stand =
        let parts = parted low high ws (vs ++ l ∷ word ∷ us) stand in
        let more = parted parts.mid high vs (l ∷ word ∷ us) parts.back in
        let mid = ascends low parts.mid ws parts.front in
        let next = ascends parts.mid more.mid vs more.front in
        let one = level_fits low parts.mid predicate parts.front in
        let two = block_fits parts.mid more.mid it more.front in
        let three = arms_fit word.span.end high rest more.back.2.2 in
        let at = more.back.0 in
        let size = more.back.1 in
        let at_too = more.back.2.0 in
        let size_too = more.back.2.1 in
        let to = two.to in
        let above = three.above in
        let others : Count x y (weigh_exprs w es + (weigh_arms w gs + weigh_else w fs)) parts.mid t.end = beside (omega (arith, next, at, size, at_too, size_too)) (omega (arith, to, at, size, at_too, size_too)) (omega (arith, to, at, size, at_too, size_too, above)) (block_counts parts.mid more.mid es s two) three.count in
        record {
          above = omega (arith, mid, next, at, size, at_too, size_too, above);
          to = three.to;
          count = fewer ((weigh_expr w e + (weigh_exprs w es + weigh_arms w gs)) + weigh_else w fs) (omega arith) (then_more low parts.mid parts.mid t.end (weigh_exprs w es + (weigh_arms w gs + weigh_else w fs)) e one (omega arith) (omega (arith, next, at, size, at_too, size_too, above)) others);
        }
