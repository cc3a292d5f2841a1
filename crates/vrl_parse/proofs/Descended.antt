-- The rules take what is of the grammar.
use Rattle.std.proofs.Common.{arith, ◌≡◌, ℕ, suc, ◌≤◌, Bool, Option, List, [], ◌∷◌, ◌++◌, refl, sym, ap, ◌∙◌, subst}
use Rattle.std.proofs.lemmas.List.{append-nil, append_assoc}
use Rattle.vrl_diag.specs.declared.diagnostic.Span.{Span}
use Rattle.vrl_syntax.specs.Tree.{Expr, expr, Exprs, no_exprs, exprs, Pairs, Arms, Else, Args, call, Closure}
use Rattle.vrl_token.specs.declared.token.Token.{Token}
use Rattle.vrl_token.specs.declared.token.Token.TheVariants as token
use Rattle.vrl_word.specs.Words.{Word, path_of, operator_of, name_span, over}
use Rattle.vrl_parse.specs.Grammar.{Is, AreNames, one_name, more_names as more_than_one_name, IsScript, no_items, separator, last_item, more_items, IsItem, both_targets, single as single_item, IsSingle, assigned, merged, returned, aborted, aborted_with, coalesce, IsLevel, tighter, joined, tightest as tightest_level, IsUnary, negated, primary, IsPrimary, a_literal as literal_operand, a_template as template_operand, a_path as path_operand, without_suffix, with_suffix, with_closure, an_object as object_operand, a_block as block_operand, an_if as if_operand, MayHaveSuffix, a_call as call_operand, an_array as array_operand, a_group as group_operand, IsCall, called, AreArgs, no_arguments, last_argument, more_arguments, IsArg, named, unnamed, IsClosure, a_closure, AreSingles, no_singles, last_single, more_singles, ArePairs, no_parts, last_pair, more_pairs, IsBlock, a_script, AreArms, last_arm, with_else, more_arms}
use Rattle.vrl_parse.specs.Descent.{sign_word, takes, Lacks, expression_end, tightest, ends_expression, Begins, Sees, operand_of, a_block, operand_at, calling, suffixed, script, item, single, level, chain, operand, parts, pairs, arguments, argument, names, more_names, braces, arms, done, take, go, program_of, Ending, took, Runs, ran, taken, untaken, seen, unseen, chosen, gone, RuleTakes}
use Rattle.vrl_parse.proofs.OneEnding.{one_ending}
use Rattle.vrl_parse.proofs.Beginnings.{goes_on, path_operand_of, function_operand_of, literal_operand_of, template_operand_of, target_path, Stops, weaker, ends_stop, operator_stops, no_suffix, no_going, no_operator, no_tight_operator, no_sign, other_sign, sign_ends, Opens, opens_more, leads_level, opens_single, opens_item, opens_argument, no_expression_end, no_ending, no_end, no_leading, no_path_before, no_single_before, name_is_path}

-- what stands behind a script
abbrev pub Closes : List Word → Type 0
Closes [] = Unit {0}
Closes (w ∷ ws) = Is token.CloseBrace w

closes_end : (vs : List Word) → Closes vs → Sees expression_end vs
closes_end [] c = tt
closes_end (w ∷ vs) c = ap ends_expression c.is

closes_no : (t : Token) (vs : List Word) → ¬ (token.CloseBrace ≡ t) → Closes vs → ¬ Begins t vs
closes_no t [] differ c b = b
closes_no t (w ∷ vs) differ c b = differ (sym c.is ∙ b.is)

-- a script of no items
nothing_runs : (vs : List Word) → Closes vs → RuleTakes script vs no_exprs vs
nothing_runs [] c = untaken tt (seen tt ran)
nothing_runs (w ∷ vs) c = untaken (λ _ is. cc (c.is, is.is)) (unseen (λ x. x) (seen c ran))

-- a script that begins with an item
item_runs : (ws : List Word) {vs : List Word} {e : Expr} (o : Ending Exprs) → Opens ws → RuleTakes item ws e vs → Runs script (take (sign_word token.Separator) (λ _ _. go script λ es. done (exprs e es)) (done (exprs e no_exprs))) vs o → Runs script (program_of script) ws o
item_runs ws o opens run rest =
    untaken (no_sign token.Separator ws (no_ending token.Separator ws refl opens))
    (unseen (no_end ws opens) (unseen (no_ending token.CloseBrace ws refl opens) (gone run rest)))

-- a chain that ends at once
stopped : (n : ℕ) (e : Expr) (vs : List Word) → Stops n vs → RuleTakes (chain n e) vs e vs
stopped n e vs s = untaken (no_operator n vs s) ran

-- behind the last level
tight_runs : (ws vs rest : List Word) (e x : Expr) → RuleTakes operand ws e vs → RuleTakes (chain 8 e) vs x rest → RuleTakes (level 8) ws x rest
tight_runs ws vs rest e x run more =
    let same = one_ending (untaken (no_tight_operator vs) ran) more in
    subst (λ o. Runs (level 8) (program_of (level 8)) ws o) same (seen refl (gone run ran))

bounded : {n : ℕ} {us : List Word} {e : Expr} → IsLevel n us e → n ≤ 8
bounded (tighter h) = let b = bounded h in omega arith
bounded (joined w hl e hr) = bounded hl
bounded (tightest_level h) = omega arith

not_tightest : {n : ℕ} {us : List Word} {e : Expr} → IsLevel (suc n) us e → ¬ Sees (tightest n) us
not_tightest h same = let b = bounded h in omega arith

block_stops : {us : List Word} {es : Exprs} {s : Span} → IsBlock us es s → (vs : List Word) → Stops 0 (us ++ vs)
block_stops (a_script io h ic) vs = (ap goes_on io.is, λ m o e. cc (e, ap operator_of io.is))

block_begins : {us : List Word} {es : Exprs} {s : Span} → IsBlock us es s → (vs : List Word) → operand_at (us ++ vs) ≡ a_block
block_begins (a_script io h ic) vs = ap operand_of io.is

block_no_if : {us : List Word} {es : Exprs} {s : Span} → IsBlock us es s → (vs : List Word) → Lacks (sign_word token.If) (us ++ vs)
block_no_if (a_script io h ic) vs = λ _ is. cc (io.is, is.is)

key_no_close : {k : Word} {key : List ℕ} → Is (token.Text key) k → ¬ Is token.CloseBrace k
key_no_close ik is = cc (ik.is, is.is)

more_names_run : {us : List Word} {ns : List (List ℕ)} {c : Word} → Is token.Comma c → AreNames us ns → (vs : List Word) → Lacks (sign_word token.Comma) vs → RuleTakes more_names (c ∷ us ++ vs) ns vs
more_names_run ic (one_name is) vs lack = taken (takes tt ic) (taken (takes _ is) (gone (untaken lack ran) ran))
more_names_run ic (more_than_one_name is id h) vs lack = taken (takes tt ic) (taken (takes _ is) (gone (more_names_run id h vs lack) ran))

names_run : {us : List Word} {ns : List (List ℕ)} → AreNames us ns → (vs : List Word) → Lacks (sign_word token.Comma) vs → RuleTakes names (us ++ vs) ns vs
names_run (one_name is) vs lack = taken (takes _ is) (gone (untaken lack ran) ran)
names_run (more_than_one_name is ic h) vs lack = taken (takes _ is) (gone (more_names_run ic h vs lack) ran)

mutual
  pub script_runs : {us : List Word} {es : Exprs} → IsScript us es → (vs : List Word) → Closes vs → RuleTakes script (us ++ vs) es vs
  script_runs no_items vs c = nothing_runs vs c
  script_runs (separator is h) vs c = taken (takes tt is) (gone (script_runs h vs c) ran)
  script_runs {us = us} (last_item h) vs c =
      item_runs (us ++ vs) _ (opens_more us vs (opens_item h)) (item_run h vs (closes_end vs c) (closes_no token.Comma vs (λ e. cc) c))
      (untaken (no_sign token.Separator vs (closes_no token.Separator vs (λ e. cc) c)) ran)
  script_runs (more_items {ws = ws} {vs = us} {w = w} h is hs) vs c = rw (append_assoc ws (w ∷ us) vs)
      (item_runs (ws ++ w ∷ (us ++ vs)) _ (opens_more ws (w ∷ (us ++ vs)) (opens_item h)) (item_run h (w ∷ (us ++ vs)) (sign_ends token.Separator (w ∷ (us ++ vs)) refl is) (λ b. cc (b.is, is.is)))
      (taken (takes tt is) (gone (script_runs hs vs c) ran)))

  item_run : {us : List Word} {e : Expr} → IsItem us e → (vs : List Word) → Sees expression_end vs → ¬ Begins token.Comma vs → RuleTakes item (us ++ vs) e vs
  item_run (both_targets {w = w} e ic f iq h) vs end other =
      let p = target_path w.token w.span e in
      seen (p.0, p.1, ic) (taken (takes _ e) (taken (takes tt ic) (taken (takes _ f) (taken (takes tt iq) (gone (single_runs h vs end) ran)))))
  item_run {us = us} (single_item h) vs end other = unseen (no_single_before token.Comma vs refl (λ e. cc) (λ e. cc) other h) (gone (single_runs h vs end) ran)

  single_runs : {us : List Word} {e : Expr} → IsSingle us e → (vs : List Word) → Sees expression_end vs → RuleTakes single (us ++ vs) e vs
  single_runs (assigned {w = w} e iq h) vs end =
      let p = target_path w.token w.span e in
      seen (p.0, p.1, iq) (taken (takes _ e) (taken (takes tt iq) (gone (single_runs h vs end) ran)))
  single_runs (merged {w = w} e iq h) vs end =
      let p = target_path w.token w.span e in
      unseen (λ s. cc (s.2.is, iq.is)) (seen (p.0, p.1, iq) (taken (takes _ e) (taken (takes tt iq) (gone (single_runs h vs end) ran))))
  single_runs (returned is h) vs end = unseen (λ s. cc (s.1, ap path_of is.is)) (unseen (λ s. cc (s.1, ap path_of is.is)) (taken (takes tt is) (gone (single_runs h vs end) ran)))
  single_runs (aborted is) vs end = unseen (λ s. cc (s.1, ap path_of is.is)) (unseen (λ s. cc (s.1, ap path_of is.is)) (untaken (λ _ r. cc (r.is, is.is)) (taken (takes tt is) (seen end ran))))
  single_runs (aborted_with {ws = ws} is h) vs end = unseen (λ s. cc (s.1, ap path_of is.is)) (unseen (λ s. cc (s.1, ap path_of is.is)) (untaken (λ _ r. cc (r.is, is.is)) (taken (takes tt is)
      (unseen (no_expression_end (ws ++ vs) (opens_more ws vs (opens_single h))) (gone (single_runs h vs end) ran)))))
  single_runs {us = us} {e = e} (coalesce h) vs end =
      let stops = ends_stop vs end in
      let leads = leads_level h in
      unseen (no_path_before token.Assign us vs refl leads (no_going 0 vs token.Assign refl stops))
      (unseen (no_path_before token.MergeAssign us vs refl leads (no_going 0 vs token.MergeAssign refl stops))
      (untaken (no_leading token.Return us vs refl leads) (untaken (no_leading token.Abort us vs refl leads)
      (gone (level_runs h vs (weaker 0 1 vs (omega arith) stops) e vs (stopped 0 e vs stops)) ran))))

  -- the operators of the level that stand behind go on with it
  level_runs : {n : ℕ} {us : List Word} {e : Expr} → IsLevel n us e → (vs : List Word) → Stops (suc n) vs → (x : Expr) (rest : List Word) → RuleTakes (chain n e) vs x rest → RuleTakes (level n) (us ++ vs) x rest
  level_runs {n = n} {e = e} (tighter h) vs stops x rest more =
      unseen (not_tightest h) (gone (level_runs h vs (weaker (suc n) (suc (suc n)) vs (omega arith) stops) e vs (stopped (suc n) e vs stops)) (gone more ran))
  level_runs {n = n} (joined {ws = ws} {vs = us} w {r = r} hl e hr) vs stops x rest more = rw (append_assoc ws (w ∷ us) vs)
      (level_runs hl (w ∷ (us ++ vs)) (operator_stops w (us ++ vs) e) x rest
      (taken (takes _ e) (gone (level_runs hr vs (weaker (suc n) (suc (suc n)) vs (omega arith) stops) r vs (stopped (suc n) r vs stops)) (gone more ran))))
  level_runs {us = us} {e = e} (tightest_level h) vs stops x rest more = tight_runs (us ++ vs) vs rest e x (unary_runs h 9 vs stops) more

  unary_runs : {us : List Word} {e : Expr} → IsUnary us e → (n : ℕ) (vs : List Word) → Stops n vs → RuleTakes operand (us ++ vs) e vs
  unary_runs (negated is h) n vs stops = chosen (ap operand_of is.is) (taken (takes tt is) (gone (unary_runs h n vs stops) ran))
  unary_runs (primary h) n vs stops = primary_runs h n vs stops

  primary_runs : {us : List Word} {e : Expr} → IsPrimary us e → (n : ℕ) (vs : List Word) → Stops n vs → RuleTakes operand (us ++ vs) e vs
  primary_runs (literal_operand {w = w} e) n vs stops = chosen (literal_operand_of w.token w.span w.number e) (taken (takes _ e) ran)
  primary_runs (template_operand {w = w} e) n vs stops = chosen (template_operand_of w.token w.span e) (taken (takes _ e) ran)
  primary_runs (path_operand {w = w} e) n vs stops = chosen (path_operand_of w.token e) (taken (takes _ e) ran)
  primary_runs (without_suffix h) n vs stops = suffixable_runs h vs _ (no_going n vs token.Arrow refl stops) (untaken (no_suffix n vs stops) ran)
  primary_runs (with_suffix {ws = ws} {w = w} h is) n vs stops = rw (append_assoc ws (w ∷ []) vs) (suffixable_runs h (w ∷ vs) _ (λ b. cc (b.is, is.is)) (taken (takes _ is) ran))
  primary_runs (with_closure {ws = ws} {vs = us} {span = start} {end = end} {f = f} {gs = gs} h k) n vs stops = rw (append_assoc ws us vs) (call_runs h (us ++ vs) _ (closure_runs f start gs end k vs))
  primary_runs (object_operand {c = c} {ws = ws} io h ic) n vs stops = rw (append_assoc ws (c ∷ []) vs) (chosen (ap operand_of io.is) (taken (takes tt io) (gone (pairs_run h (c ∷ vs) ic) (taken (takes tt ic) ran))))
  primary_runs {us = us} (block_operand h) n vs stops = chosen (block_begins h vs) (gone (block_runs h vs) ran)
  primary_runs (if_operand is h) n vs stops = chosen (ap operand_of is.is) (taken (takes tt is) (gone (arms_run h vs (no_going n vs token.Else refl stops)) ran))

  suffixable_runs : {us : List Word} {e : Expr} → MayHaveSuffix us e → (vs : List Word) (o : Ending Expr) → ¬ Begins token.Arrow vs → Runs operand (suffixed e) vs o → Runs operand (program_of operand) (us ++ vs) o
  suffixable_runs (call_operand h) vs o other more = call_runs h vs o (unseen other more)
  suffixable_runs (array_operand {c = c} {ws = ws} io h ic) vs o other more = rw (append_assoc ws (c ∷ []) vs) (chosen (ap operand_of io.is) (taken (takes tt io) (gone (singles_run h (c ∷ vs) ic) (taken (takes tt ic) more))))
  suffixable_runs (group_operand {c = c} {ws = ws} io h ic) vs o other more = rw (append_assoc ws (c ∷ []) vs)
      (chosen (ap operand_of io.is) (taken (takes tt io) (gone (item_run h (c ∷ vs) (sign_ends token.CloseParenthesis (c ∷ vs) refl ic) (λ b. cc (b.is, ic.is))) (taken (takes tt ic) more))))

  call_runs : {us : List Word} {f : List ℕ × Bool} {start end : Span} {gs : Args} → IsCall us f start gs end → (vs : List Word) (o : Ending Expr) → Runs operand (calling f start gs end) vs o → Runs operand (program_of operand) (us ++ vs) o
  call_runs (called {w = w} {c = c} {ws = ws} is io h ic) vs o more = rw (append_assoc ws (c ∷ []) vs)
      (chosen (function_operand_of w.token is) (taken (takes _ is) (taken (takes tt io) (gone (arguments_run h (c ∷ vs) ic) (taken (takes tt ic) more)))))

  arguments_run : {us : List Word} {gs : Args} → AreArgs us gs → (vs : List Word) → Begins token.CloseParenthesis vs → RuleTakes arguments (us ++ vs) gs vs
  arguments_run no_arguments vs b = seen b ran
  arguments_run {us = us} (last_argument h) vs b =
      unseen (no_ending token.CloseParenthesis (us ++ vs) refl (opens_more us vs (opens_argument h)))
      (gone (argument_runs h vs (sign_ends token.CloseParenthesis vs refl b)) (untaken (no_sign token.Comma vs (other_sign token.CloseParenthesis token.Comma vs (λ e. cc) b)) ran))
  arguments_run (more_arguments {ws = ws} {vs = us} {c = c} h ic hs) vs b = rw (append_assoc ws (c ∷ us) vs)
      (unseen (no_ending token.CloseParenthesis (ws ++ c ∷ (us ++ vs)) refl (opens_more ws (c ∷ (us ++ vs)) (opens_argument h)))
      (gone (argument_runs h (c ∷ (us ++ vs)) (sign_ends token.Comma (c ∷ (us ++ vs)) refl ic)) (taken (takes tt ic) (gone (arguments_run hs vs b) ran))))

  argument_runs : {us : List Word} {n : Option (List ℕ)} {s : Span} {e : Expr} → IsArg us n s e → (vs : List Word) → Sees expression_end vs → RuleTakes argument (us ++ vs) (n, s, e) vs
  argument_runs (named is ic h) vs end = seen (_, is, ic) (taken (takes _ is) (taken (takes tt ic) (gone (single_runs h vs end) ran)))
  argument_runs {us = us} (unnamed h) vs end =
      unseen (λ s. no_single_before token.Colon vs refl (λ e. cc) (λ e. cc) (no_going 0 vs token.Colon refl (ends_stop vs end)) h (name_is_path token.Colon (us ++ vs) s)) (gone (single_runs h vs end) ran)

  closure_runs : (f : List ℕ × Bool) (start : Span) (gs : Args) (end : Span) {us : List Word} {k : Closure} {last : Span} → IsClosure us k last → (vs : List Word) → Runs operand (calling f start gs end) (us ++ vs) (took (expr (over start last) (call f.0 (name_span start f.1) f.1 gs k)) vs)
  closure_runs f start gs end (a_closure {c = c} {ws = ws} {vs = us} ia io h ic hb) vs = rw (append_assoc ws (c ∷ us) vs)
      (seen ia (gone (taken (takes tt ia) (taken (takes tt io) (gone (names_run h (c ∷ (us ++ vs)) (λ _ is. cc (is.is, ic.is))) (taken (takes tt ic) (gone (block_runs hb vs) ran))))) ran))

  singles_run : {us : List Word} {es : Exprs} → AreSingles us es → (vs : List Word) → Begins token.CloseBracket vs → RuleTakes parts (us ++ vs) es vs
  singles_run no_singles vs b = seen b ran
  singles_run {us = us} (last_single h) vs b =
      unseen (no_ending token.CloseBracket (us ++ vs) refl (opens_more us vs (opens_single h)))
      (gone (single_runs h vs (sign_ends token.CloseBracket vs refl b)) (untaken (no_sign token.Comma vs (other_sign token.CloseBracket token.Comma vs (λ e. cc) b)) ran))
  singles_run (more_singles {ws = ws} {vs = us} {c = c} h ic hs) vs b = rw (append_assoc ws (c ∷ us) vs)
      (unseen (no_ending token.CloseBracket (ws ++ c ∷ (us ++ vs)) refl (opens_more ws (c ∷ (us ++ vs)) (opens_single h)))
      (gone (single_runs h (c ∷ (us ++ vs)) (sign_ends token.Comma (c ∷ (us ++ vs)) refl ic)) (taken (takes tt ic) (gone (singles_run hs vs b) ran))))

  pairs_run : {us : List Word} {ps : Pairs} → ArePairs us ps → (vs : List Word) → Begins token.CloseBrace vs → RuleTakes pairs (us ++ vs) ps vs
  pairs_run no_parts vs b = seen b ran
  pairs_run (last_pair ik ic h) vs b = unseen (key_no_close ik) (taken (takes _ ik) (taken (takes tt ic)
      (gone (single_runs h vs (sign_ends token.CloseBrace vs refl b)) (untaken (no_sign token.Comma vs (other_sign token.CloseBrace token.Comma vs (λ e. cc) b)) ran))))
  pairs_run (more_pairs {d = d} {ws = ws} {vs = us} ik ic h id hs) vs b = rw (append_assoc ws (d ∷ us) vs)
      (unseen (key_no_close ik) (taken (takes _ ik) (taken (takes tt ic)
      (gone (single_runs h (d ∷ (us ++ vs)) (sign_ends token.Comma (d ∷ (us ++ vs)) refl id)) (taken (takes tt id) (gone (pairs_run hs vs b) ran))))))

  block_runs : {us : List Word} {es : Exprs} {s : Span} → IsBlock us es s → (vs : List Word) → RuleTakes braces (us ++ vs) (es, s) vs
  block_runs (a_script {c = c} {ws = ws} io h ic) vs = rw (append_assoc ws (c ∷ []) vs) (taken (takes tt io) (gone (script_runs h (c ∷ vs) ic) (taken (takes tt ic) ran)))

  arms_run : {us : List Word} {gs : Arms} {fs : Else} {s : Span} → AreArms us gs fs s → (vs : List Word) → ¬ Begins token.Else vs → RuleTakes arms (us ++ vs) (gs, fs, s) vs
  arms_run (last_arm {ws = ws} {vs = us} {e = e} h hb) vs other = rw (append_assoc ws us vs)
      (let stops = block_stops hb vs in
      gone (level_runs h (us ++ vs) (weaker 0 1 (us ++ vs) (omega arith) stops) e (us ++ vs) (stopped 0 e (us ++ vs) stops)) (gone (block_runs hb vs) (untaken (no_sign token.Else vs other) ran)))
  arms_run (with_else {l = l} {ws = ws} {vs = us} {us = xs} {e = e} h hb il hc) vs other = rw (append_assoc ws (us ++ l ∷ xs) vs, append_assoc us (l ∷ xs) vs)
      (let rest : List Word = us ++ l ∷ (xs ++ vs) in
      let stops = block_stops hb (l ∷ (xs ++ vs)) in
      gone (level_runs h rest (weaker 0 1 rest (omega arith) stops) e rest (stopped 0 e rest stops))
      (gone (block_runs hb (l ∷ (xs ++ vs))) (taken (takes tt il) (untaken (block_no_if hc vs) (gone (block_runs hc vs) ran)))))
  arms_run (more_arms {l = l} {w = w} {ws = ws} {vs = us} {us = xs} {e = e} h hb il iw ha) vs other = rw (append_assoc ws (us ++ l ∷ w ∷ xs) vs, append_assoc us (l ∷ w ∷ xs) vs)
      (let rest : List Word = us ++ l ∷ w ∷ (xs ++ vs) in
      let stops = block_stops hb (l ∷ w ∷ (xs ++ vs)) in
      gone (level_runs h rest (weaker 0 1 rest (omega arith) stops) e rest (stopped 0 e rest stops))
      (gone (block_runs hb (l ∷ w ∷ (xs ++ vs))) (taken (takes tt il) (taken (takes tt iw) (gone (arms_run ha vs other) ran)))))

-- all of the words
pub script_is_taken : {ws : List Word} {es : Exprs} → IsScript ws es → RuleTakes script ws es []
script_is_taken {ws = ws} {es = es} h = subst (λ ts. RuleTakes script ts es []) (append-nil ws) (script_runs h [] tt)
