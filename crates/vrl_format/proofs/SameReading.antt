-- Tokens that are the same, with the same separators that the grammar sees, read to the same script but
-- for places.
use Rattle.std.proofs.Common.{◌≡◌, ℕ, Bool, Option, List, [], ◌∷◌, ◌++◌, refl, sym, ap, ◌∙◌, subst}
use Rattle.std.proofs.lemmas.List.{append-nil}
use Rattle.vrl_diag.specs.declared.diagnostic.Span.{Span}
use Rattle.vrl_syntax.specs.Tree.{Args, Arms, Closure, Else, Expr, Exprs, Pairs, Script}
use Rattle.vrl_word.specs.Words.{Word}
use Rattle.vrl_parse.specs.Grammar.{AreNames, one_name, more_names, IsScript, no_items, separator, last_item, more_items, IsItem, both_targets, single as single_item, IsSingle, assigned, merged, returned, aborted, aborted_with, coalesce, IsLevel, tighter, joined, tightest, IsUnary, negated, primary, IsPrimary, a_literal, a_template, a_path, without_suffix, with_suffix, with_closure, an_object, a_block, an_if, MayHaveSuffix, a_call, an_array, a_group, IsCall, called, AreArgs, no_arguments, last_argument, more_arguments, IsArg, named, unnamed, IsClosure, a_closure, AreSingles, no_singles, last_single, more_singles, ArePairs, no_parts, last_pair, more_pairs, IsBlock, a_script, AreArms, last_arm, with_else, more_arms}
use Rattle.vrl_token.specs.declared.token.Spanned.{Spanned}
use Rattle.vrl_parse.specs.Reading.{Reads}
use Rattle.vrl_format.specs.Formatting.{tokens_in}
use Rattle.vrl_format.specs.Apart.{apart}
use Rattle.vrl_format.specs.Unplaced.{unplaced, unplaced_args, unplaced_arms, unplaced_closure, unplaced_else, unplaced_exprs, unplaced_pairs, without_places}
use Rattle.vrl_format.proofs.FirstWords.{item_begins}
use Rattle.vrl_format.proofs.Marks.{edge, inner, mark_is, marks, none_is_some, same_marks, same_sources}
use Rattle.vrl_format.proofs.Taking.{Alike, Takes}
use Rattle.vrl_format.proofs.TakingItems.{AsBlock, AsItem, Sealed, takes_block, takes_last_item, takes_more_items, takes_no_items, takes_separator, TakesScript, TookScript}
use Rattle.vrl_format.proofs.TakingParts.{AsArg, AsArgs, AsArms, AsCall, AsClosure, AsLevel, AsNames, AsPairs, AsPart, AsPrimary, AsSingle, AsSingles, AsUnary, takes_a_block, takes_a_call, takes_aborted, takes_aborted_with, takes_an_object, takes_array, takes_assigned, takes_both_targets, takes_called, takes_closure, takes_coalesce, takes_group, takes_if, takes_joined, takes_last_argument, takes_last_arm, takes_last_pair, takes_last_single, takes_literal, takes_merged, takes_more_arguments, takes_more_arms, takes_more_pairs, takes_more_singles, takes_name, takes_named, takes_names, takes_negated, takes_no_arguments, takes_no_parts, takes_no_singles, takes_path, takes_primary, takes_returned, takes_single_item, takes_template, takes_tighter, takes_tightest, takes_unnamed, takes_with_closure, takes_with_else, takes_with_suffix, takes_without_suffix}

names_taken : {ws : List Word} {ns : List (List ℕ)} → AreNames ws ns → Takes ws (AsNames ns)
names_taken (one_name is) = takes_name is
names_taken (more_names is comma rest) = takes_names is comma (names_taken rest)

mutual
  script_taken : {ws : List Word} {es : Exprs} → IsScript ws es → TakesScript ws (unplaced_exprs es)
  script_taken no_items = takes_no_items
  script_taken (separator {ws = ws} is rest) = takes_separator ws is (script_taken rest)
  script_taken (last_item it) = takes_last_item (item_begins it) (item_taken it)
  script_taken (more_items {ws = ws} {vs = vs} it is rest) = takes_more_items ws vs (item_begins it) (item_taken it) is rest (script_taken rest)

  item_taken : {ws : List Word} {e : Expr} → IsItem ws e → Takes ws (AsItem (unplaced e))
  item_taken (both_targets one comma two assign it) = takes_both_targets one comma two assign (single_taken it)
  item_taken (single_item it) = takes_single_item (single_taken it)

  single_taken : {ws : List Word} {e : Expr} → IsSingle ws e → Takes ws (AsSingle (unplaced e))
  single_taken (assigned is sign it) = takes_assigned is sign (single_taken it)
  single_taken (merged is sign it) = takes_merged is sign (single_taken it)
  single_taken (returned is it) = takes_returned is (single_taken it)
  single_taken (aborted is) = takes_aborted is
  single_taken (aborted_with is it) = takes_aborted_with is (single_taken it)
  single_taken (coalesce it) = takes_coalesce (level_taken it)

  level_taken : {n : ℕ} {ws : List Word} {e : Expr} → IsLevel n ws e → Takes ws (AsLevel n (unplaced e))
  level_taken (tighter it) = takes_tighter (level_taken it)
  level_taken (joined w left is right) = takes_joined w (level_taken left) is (level_taken right)
  level_taken (tightest it) = takes_tightest (unary_taken it)

  unary_taken : {ws : List Word} {e : Expr} → IsUnary ws e → Takes ws (AsUnary (unplaced e))
  unary_taken (negated is it) = takes_negated is (unary_taken it)
  unary_taken (primary it) = takes_primary (primary_taken it)

  primary_taken : {ws : List Word} {e : Expr} → IsPrimary ws e → Takes ws (AsPrimary (unplaced e))
  primary_taken (a_literal is) = takes_literal is
  primary_taken (a_template is) = takes_template is
  primary_taken (a_path is) = takes_path is
  primary_taken (without_suffix it) = takes_without_suffix (part_taken it)
  primary_taken (with_suffix it is) = takes_with_suffix (part_taken it) is
  primary_taken (with_closure {f = f} it behind) = takes_with_closure f (call_taken it) (closure_taken behind)
  primary_taken (an_object opens it closes) = takes_an_object opens (pairs_taken it) closes
  primary_taken (a_block it) = takes_a_block (block_taken it)
  primary_taken (an_if is it) = takes_if is (arms_taken it)

  part_taken : {ws : List Word} {e : Expr} → MayHaveSuffix ws e → Takes ws (AsPart (unplaced e))
  part_taken (a_call {f = f} it) = takes_a_call f (call_taken it)
  part_taken (an_array opens it closes) = takes_array opens (singles_taken it) closes
  part_taken (a_group opens it closes) = takes_group opens (item_taken it) closes

  call_taken : {ws : List Word} {f : List ℕ × Bool} {s t : Span} {gs : Args} → IsCall ws f s gs t → Takes ws (AsCall f (unplaced_args gs))
  call_taken (called {f = f} is opens it closes) = takes_called f is opens (args_taken it) closes

  args_taken : {ws : List Word} {gs : Args} → AreArgs ws gs → Takes ws (AsArgs (unplaced_args gs))
  args_taken no_arguments = takes_no_arguments
  args_taken (last_argument it) = takes_last_argument (arg_taken it)
  args_taken (more_arguments it comma rest) = takes_more_arguments (arg_taken it) comma (args_taken rest)

  arg_taken : {ws : List Word} {n : Option (List ℕ)} {s : Span} {e : Expr} → IsArg ws n s e → Takes ws (AsArg n (unplaced e))
  arg_taken (named is colon it) = takes_named is colon (single_taken it)
  arg_taken (unnamed it) = takes_unnamed (single_taken it)

  closure_taken : {ws : List Word} {c : Closure} {s : Span} → IsClosure ws c s → Takes ws (AsClosure (unplaced_closure c))
  closure_taken (a_closure arrow opens names closes it) = takes_closure arrow opens (names_taken names) closes (block_taken it)

  singles_taken : {ws : List Word} {es : Exprs} → AreSingles ws es → Takes ws (AsSingles (unplaced_exprs es))
  singles_taken no_singles = takes_no_singles
  singles_taken (last_single it) = takes_last_single (single_taken it)
  singles_taken (more_singles it comma rest) = takes_more_singles (single_taken it) comma (singles_taken rest)

  pairs_taken : {ws : List Word} {ps : Pairs} → ArePairs ws ps → Takes ws (AsPairs (unplaced_pairs ps))
  pairs_taken no_parts = takes_no_parts
  pairs_taken (last_pair is colon it) = takes_last_pair is colon (single_taken it)
  pairs_taken (more_pairs is colon it comma rest) = takes_more_pairs is colon (single_taken it) comma (pairs_taken rest)

  block_taken : {ws : List Word} {es : Exprs} {s : Span} → IsBlock ws es s → Takes ws (AsBlock (unplaced_exprs es))
  block_taken (a_script {ws = ws} opens it closes) = takes_block ws opens (script_taken it) closes

  arms_taken : {ws : List Word} {gs : Arms} {es : Else} {s : Span} → AreArms ws gs es s → Takes ws (AsArms (unplaced_arms gs) (unplaced_else es))
  arms_taken (last_arm predicate it) = takes_last_arm (level_taken predicate) (block_taken it)
  arms_taken (with_else predicate it is other) = takes_with_else (level_taken predicate) (block_taken it) is (block_taken other)
  arms_taken (more_arms predicate it is more rest) = takes_more_arms (level_taken predicate) (block_taken it) is more (arms_taken rest)

-- ---- the whole script

-- nothing is left behind it
all_taken : (us : List Word) → Sealed us → Alike [] us [] → us ≡ []
all_taken [] sealed is = refl
all_taken (u ∷ us) sealed is = absurd (none_is_some (sym is ∙ mark_is [] inner (λ b g. marks b g us) u.token u.number sealed))

record Whole (us : List Word) (x : Exprs) : Type 0 where
  items : Exprs
  is : IsScript us items
  same : unplaced_exprs items ≡ x

whole : {us : List Word} {x : Exprs} → TookScript [] [] us x → Whole us x
whole t =
    let all = t.took.parts ∙ ap (λ r. t.took.words ++ r) (all_taken t.took.rest t.sealed t.took.alike) ∙ append-nil t.took.words in
    record { items = t.took.told.tree; is = subst (λ ws. IsScript ws t.took.told.tree) (sym all) t.took.told.is; same = t.took.told.same }

script_again : {ws us : List Word} {es : Exprs} → IsScript ws es → marks [] edge us ≡ marks [] edge ws → Whole us (unplaced_exprs es)
script_again {ws = ws} {us = us} it is =
    whole ((script_taken it).take [] [] us tt (is ∙ sym (ap (marks [] edge) (append-nil ws))))

pub same_tokens_read : (ts us : List Spanned) (s : Script) → Reads ts s
    → apart (tokens_in us) ≡ apart (tokens_in ts) → (r : Script) × Reads us r × (without_places r ≡ without_places s)
same_tokens_read ts us s reads is =
    let w = script_again reads.items (same_marks ts us is) in
    let r : Script = record { items = w.items; patterns = s.patterns } in
    (r, record { items = w.is; patterns = reads.patterns ∙ sym (same_sources ts us is) }, λ i. record { items = w.same i; patterns = s.patterns })
