-- The parts of an item: each production of the grammar takes words that are alike.
use Rattle.std.proofs.Common.{◌≡◌, ℕ, suc, Bool, Some, None, Option, List, [], ◌∷◌, ◌++◌, refl, ap, ◌∙◌}
use Rattle.vrl_path.specs.declared.path.Step.{Step}
use Rattle.vrl_diag.specs.declared.diagnostic.Span.{Span}
use Rattle.vrl_syntax.specs.Tree.{Expr, expr, literal, array, object, read, query, group, block, conditional, negation, binary, assign, merge, both, call, return_of, abort_with, Exprs, no_exprs, exprs, Pairs, no_pairs, pair, Arms, no_arms, arm, Else, no_else, else_block, Args, no_args, arg, Closure, no_closure, closure, no_message, message, no_span, span_of}
use Rattle.vrl_syntax.specs.declared.root.Op.{Op}
use Rattle.vrl_syntax.specs.declared.root.Root.{Root}
use Rattle.vrl_syntax.specs.declared.root.Target.{Target}
use Rattle.vrl_token.specs.declared.token.Token.TheVariants as token
use Rattle.vrl_value.specs.Tree.{Tree}
use Rattle.vrl_word.specs.Words.{Word, over, literal_of, template_of, path_of, target_of, function_of, name_span, operator_of, levels}
use Rattle.vrl_parse.specs.Grammar.{Is, AreNames, one_name, more_names, both_targets, single as single_item, IsSingle, assigned, merged, returned, aborted, aborted_with, coalesce, IsLevel, tighter, joined, tightest, IsUnary, negated, primary, IsPrimary, a_literal, a_template, a_path, without_suffix, with_suffix, with_closure, an_object, a_block, an_if, MayHaveSuffix, a_call, an_array, a_group, IsCall, called, AreArgs, no_arguments, last_argument, more_arguments, IsArg, named, unnamed, IsClosure, a_closure, AreSingles, no_singles, last_single, more_singles, ArePairs, no_parts, last_pair, more_pairs, AreArms, last_arm, with_else, more_arms}
use Rattle.vrl_format.specs.Unplaced.{unplaced, unplaced_args, unplaced_arms, unplaced_closure, unplaced_else, unplaced_exprs, unplaced_pairs, unplaced_target}
use Rattle.vrl_format.proofs.SameWords.{function_plain, literal_again, literal_plain, operator_plain, path_plain, target_again, target_plain, template_again, template_plain}
use Rattle.vrl_format.proofs.Taking.{ReadAs, Takes, takes_as, takes_both, takes_none, takes_object, takes_sign, takes_word}
use Rattle.vrl_format.proofs.TakingItems.{AsBlock, AsItem}

-- what words are read to, without places
abbrev pub AsSingle : Expr → List Word → Type 0
AsSingle x ts = ReadAs IsSingle unplaced x ts

abbrev pub AsLevel : ℕ → Expr → List Word → Type 0
AsLevel n x ts = ReadAs (IsLevel n) unplaced x ts

abbrev pub AsUnary : Expr → List Word → Type 0
AsUnary x ts = ReadAs IsUnary unplaced x ts

abbrev pub AsPrimary : Expr → List Word → Type 0
AsPrimary x ts = ReadAs IsPrimary unplaced x ts

abbrev pub AsPart : Expr → List Word → Type 0
AsPart x ts = ReadAs MayHaveSuffix unplaced x ts

abbrev pub AsCall : List ℕ × Bool → Args → List Word → Type 0
AsCall f x ts = ReadAs {A = Span × Args × Span} (λ us a. IsCall us f a.0 a.1 a.2) (λ a. unplaced_args a.1) x ts

abbrev pub AsArgs : Args → List Word → Type 0
AsArgs x ts = ReadAs AreArgs unplaced_args x ts

abbrev pub AsArg : Option (List ℕ) → Expr → List Word → Type 0
AsArg n x ts = ReadAs {A = Span × Expr} (λ us a. IsArg us n a.0 a.1) (λ a. unplaced a.1) x ts

abbrev pub AsClosure : Closure → List Word → Type 0
AsClosure x ts = ReadAs {A = Closure × Span} (λ us a. IsClosure us a.0 a.1) (λ a. unplaced_closure a.0) x ts

abbrev pub AsSingles : Exprs → List Word → Type 0
AsSingles x ts = ReadAs AreSingles unplaced_exprs x ts

abbrev pub AsPairs : Pairs → List Word → Type 0
AsPairs x ts = ReadAs ArePairs unplaced_pairs x ts

abbrev pub AsArms : Arms → Else → List Word → Type 0
AsArms x y ts = ReadAs {A = Arms × Else × Span} {B = Arms × Else} (λ us a. AreArms us a.0 a.1 a.2)
    (λ a. (unplaced_arms a.0, unplaced_else a.1)) (x, y) ts

abbrev pub AsNames : List (List ℕ) → List Word → Type 0
AsNames ns ts = AreNames ts ns

-- ---- names

pub takes_name : {w : Word} {n : List ℕ} → Is (token.Name n) w → Takes (w ∷ []) (AsNames (n ∷ []))
takes_name {n = n} is = takes_sign (token.Name n) is refl (λ v iv. takes_none (one_name iv))

pub takes_names : {w c : Word} {n : List ℕ} {ws : List Word} {ns : List (List ℕ)} → Is (token.Name n) w → Is token.Comma c
    → Takes ws (AsNames ns) → Takes (w ∷ c ∷ ws) (AsNames (n ∷ ns))
takes_names {n = n} is comma rest = takes_sign (token.Name n) is refl (λ v iv. takes_sign token.Comma comma refl (λ d id.
    takes_as rest (λ ts it. more_names iv id it)))

-- ---- items

pub takes_both_targets : {w c v q : Word} {t u : Target} {ws : List Word} {x : Expr} → target_of w ≡ Some t → Is token.Comma c
    → target_of v ≡ Some u → Is token.Assign q → Takes ws (AsSingle x)
    → Takes (w ∷ c ∷ v ∷ q ∷ ws) (AsItem (expr no_span (both (unplaced_target t) (unplaced_target u) x)))
takes_both_targets {w = w} {v = v} {t = t} {u = u} one comma two sign it =
    takes_word w (target_plain w.token w.span t one) (λ a same_a. takes_sign token.Comma comma refl (λ b ib.
    takes_word v (target_plain v.token v.span u two) (λ c same_c. takes_sign token.Assign sign refl (λ d id.
    takes_as it (λ ts r.
    let left = target_again a w t same_a one in
    let right = target_again c v u same_c two in
    record {
      tree = expr (over a.span (span_of r.tree)) (both left.target right.target r.tree);
      is = both_targets left.is ib right.is id r.is;
      same = λ i. expr no_span (both (left.same i) (right.same i) (r.same i));
    })))))

pub takes_single_item : {ws : List Word} {x : Expr} → Takes ws (AsSingle x) → Takes ws (AsItem x)
takes_single_item it = takes_as it (λ ts r. record { tree = r.tree; is = single_item r.is; same = r.same })

-- ---- single expressions

pub takes_assigned : {w q : Word} {t : Target} {ws : List Word} {x : Expr} → target_of w ≡ Some t → Is token.Assign q
    → Takes ws (AsSingle x) → Takes (w ∷ q ∷ ws) (AsSingle (expr no_span (assign (unplaced_target t) x)))
takes_assigned {w = w} {t = t} is sign it = takes_word w (target_plain w.token w.span t is) (λ a same_a. takes_sign token.Assign sign refl (λ b ib.
    takes_as it (λ ts r.
    let u = target_again a w t same_a is in
    record {
      tree = expr (over a.span (span_of r.tree)) (assign u.target r.tree);
      is = assigned u.is ib r.is;
      same = λ i. expr no_span (assign (u.same i) (r.same i));
    })))

pub takes_merged : {w q : Word} {t : Target} {ws : List Word} {x : Expr} → target_of w ≡ Some t → Is token.MergeAssign q
    → Takes ws (AsSingle x) → Takes (w ∷ q ∷ ws) (AsSingle (expr no_span (merge (unplaced_target t) x)))
takes_merged {w = w} {t = t} is sign it = takes_word w (target_plain w.token w.span t is) (λ a same_a. takes_sign token.MergeAssign sign refl (λ b ib.
    takes_as it (λ ts r.
    let u = target_again a w t same_a is in
    record {
      tree = expr (over a.span (span_of r.tree)) (merge u.target r.tree);
      is = merged u.is ib r.is;
      same = λ i. expr no_span (merge (u.same i) (r.same i));
    })))

pub takes_returned : {w : Word} {ws : List Word} {x : Expr} → Is token.Return w → Takes ws (AsSingle x)
    → Takes (w ∷ ws) (AsSingle (expr no_span (return_of x)))
takes_returned is it = takes_sign token.Return is refl (λ a ia. takes_as it (λ ts r.
    record { tree = expr (over a.span (span_of r.tree)) (return_of r.tree); is = returned ia r.is; same = λ i. expr no_span (return_of (r.same i)) }))

pub takes_aborted : {w : Word} → Is token.Abort w → Takes (w ∷ []) (AsSingle (expr no_span (abort_with no_message)))
takes_aborted is = takes_sign token.Abort is refl (λ a ia. takes_none
    (record { tree = expr a.span (abort_with no_message); is = aborted ia; same = refl }))

pub takes_aborted_with : {w : Word} {ws : List Word} {x : Expr} → Is token.Abort w → Takes ws (AsSingle x)
    → Takes (w ∷ ws) (AsSingle (expr no_span (abort_with (message x))))
takes_aborted_with is it = takes_sign token.Abort is refl (λ a ia. takes_as it (λ ts r. record {
  tree = expr (over a.span (span_of r.tree)) (abort_with (message r.tree));
  is = aborted_with ia r.is;
  same = λ i. expr no_span (abort_with (message (r.same i)));
}))

pub takes_coalesce : {ws : List Word} {x : Expr} → Takes ws (AsLevel 0 x) → Takes ws (AsSingle x)
takes_coalesce it = takes_as it (λ ts r. record { tree = r.tree; is = coalesce r.is; same = r.same })

-- ---- levels

pub takes_tighter : {n : ℕ} {ws : List Word} {x : Expr} → Takes ws (AsLevel (suc n) x) → Takes ws (AsLevel n x)
takes_tighter it = takes_as it (λ ts r. record { tree = r.tree; is = tighter r.is; same = r.same })

pub takes_joined : {n : ℕ} {o : Op} {ws vs : List Word} (w : Word) {x y : Expr} → Takes ws (AsLevel n x) → operator_of w.token ≡ Some (n, o)
    → Takes vs (AsLevel (suc n) y) → Takes (ws ++ w ∷ vs) (AsLevel n (expr no_span (binary o x y)))
takes_joined {n = n} {o = o} {ws = ws} {vs = vs} w left is right = takes_both ws (w ∷ vs) left (λ ts l.
    takes_word w (operator_plain w.token (n, o) is) (λ v same. takes_as right (λ us r. record {
      tree = expr (over (span_of l.tree) (span_of r.tree)) (binary o l.tree r.tree);
      is = joined v l.is (ap operator_of same.token ∙ is) r.is;
      same = λ i. expr no_span (binary o (l.same i) (r.same i));
    })))

pub takes_tightest : {ws : List Word} {x : Expr} → Takes ws (AsUnary x) → Takes ws (AsLevel levels x)
takes_tightest it = takes_as it (λ ts r. record { tree = r.tree; is = tightest r.is; same = r.same })

pub takes_negated : {w : Word} {ws : List Word} {x : Expr} → Is token.Not w → Takes ws (AsUnary x)
    → Takes (w ∷ ws) (AsUnary (expr no_span (negation x)))
takes_negated is it = takes_sign token.Not is refl (λ a ia. takes_as it (λ ts r.
    record { tree = expr (over a.span (span_of r.tree)) (negation r.tree); is = negated ia r.is; same = λ i. expr no_span (negation (r.same i)) }))

pub takes_primary : {ws : List Word} {x : Expr} → Takes ws (AsPrimary x) → Takes ws (AsUnary x)
takes_primary it = takes_as it (λ ts r. record { tree = r.tree; is = primary r.is; same = r.same })

-- ---- operands

pub takes_literal : {w : Word} {v : Tree} → literal_of w ≡ Some v → Takes (w ∷ []) (AsPrimary (expr no_span (literal v)))
takes_literal {w = w} {v = v} is = takes_word w (literal_plain w.token w.number v is) (λ a same. takes_none
    (record { tree = expr a.span (literal v); is = a_literal (literal_again a w v same is); same = refl }))

pub takes_template : {w : Word} {e : Expr} → template_of w ≡ Some e → Takes (w ∷ []) (AsPrimary (unplaced e))
takes_template {w = w} {e = e} is = takes_word w (template_plain w.token w.span e is) (λ a same. takes_none
    (let t = template_again a w e same is in record { tree = t.text; is = a_template t.is; same = t.same }))

pub takes_path : {w : Word} {r : Root} {p : List Step} → path_of w.token ≡ Some (r, p) → Takes (w ∷ []) (AsPrimary (expr no_span (read r p)))
takes_path {w = w} {r = r} {p = p} is = takes_word w (path_plain w.token (r, p) is) (λ a same. takes_none
    (record { tree = expr a.span (read r p); is = a_path (ap path_of same.token ∙ is); same = refl }))

pub takes_without_suffix : {ws : List Word} {x : Expr} → Takes ws (AsPart x) → Takes ws (AsPrimary x)
takes_without_suffix it = takes_as it (λ ts r. record { tree = r.tree; is = without_suffix r.is; same = r.same })

pub takes_with_suffix : {ws : List Word} {w : Word} {p : List Step} {x : Expr} → Takes ws (AsPart x) → Is (token.Suffix p) w
    → Takes (ws ++ w ∷ []) (AsPrimary (expr no_span (query x p)))
takes_with_suffix {ws = ws} {w = w} {p = p} it is = takes_both ws (w ∷ []) it (λ ts r. takes_sign (token.Suffix p) is refl (λ v iv. takes_none
    (record { tree = expr (over (span_of r.tree) v.span) (query r.tree p); is = with_suffix r.is iv; same = λ i. expr no_span (query (r.same i) p) })))

pub takes_with_closure : {ws vs : List Word} {x : Args} {y : Closure} (f : List ℕ × Bool) → Takes ws (AsCall f x) → Takes vs (AsClosure y)
    → Takes (ws ++ vs) (AsPrimary (expr no_span (call f.0 no_span f.1 x y)))
takes_with_closure {ws = ws} {vs = vs} f it behind = takes_both ws vs it (λ ts l. takes_as behind (λ us r. record {
  tree = expr (over l.tree.0 r.tree.1) (call f.0 (name_span l.tree.0 f.1) f.1 l.tree.1 r.tree.0);
  is = with_closure l.is r.is;
  same = λ i. expr no_span (call f.0 no_span f.1 (l.same i) (r.same i));
}))

pub takes_an_object : {o c : Word} {ws : List Word} {x : Pairs} → Is token.OpenObject o → Takes ws (AsPairs x) → Is token.CloseBrace c
    → Takes (o ∷ ws ++ c ∷ []) (AsPrimary (expr no_span (object x)))
takes_an_object {ws = ws} opens it closes = takes_object ws opens it closes (λ p q ts ip r iq. record {
  tree = expr (over p.span q.span) (object r.tree);
  is = an_object ip r.is iq;
  same = λ i. expr no_span (object (r.same i));
})

pub takes_a_block : {ws : List Word} {x : Exprs} → Takes ws (AsBlock x) → Takes ws (AsPrimary (expr no_span (block x)))
takes_a_block it = takes_as it (λ ts r.
    record { tree = expr r.tree.1 (block r.tree.0); is = a_block r.is; same = λ i. expr no_span (block (r.same i)) })

pub takes_if : {w : Word} {ws : List Word} {x : Arms} {y : Else} → Is token.If w → Takes ws (AsArms x y)
    → Takes (w ∷ ws) (AsPrimary (expr no_span (conditional x y)))
takes_if is it = takes_sign token.If is refl (λ v iv. takes_as it (λ ts r. record {
  tree = expr (over v.span r.tree.2) (conditional r.tree.0 r.tree.1);
  is = an_if iv r.is;
  same = λ i. expr no_span (conditional (r.same i).0 (r.same i).1);
}))

pub takes_a_call : {ws : List Word} {x : Args} (f : List ℕ × Bool) → Takes ws (AsCall f x)
    → Takes ws (AsPart (expr no_span (call f.0 no_span f.1 x no_closure)))
takes_a_call f it = takes_as it (λ ts r. record {
  tree = expr (over r.tree.0 r.tree.2) (call f.0 (name_span r.tree.0 f.1) f.1 r.tree.1 no_closure);
  is = a_call r.is;
  same = λ i. expr no_span (call f.0 no_span f.1 (r.same i) no_closure);
})

pub takes_array : {o c : Word} {ws : List Word} {x : Exprs} → Is token.OpenBracket o → Takes ws (AsSingles x) → Is token.CloseBracket c
    → Takes (o ∷ ws ++ c ∷ []) (AsPart (expr no_span (array x)))
takes_array {c = c} {ws = ws} opens it closes = takes_sign token.OpenBracket opens refl (λ p ip. takes_both ws (c ∷ []) it (λ ts r.
    takes_sign token.CloseBracket closes refl (λ q iq. takes_none
    (record { tree = expr (over p.span q.span) (array r.tree); is = an_array ip r.is iq; same = λ i. expr no_span (array (r.same i)) }))))

pub takes_group : {o c : Word} {ws : List Word} {x : Expr} → Is token.OpenParenthesis o → Takes ws (AsItem x) → Is token.CloseParenthesis c
    → Takes (o ∷ ws ++ c ∷ []) (AsPart (expr no_span (group x)))
takes_group {c = c} {ws = ws} opens it closes = takes_sign token.OpenParenthesis opens refl (λ p ip. takes_both ws (c ∷ []) it (λ ts r.
    takes_sign token.CloseParenthesis closes refl (λ q iq. takes_none
    (record { tree = expr (over p.span q.span) (group r.tree); is = a_group ip r.is iq; same = λ i. expr no_span (group (r.same i)) }))))

-- ---- calls

pub takes_called : {w o c : Word} (f : List ℕ × Bool) {ws : List Word} {x : Args} → function_of w.token ≡ Some f → Is token.OpenParenthesis o
    → Takes ws (AsArgs x) → Is token.CloseParenthesis c → Takes (w ∷ o ∷ ws ++ c ∷ []) (AsCall f x)
takes_called {w = w} {c = c} f {ws = ws} is opens it closes = takes_word w (function_plain w.token f is) (λ v same.
    takes_sign token.OpenParenthesis opens refl (λ p ip. takes_both ws (c ∷ []) it (λ ts r.
    takes_sign token.CloseParenthesis closes refl (λ q iq. takes_none
    (record { tree = (v.span, r.tree, q.span); is = called (ap function_of same.token ∙ is) ip r.is iq; same = r.same })))))

pub takes_no_arguments : Takes [] (AsArgs no_args)
takes_no_arguments = takes_none (record { tree = no_args; is = no_arguments; same = refl })

pub takes_last_argument : {ws : List Word} {n : Option (List ℕ)} {x : Expr} → Takes ws (AsArg n x) → Takes ws (AsArgs (arg n no_span x no_args))
takes_last_argument {n = n} it = takes_as it (λ ts r. record {
  tree = arg n r.tree.0 r.tree.1 no_args;
  is = last_argument r.is;
  same = λ i. arg n no_span (r.same i) no_args;
})

pub takes_more_arguments : {ws vs : List Word} {c : Word} {n : Option (List ℕ)} {x : Expr} {y : Args} → Takes ws (AsArg n x) → Is token.Comma c
    → Takes vs (AsArgs y) → Takes (ws ++ c ∷ vs) (AsArgs (arg n no_span x y))
takes_more_arguments {ws = ws} {vs = vs} {c = c} {n = n} it comma rest = takes_both ws (c ∷ vs) it (λ ts l.
    takes_sign token.Comma comma refl (λ d id. takes_as rest (λ us r. record {
      tree = arg n l.tree.0 l.tree.1 r.tree;
      is = more_arguments l.is id r.is;
      same = λ i. arg n no_span (l.same i) (r.same i);
    })))

pub takes_named : {w c : Word} {n : List ℕ} {ws : List Word} {x : Expr} → Is (token.Name n) w → Is token.Colon c → Takes ws (AsSingle x)
    → Takes (w ∷ c ∷ ws) (AsArg (Some n) x)
takes_named {n = n} is colon it = takes_sign (token.Name n) is refl (λ v iv. takes_sign token.Colon colon refl (λ d id. takes_as it (λ ts r.
    record { tree = (over v.span (span_of r.tree), r.tree); is = named iv id r.is; same = r.same })))

pub takes_unnamed : {ws : List Word} {x : Expr} → Takes ws (AsSingle x) → Takes ws (AsArg None x)
takes_unnamed it = takes_as it (λ ts r. record { tree = (span_of r.tree, r.tree); is = unnamed r.is; same = r.same })

pub takes_closure : {a o c : Word} {ws vs : List Word} {names : List (List ℕ)} {x : Exprs} → Is token.Arrow a → Is token.OpenBars o
    → Takes ws (AsNames names) → Is token.CloseBars c → Takes vs (AsBlock x) → Takes (a ∷ o ∷ ws ++ c ∷ vs) (AsClosure (closure names x no_span))
takes_closure {c = c} {ws = ws} {vs = vs} {names = names} arrow opens listed closes it = takes_sign token.Arrow arrow refl (λ v iv.
    takes_sign token.OpenBars opens refl (λ p ip. takes_both ws (c ∷ vs) listed (λ ts l. takes_sign token.CloseBars closes refl (λ q iq.
    takes_as it (λ us r. record {
      tree = (closure names r.tree.0 r.tree.1, r.tree.1);
      is = a_closure iv ip l iq r.is;
      same = λ i. closure names (r.same i) no_span;
    })))))

-- ---- the parts of arrays and objects

pub takes_no_singles : Takes [] (AsSingles no_exprs)
takes_no_singles = takes_none (record { tree = no_exprs; is = no_singles; same = refl })

pub takes_last_single : {ws : List Word} {x : Expr} → Takes ws (AsSingle x) → Takes ws (AsSingles (exprs x no_exprs))
takes_last_single it = takes_as it (λ ts r.
    record { tree = exprs r.tree no_exprs; is = last_single r.is; same = λ i. exprs (r.same i) no_exprs })

pub takes_more_singles : {ws vs : List Word} {c : Word} {x : Expr} {y : Exprs} → Takes ws (AsSingle x) → Is token.Comma c
    → Takes vs (AsSingles y) → Takes (ws ++ c ∷ vs) (AsSingles (exprs x y))
takes_more_singles {ws = ws} {vs = vs} {c = c} it comma rest = takes_both ws (c ∷ vs) it (λ ts l. takes_sign token.Comma comma refl (λ d id.
    takes_as rest (λ us r. record { tree = exprs l.tree r.tree; is = more_singles l.is id r.is; same = λ i. exprs (l.same i) (r.same i) })))

pub takes_no_parts : Takes [] (AsPairs no_pairs)
takes_no_parts = takes_none (record { tree = no_pairs; is = no_parts; same = refl })

pub takes_last_pair : {k c : Word} {key : List ℕ} {ws : List Word} {x : Expr} → Is (token.Text key) k → Is token.Colon c
    → Takes ws (AsSingle x) → Takes (k ∷ c ∷ ws) (AsPairs (pair key x no_pairs))
takes_last_pair {key = key} is colon it = takes_sign (token.Text key) is refl (λ v iv. takes_sign token.Colon colon refl (λ d id.
    takes_as it (λ ts r. record { tree = pair key r.tree no_pairs; is = last_pair iv id r.is; same = λ i. pair key (r.same i) no_pairs })))

pub takes_more_pairs : {k c d : Word} {key : List ℕ} {ws vs : List Word} {x : Expr} {y : Pairs} → Is (token.Text key) k → Is token.Colon c
    → Takes ws (AsSingle x) → Is token.Comma d → Takes vs (AsPairs y) → Takes (k ∷ c ∷ ws ++ d ∷ vs) (AsPairs (pair key x y))
takes_more_pairs {d = d} {key = key} {ws = ws} {vs = vs} is colon it comma rest = takes_sign (token.Text key) is refl (λ a ia.
    takes_sign token.Colon colon refl (λ b ib. takes_both ws (d ∷ vs) it (λ ts l. takes_sign token.Comma comma refl (λ e ie.
    takes_as rest (λ us r. record {
      tree = pair key l.tree r.tree;
      is = more_pairs ia ib l.is ie r.is;
      same = λ i. pair key (l.same i) (r.same i);
    })))))

-- ---- conditionals

pub takes_last_arm : {ws vs : List Word} {x : Expr} {y : Exprs} → Takes ws (AsLevel 0 x) → Takes vs (AsBlock y)
    → Takes (ws ++ vs) (AsArms (arm x y no_arms) no_else)
takes_last_arm {ws = ws} {vs = vs} predicate it = takes_both ws vs predicate (λ ts p. takes_as it (λ us b. record {
  tree = (arm p.tree b.tree.0 no_arms, no_else, b.tree.1);
  is = last_arm p.is b.is;
  same = λ i. (arm (p.same i) (b.same i) no_arms, no_else);
}))

pub takes_with_else : {l : Word} {ws vs us : List Word} {x : Expr} {y z : Exprs} → Takes ws (AsLevel 0 x) → Takes vs (AsBlock y)
    → Is token.Else l → Takes us (AsBlock z) → Takes (ws ++ (vs ++ l ∷ us)) (AsArms (arm x y no_arms) (else_block z))
takes_with_else {l = l} {ws = ws} {vs = vs} {us = us} predicate it is other = takes_both ws (vs ++ l ∷ us) predicate (λ ts p.
    takes_both vs (l ∷ us) it (λ ks b. takes_sign token.Else is refl (λ m im. takes_as other (λ js d. record {
      tree = (arm p.tree b.tree.0 no_arms, else_block d.tree.0, d.tree.1);
      is = with_else p.is b.is im d.is;
      same = λ i. (arm (p.same i) (b.same i) no_arms, else_block (d.same i));
    }))))

pub takes_more_arms : {l w : Word} {ws vs us : List Word} {x : Expr} {y : Exprs} {gs : Arms} {z : Else} → Takes ws (AsLevel 0 x)
    → Takes vs (AsBlock y) → Is token.Else l → Is token.If w → Takes us (AsArms gs z)
    → Takes (ws ++ (vs ++ l ∷ w ∷ us)) (AsArms (arm x y gs) z)
takes_more_arms {l = l} {w = w} {ws = ws} {vs = vs} {us = us} predicate it is more rest = takes_both ws (vs ++ l ∷ w ∷ us) predicate (λ ts p.
    takes_both vs (l ∷ w ∷ us) it (λ ks b. takes_sign token.Else is refl (λ m im. takes_sign token.If more refl (λ n iq.
    takes_as rest (λ js r. record {
      tree = (arm p.tree b.tree.0 r.tree.0, r.tree.1, r.tree.2);
      is = more_arms p.is b.is im iq r.is;
      same = λ i. (arm (p.same i) (b.same i) (r.same i).0, (r.same i).1);
    })))))
