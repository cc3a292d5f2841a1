-- What a loop has done of a rule, when it has come to the words that are left.
use Rattle.std.proofs.Common.{◌≡◌, ℕ, List, [], ◌∷◌, ◌++◌, refl, ap, sym, subst, ◌∙◌}
use Rattle.std.proofs.lemmas.List.{append_assoc}
use Rattle.vrl_syntax.specs.Tree.{Expr, Exprs, no_exprs, exprs, Pairs, no_pairs, pair, Arms, no_arms, arm, Args, no_args, arg}
use Rattle.vrl_syntax.specs.View.{expr_of, arg_of, arm_of, exprs_view, pairs_view, args_view, arms_view}
use Rattle.vrl_syntax.specs.declared.tree.Expr.{Expr as CodeExpr}
use Rattle.vrl_syntax.specs.declared.tree.Arm.{Arm as CodeArm}
use Rattle.vrl_syntax.specs.declared.tree.Arg.{Arg as CodeArg}
use Rattle.vrl_word.specs.Words.{Word}
use Rattle.vrl_diag.specs.declared.diagnostic.Span.{Span}
use Rattle.vrl_parse.specs.Descent.{Meaning, Rule, RuleRefuses, RuleTakes, Takes, gone, more_names, name_word, names, not_gone, taken}
use Rattle.vrl_parse.proofs.Walks.{answered}

-- what is read from here on, with what was read before, is what the rule reads from the start
pub record Leads (r q : Rule) (f : Meaning q → Meaning r) (start now : List Word) : Type 0 where
  pub takes : (x : Meaning q) (vs : List Word) → RuleTakes q now x vs → RuleTakes r start (f x) vs
  pub refuses : (vs : List Word) → RuleRefuses q now vs → RuleRefuses r start vs

-- ---- what was read, before what is read from here on

abbrev pub exprs_onto : List CodeExpr → Exprs → Exprs
exprs_onto [] es = es
exprs_onto (x ∷ xs) es = exprs (expr_of x) (exprs_onto xs es)

abbrev pub pairs_onto : List (List ℕ × CodeExpr) → Pairs → Pairs
pairs_onto [] ps = ps
pairs_onto (x ∷ xs) ps = pair x.0 (expr_of x.1) (pairs_onto xs ps)

abbrev pub args_onto : List CodeArg → Args → Args
args_onto [] gs = gs
args_onto (x ∷ xs) gs = arg (arg_of x).0 (arg_of x).1 (arg_of x).2 (args_onto xs gs)

abbrev pub arms_onto : List CodeArm → Arms → Arms
arms_onto [] as_ = as_
arms_onto (x ∷ xs) as_ = arm (arm_of x).0 (arm_of x).1 (arms_onto xs as_)

pub exprs_onto-push : (xs : List CodeExpr) (x : CodeExpr) (es : Exprs) → exprs_onto (xs ++ x ∷ []) es ≡ exprs_onto xs (exprs (expr_of x) es)
exprs_onto-push [] x es = refl
exprs_onto-push (y ∷ xs) x es = ap (exprs (expr_of y)) (exprs_onto-push xs x es)

pub exprs_onto-all : (xs : List CodeExpr) → exprs_onto xs no_exprs ≡ exprs_view xs
exprs_onto-all [] = refl
exprs_onto-all (y ∷ xs) = ap (exprs (expr_of y)) (exprs_onto-all xs)

pub pairs_onto-push : (xs : List (List ℕ × CodeExpr)) (x : List ℕ × CodeExpr) (es : Pairs) → pairs_onto (xs ++ x ∷ []) es ≡ pairs_onto xs (pair x.0 (expr_of x.1) es)
pairs_onto-push [] x es = refl
pairs_onto-push (y ∷ xs) x es = ap (pair y.0 (expr_of y.1)) (pairs_onto-push xs x es)

pub pairs_onto-all : (xs : List (List ℕ × CodeExpr)) → pairs_onto xs no_pairs ≡ pairs_view xs
pairs_onto-all [] = refl
pairs_onto-all (y ∷ xs) = ap (pair y.0 (expr_of y.1)) (pairs_onto-all xs)

pub args_onto-push : (xs : List CodeArg) (x : CodeArg) (es : Args) → args_onto (xs ++ x ∷ []) es ≡ args_onto xs (arg (arg_of x).0 (arg_of x).1 (arg_of x).2 es)
args_onto-push [] x es = refl
args_onto-push (y ∷ xs) x es = ap (arg (arg_of y).0 (arg_of y).1 (arg_of y).2) (args_onto-push xs x es)

pub args_onto-all : (xs : List CodeArg) → args_onto xs no_args ≡ args_view xs
args_onto-all [] = refl
args_onto-all (y ∷ xs) = ap (arg (arg_of y).0 (arg_of y).1 (arg_of y).2) (args_onto-all xs)

pub arms_onto-push : (xs : List CodeArm) (x : CodeArm) (es : Arms) → arms_onto (xs ++ x ∷ []) es ≡ arms_onto xs (arm (arm_of x).0 (arm_of x).1 es)
arms_onto-push [] x es = refl
arms_onto-push (y ∷ xs) x es = ap (arm (arm_of y).0 (arm_of y).1) (arms_onto-push xs x es)

pub arms_onto-all : (xs : List CodeArm) → arms_onto xs no_arms ≡ arms_view xs
arms_onto-all [] = refl
arms_onto-all (y ∷ xs) = ap (arm (arm_of y).0 (arm_of y).1) (arms_onto-all xs)

-- ---- how a loop goes on, and how it ends

pub leads-more : {r q p : Rule} {f : Meaning q → Meaning r} {start now next : List Word} (g : Meaning p → Meaning q) (h : Meaning p → Meaning r) → Leads r q f start now → ((x : Meaning p) → h x ≡ f (g x)) → ((x : Meaning p) (vs : List Word) → RuleTakes p next x vs → RuleTakes q now (g x) vs) → ((vs : List Word) → RuleRefuses p next vs → RuleRefuses q now vs) → Leads r p h start next
leads-more {r} {q} {p} {f} {start} g h leads same step fails = record {
  takes = λ x vs run. subst (λ y. RuleTakes r start y vs) (sym (same x)) (leads.takes (g x) vs (step x vs run));
  refuses = λ vs run. leads.refuses vs (fails vs run);
}

pub leads-end : {r q : Rule} {f : Meaning q → Meaning r} {start now vs : List Word} {y : Meaning r} (x : Meaning q) → Leads r q f start now → y ≡ f x → RuleTakes q now x vs → RuleTakes r start y vs
leads-end {r} {start = start} {vs = vs} x leads same run = subst (λ z. RuleTakes r start z vs) (sym same) (leads.takes x vs run)

pub exprs_onto-more : {new : List CodeExpr} (old : List CodeExpr) (x : CodeExpr) → new ≡ old ++ x ∷ [] → (es : Exprs) → exprs_onto new es ≡ exprs_onto old (exprs (expr_of x) es)
exprs_onto-more old x pushed es = ap (λ l. exprs_onto l es) pushed ∙ exprs_onto-push old x es

pub exprs_onto-last : {new : List CodeExpr} (old : List CodeExpr) (x : CodeExpr) {y : Exprs} → new ≡ old ++ x ∷ [] → y ≡ exprs_view new → y ≡ exprs_onto old (exprs (expr_of x) no_exprs)
exprs_onto-last {new} old x pushed view = view ∙ sym (exprs_onto-all new) ∙ exprs_onto-more old x pushed no_exprs

pub pairs_onto-more : {new : List (List ℕ × CodeExpr)} (old : List (List ℕ × CodeExpr)) (x : List ℕ × CodeExpr) → new ≡ old ++ x ∷ [] → (ps : Pairs) → pairs_onto new ps ≡ pairs_onto old (pair x.0 (expr_of x.1) ps)
pairs_onto-more old x pushed ps = ap (λ l. pairs_onto l ps) pushed ∙ pairs_onto-push old x ps

pub pairs_onto-last : {new : List (List ℕ × CodeExpr)} (old : List (List ℕ × CodeExpr)) (x : List ℕ × CodeExpr) {y : Pairs} → new ≡ old ++ x ∷ [] → y ≡ pairs_view new → y ≡ pairs_onto old (pair x.0 (expr_of x.1) no_pairs)
pairs_onto-last {new} old x pushed view = view ∙ sym (pairs_onto-all new) ∙ pairs_onto-more old x pushed no_pairs

pub args_onto-more : {new : List CodeArg} (old : List CodeArg) (x : CodeArg) → new ≡ old ++ x ∷ [] → (gs : Args) → args_onto new gs ≡ args_onto old (arg (arg_of x).0 (arg_of x).1 (arg_of x).2 gs)
args_onto-more old x pushed gs = ap (λ l. args_onto l gs) pushed ∙ args_onto-push old x gs

pub args_onto-last : {new : List CodeArg} (old : List CodeArg) (x : CodeArg) {y : Args} → new ≡ old ++ x ∷ [] → y ≡ args_view new → y ≡ args_onto old (arg (arg_of x).0 (arg_of x).1 (arg_of x).2 no_args)
args_onto-last {new} old x pushed view = view ∙ sym (args_onto-all new) ∙ args_onto-more old x pushed no_args

pub arms_onto-more : {new : List CodeArm} (old : List CodeArm) (x : CodeArm) {e : Expr} {es : Exprs} → new ≡ old ++ x ∷ [] → arm_of x ≡ (e, es) → (as_ : Arms) → arms_onto new as_ ≡ arms_onto old (arm e es as_)
arms_onto-more old x pushed tree as_ = ap (λ l. arms_onto l as_) pushed ∙ arms_onto-push old x as_ ∙ ap (λ a. arms_onto old (arm a.0 a.1 as_)) tree

pub arms_onto-last : {new : List CodeArm} (old : List CodeArm) (x : CodeArm) {e : Expr} {es : Exprs} {y : Arms} → new ≡ old ++ x ∷ [] → arm_of x ≡ (e, es) → y ≡ arms_view new → y ≡ arms_onto old (arm e es no_arms)
arms_onto-last {new} old x pushed tree view = view ∙ sym (arms_onto-all new) ∙ arms_onto-more old x pushed tree no_arms

-- behind the first name
pub names-begin : {start now : List Word} {n : List ℕ} {s : Span} {items : List (List ℕ)} → Takes name_word start n s now → items ≡ n ∷ [] → Leads names more_names (λ ns. items ++ ns) start now
names-begin first one = record {
  takes = λ x vs run. taken first (gone run (answered (ap (λ l. l ++ x) one)));
  refuses = λ vs run. taken first (not_gone run);
}

pub names-more : {new : List (List ℕ)} (old : List (List ℕ)) (n : List ℕ) → new ≡ old ++ n ∷ [] → (ns : List (List ℕ)) → new ++ ns ≡ old ++ n ∷ ns
names-more old n pushed ns = ap (λ l. l ++ ns) pushed ∙ append_assoc old (n ∷ []) ns
