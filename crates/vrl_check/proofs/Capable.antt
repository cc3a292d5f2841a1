-- What can be judged has parts that can be judged.
use Rattle.std.proofs.Common.{◌≡◌, ◌+◌, ℕ, Bool, false, ◌&&◌, List, [], ◌∷◌, ◌++◌, Option, refl, ap, ap₂, subst, ◌∙◌}
use Rattle.std.proofs.lemmas.Bool.{and_parts}
use Rattle.vrl_path.specs.declared.path.Step.{Step}
use Rattle.vrl_diag.specs.declared.diagnostic.Span.{Span}
use Rattle.vrl_syntax.specs.Limits.{args_faults, expr_faults, exprs_faults, pairs_faults, target_faults}
use Rattle.vrl_syntax.specs.Regexes.{expr_regexes_below, exprs_regexes_below, pairs_regexes_below}
use Rattle.vrl_syntax.specs.Tree.{Expr, expr, Form, array, object, query, group, block, conditional, negation, binary, assign, merge, both, call, return_of, abort_with, Exprs, exprs, Pairs, no_pairs, pair, Arms, Else, Args, no_args, arg, Closure, closure, message}
use Rattle.vrl_syntax.specs.declared.root.Op.{Op}
use Rattle.vrl_syntax.specs.declared.root.Target.{Target}
use Rattle.vrl_check.specs.Judgement.{pair_values}
use Rattle.vrl_check.specs.Walking.{ArgumentsCanBeJudged, ArmsCanBeJudged, ExprCanBeJudged, ElseCanBeJudged, FormCanBeJudged, ItemsCanBeJudged, PairsCanBeJudged}
use Rattle.vrl_syntax.proofs.PartSizes.{expr_size, exprs_size, pairs_size}
use Rattle.vrl_syntax.specs.Calls.{is_del}

-- ---- none of two

pub none_of_both : {X : Type 0} (xs ys : List X) → xs ++ ys ≡ [] → (xs ≡ []) × (ys ≡ [])
none_of_both [] ys none = (refl, none)
none_of_both (x ∷ xs) ys none = absurd (cc)

-- ---- the parts of a form

-- a form that is seen as another
pub seen_can : {sources : List (List ℕ)} {f g : Form} → f ≡ g → FormCanBeJudged sources f → FormCanBeJudged sources g
seen_can {sources = sources} same can = subst (FormCanBeJudged sources) same can

-- arguments whose paths keep the limits where they are deleted keep them where they aren't
kept_faults : (deleted : Bool) (gs : Args) → args_faults deleted gs ≡ [] → args_faults false gs ≡ []
kept_faults deleted no_args none = refl
kept_faults deleted (arg name span e gs) none =
    let parts = none_of_both _ _ (none_of_both _ _ none).1 in
    ap₂ (λ xs ys. xs ++ ys) parts.0 (kept_faults deleted gs parts.1)

pub form_can : {sources : List (List ℕ)} (span : Span) (f : Form) → ExprCanBeJudged sources (expr span f) → FormCanBeJudged sources f
form_can span f can = record { limits = can.limits; regexes = can.regexes }

pub array_can : {sources : List (List ℕ)} (es : Exprs) → FormCanBeJudged sources (array es) → ItemsCanBeJudged sources es
array_can es can = record { limits = can.limits; regexes = can.regexes }

pub object_can : {sources : List (List ℕ)} (ps : Pairs) → FormCanBeJudged sources (object ps) → PairsCanBeJudged sources ps
object_can ps can = record { limits = can.limits; regexes = can.regexes }

pub query_can : {sources : List (List ℕ)} (e : Expr) (path : List Step) → FormCanBeJudged sources (query e path) → ExprCanBeJudged sources e
query_can e path can = record { limits = can.limits; regexes = can.regexes }

pub group_can : {sources : List (List ℕ)} (e : Expr) → FormCanBeJudged sources (group e) → ExprCanBeJudged sources e
group_can e can = record { limits = can.limits; regexes = can.regexes }

pub block_can : {sources : List (List ℕ)} (es : Exprs) → FormCanBeJudged sources (block es) → ItemsCanBeJudged sources es
block_can es can = record { limits = can.limits; regexes = can.regexes }

pub negation_can : {sources : List (List ℕ)} (e : Expr) → FormCanBeJudged sources (negation e) → ExprCanBeJudged sources e
negation_can e can = record { limits = can.limits; regexes = can.regexes }

pub return_can : {sources : List (List ℕ)} (e : Expr) → FormCanBeJudged sources (return_of e) → ExprCanBeJudged sources e
return_can e can = record { limits = can.limits; regexes = can.regexes }

pub abort_can : {sources : List (List ℕ)} (e : Expr) → FormCanBeJudged sources (abort_with (message e)) → ExprCanBeJudged sources e
abort_can e can = record { limits = can.limits; regexes = can.regexes }

pub conditional_can : {sources : List (List ℕ)} (gs : Arms) (es : Else) → FormCanBeJudged sources (conditional gs es) → ArmsCanBeJudged sources gs × ElseCanBeJudged sources es
conditional_can gs es can =
    let limits = none_of_both _ _ can.limits in
    let regexes = and_parts _ _ can.regexes in
    (record { limits = limits.0; regexes = regexes.0 }, record { limits = limits.1; regexes = regexes.1 })

pub binary_can : {sources : List (List ℕ)} (o : Op) (l r : Expr) → FormCanBeJudged sources (binary o l r) → ExprCanBeJudged sources l × ExprCanBeJudged sources r
binary_can o l r can =
    let limits = none_of_both (expr_faults l) (expr_faults r) can.limits in
    let regexes = and_parts _ _ can.regexes in
    (record { limits = limits.0; regexes = regexes.0 }, record { limits = limits.1; regexes = regexes.1 })

pub assign_can : {sources : List (List ℕ)} (t : Target) (e : Expr) → FormCanBeJudged sources (assign t e) → (target_faults t ≡ []) × ExprCanBeJudged sources e
assign_can t e can =
    let limits = none_of_both (target_faults t) (expr_faults e) can.limits in
    (limits.0, record { limits = limits.1; regexes = can.regexes })

pub merge_can : {sources : List (List ℕ)} (t : Target) (e : Expr) → FormCanBeJudged sources (merge t e) → (target_faults t ≡ []) × ExprCanBeJudged sources e
merge_can t e can =
    let limits = none_of_both (target_faults t) (expr_faults e) can.limits in
    (limits.0, record { limits = limits.1; regexes = can.regexes })

pub both_can : {sources : List (List ℕ)} (t u : Target) (e : Expr) → FormCanBeJudged sources (both t u e) → (target_faults t ≡ []) × ((target_faults u ≡ []) × ExprCanBeJudged sources e)
both_can t u e can =
    let first = none_of_both (target_faults t) (target_faults u ++ expr_faults e) can.limits in
    let second = none_of_both (target_faults u) (expr_faults e) first.1 in
    (first.0, (second.0, record { limits = second.1; regexes = can.regexes }))

-- a call: its arguments, and the paths that it may delete
pub arguments_can : {sources : List (List ℕ)} (name : List ℕ) (span : Span) (bang : Bool) (gs : Args) (c : Closure) → FormCanBeJudged sources (call name span bang gs c) → ArgumentsCanBeJudged sources gs
arguments_can name span bang gs c can = record {
  limits = kept_faults (is_del name) gs (none_of_both _ _ can.limits).0;
  regexes = (and_parts _ _ can.regexes).0;
}

-- its closure
pub closure_can : {sources : List (List ℕ)} (name : List ℕ) (span s : Span) (bang : Bool) (gs : Args) (names : List (List ℕ)) (es : Exprs) → FormCanBeJudged sources (call name span bang gs (closure names es s)) → ItemsCanBeJudged sources es
closure_can name span s bang gs names es can = record { limits = (none_of_both (args_faults (is_del name) gs) (exprs_faults es) can.limits).1; regexes = (and_parts _ _ can.regexes).1 }

-- ---- lists

pub first_can : {sources : List (List ℕ)} (e : Expr) (es : Exprs) → ItemsCanBeJudged sources (exprs e es) → ExprCanBeJudged sources e
first_can e es can =
    record { limits = (none_of_both (expr_faults e) (exprs_faults es) can.limits).0; regexes = (and_parts _ _ can.regexes).0 }

pub rest_can : {sources : List (List ℕ)} (e : Expr) (es : Exprs) → ItemsCanBeJudged sources (exprs e es) → ItemsCanBeJudged sources es
rest_can e es can =
    record { limits = (none_of_both (expr_faults e) (exprs_faults es) can.limits).1; regexes = (and_parts _ _ can.regexes).1 }

pub first_argument_can : {sources : List (List ℕ)} (name : Option (List ℕ)) (span : Span) (e : Expr) (gs : Args) → ArgumentsCanBeJudged sources (arg name span e gs) → ExprCanBeJudged sources e
first_argument_can name span e gs can =
    record { limits = (none_of_both (expr_faults e) (args_faults false gs) can.limits).0; regexes = (and_parts _ _ can.regexes).0 }

pub other_arguments_can : {sources : List (List ℕ)} (name : Option (List ℕ)) (span : Span) (e : Expr) (gs : Args) → ArgumentsCanBeJudged sources (arg name span e gs) → ArgumentsCanBeJudged sources gs
other_arguments_can name span e gs can =
    record { limits = (none_of_both (expr_faults e) (args_faults false gs) can.limits).1; regexes = (and_parts _ _ can.regexes).1 }

-- the values of an object are judged as items
values_faults : (ps : Pairs) → exprs_faults (pair_values ps) ≡ pairs_faults ps
values_faults no_pairs = refl
values_faults (pair n e ps) = ap (λ ds. expr_faults e ++ ds) (values_faults ps)

values_regexes : (count : ℕ) (ps : Pairs) → exprs_regexes_below count (pair_values ps) ≡ pairs_regexes_below count ps
values_regexes count no_pairs = refl
values_regexes count (pair n e ps) = ap (λ b. expr_regexes_below count e && b) (values_regexes count ps)

pub values_can : {sources : List (List ℕ)} (ps : Pairs) → PairsCanBeJudged sources ps → ItemsCanBeJudged sources (pair_values ps)
values_can ps can = record { limits = values_faults ps ∙ can.limits; regexes = values_regexes _ ps ∙ can.regexes }

pub values_size : (ps : Pairs) → exprs_size (pair_values ps) ≡ pairs_size ps
values_size no_pairs = refl
values_size (pair n e ps) = ap (λ k. expr_size e + k) (values_size ps)
