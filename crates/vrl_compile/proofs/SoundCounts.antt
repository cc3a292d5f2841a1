-- What is left behind a part of the tags that it was run with are those behind its own, since a judgement has one empty value for each
-- error assignment of what is judged.
use Rattle.std.proofs.Common.{◌≡◌, ◌+◌, List, ◌++◌, drop, length, sym, ap, ◌∙◌}
use Rattle.std.proofs.Math.Seq.{drop-append_seam}
use Rattle.std.proofs.lemmas.List.{drop-drop}
use Rattle.vrl_value.specs.declared.value.Tag.{Tag}
use Rattle.vrl_syntax.specs.ErrorAssignments.{in_expr, in_exprs, in_arms, behind, behind_all, behind_arms}
use Rattle.vrl_syntax.specs.Tree.{Expr, Exprs, Arms, arm}
use Rattle.vrl_judge.specs.Rules.{Judgement}
use Rattle.vrl_check.specs.Determined.{HasCause}

-- the tags that are left behind a part are those behind its own
pub behind_counted : (e : Expr) (mine rest : List Tag) → length mine ≡ in_expr e → behind e (mine ++ rest) ≡ rest
behind_counted e mine rest counted = ap (λ n. drop n (mine ++ rest)) (sym counted) ∙ drop-append_seam mine rest

-- What a form takes of how a part was judged, by whatever rules: it has one empty value for each error assignment in it, and is poisoned
-- exactly where an error code stands in it.
pub record IsToldOf (e : Expr) (j : Judgement) : Type 0 where
  pub counted : length j.empties ≡ in_expr e
  pub cause : HasCause j

pub behind_is : {e : Expr} {j : Judgement} → IsToldOf e j → (rest : List Tag) → behind e (j.empties ++ rest) ≡ rest
behind_is {e} {j} told rest = behind_counted e j.empties rest told.counted

pub behind_block_counted : (es : Exprs) (mine rest : List Tag) → length mine ≡ in_exprs es → behind_all es (mine ++ rest) ≡ rest
behind_block_counted es mine rest counted = ap (λ n. drop n (mine ++ rest)) (sym counted) ∙ drop-append_seam mine rest

-- those behind the arms are those behind the predicate, its block and the arms that are left
pub behind_arm_is : (p : Expr) (es : Exprs) (gs : Arms) (tags : List Tag) → behind_arms (arm p es gs) tags ≡ behind_arms gs (behind_all es (behind p tags))
behind_arm_is p es gs tags = sym (drop-drop (in_exprs es + in_arms gs) (in_expr p) tags) ∙ sym (drop-drop (in_arms gs) (in_exprs es) (behind p tags))
