-- Parts as the walk told them, one behind another.
use Rattle.std.proofs.Common.{◌≡◌, List, Option, sym, subst}
use Rattle.vrl_value.specs.declared.value.Tag.{Tag}
use Rattle.vrl_diag.specs.declared.diagnostic.Diagnostic.{Diagnostic}
use Rattle.vrl_syntax.specs.Tree.{Expr, Exprs}
use Rattle.vrl_state.specs.States.{IsRootKind, RootMap}
use Rattle.vrl_judge.specs.Rules.{Judgement, Loop}
use Rattle.vrl_check.specs.Judgement.{Judges, JudgesBlock}
use Rattle.vrl_judge.specs.Judging.{AreEnds}
use Rattle.vrl_check.specs.Walking.{IsBlockAs, IsJudgedAs}
use Rattle.vrl_judge.specs.Seen.{seen}
use Rattle.vrl_judge.specs.declared.checker.Checker.{Checker}
use Rattle.vrl_judge.specs.declared.finding.Finding.{Finding}
use Rattle.vrl_judge.proofs.Told.{as_seen, IsTold, told_of, are_behind}
use Rattle.vrl_check.specs.OpenRules.{language_rules}

-- ---- expressions and blocks

-- a part is judged beside the same regexes, and in a closure or in none, wherever the walk stands
pub judges_at : (a c : Checker) (known : Option RootMap) (e : Expr) (j : Judgement) → c.patterns ≡ a.patterns → c.inside ≡ a.inside → c.state.known ≡ known → Judges (language_rules c.patterns.now) c.inside c.state.known e j → Judges (language_rules a.patterns.now) a.inside known e j
judges_at a c known e j same inside here is =
    subst (λ s. Judges (language_rules a.patterns.now) a.inside s e j) here (subst (λ b. Judges (language_rules a.patterns.now) b c.state.known e j) inside (subst (λ ps. Judges (language_rules ps.now) c.inside c.state.known e j) same is))

pub block_at : (a c : Checker) (known : Option RootMap) (es : Exprs) (j : Judgement) → c.patterns ≡ a.patterns → c.inside ≡ a.inside → c.state.known ≡ known → JudgesBlock (language_rules c.patterns.now) c.inside c.state.known es j → JudgesBlock (language_rules a.patterns.now) a.inside known es j
block_at a c known es j same inside here is =
    subst (λ s. JudgesBlock (language_rules a.patterns.now) a.inside s es j) here (subst (λ b. JudgesBlock (language_rules a.patterns.now) b c.state.known es j) inside (subst (λ ps. JudgesBlock (language_rules ps.now) c.inside c.state.known es j) same is))

pub record IsToldExpr (e : Expr) (before after : Checker) (part : Finding) : Type 0 where
  pub codes : List Diagnostic
  pub tags : List Tag
  pub loops : List (Option Loop)
  pub judges : Judges (language_rules before.patterns.now) before.inside before.state.known e (seen part after codes tags loops)
  pub ended : IsTold before after part codes tags loops

pub told_expr : (e : Expr) (before after : Checker) (part : Finding) → IsJudgedAs e before after part → IsToldExpr e before after part
told_expr e before after part is = record {
  codes = is.0.codes;
  tags = is.0.empties;
  loops = is.0.loops;
  judges = subst (Judges (language_rules before.patterns.now) before.inside before.state.known e) (as_seen before after part is.0 is.2) is.1;
  ended = told_of before after part is.0 is.2;
}

pub record IsToldBlock (es : Exprs) (before after : Checker) (part : Finding) : Type 0 where
  pub codes : List Diagnostic
  pub tags : List Tag
  pub loops : List (Option Loop)
  pub judges : JudgesBlock (language_rules before.patterns.now) before.inside before.state.known es (seen part after codes tags loops)
  pub ended : IsTold before after part codes tags loops

pub told_block : (es : Exprs) (before after : Checker) (part : Finding) → IsBlockAs es before after part → IsToldBlock es before after part
told_block es before after part is = record {
  codes = is.0.codes;
  tags = is.0.empties;
  loops = is.0.loops;
  judges = subst (JudgesBlock (language_rules before.patterns.now) before.inside before.state.known es) (as_seen before after part is.0 is.2) is.1;
  ended = told_of before after part is.0 is.2;
}

-- where its parts stand, for a call behind it
pub expr_ends : (e : Expr) (before after : Checker) (part : Finding) → IsJudgedAs e before after part → AreEnds after.state.scopes part.ends
expr_ends e before after part is = are_behind before after part is.0.codes is.0.empties is.0.loops (told_of before after part is.0 is.2)

pub expr_root : (e : Expr) (before after : Checker) (part : Finding) → IsJudgedAs e before after part → IsRootKind part.kind
expr_root e before after part is = subst IsRootKind (sym is.2.kind) is.2.root

pub block_ends : (es : Exprs) (before after : Checker) (part : Finding) → IsBlockAs es before after part → AreEnds after.state.scopes part.ends
block_ends es before after part is = are_behind before after part is.0.codes is.0.empties is.0.loops (told_of before after part is.0 is.2)
