-- What is answered of a script that was judged.
use Rattle.std.proofs.Common.{◌≡◌, List, [], ◌∷◌, ◌++◌, map, All, Option, Some, None, unwrap_or, refl, sym, ap, ap₂, ◌∙◌, subst, append_assoc, append-nil}
use Rattle.std.proofs.lemmas.List.Elements.{All-append, All-cons, All-nil}
use Rattle.vrl_kind.specs.KindTree.{KindTree}
use Rattle.vrl_state.specs.Known.{known_as, knowns_of, HaveRootKinds}
use Rattle.vrl_state.specs.States.{IsEither, IsJoined, IsRootKind, RootMap, State}
use Rattle.vrl_state.specs.declared.known.Known.{Known}
use Rattle.vrl_state.specs.declared.known.Known.TheVariants.{Dead}
use Rattle.vrl_syntax.specs.Tree.{Exprs}
use Rattle.vrl_check.specs.Answer.{outside, IsEnding, IsJudged}
use Rattle.vrl_judge.specs.Returns.{return_kind, return_state, returning}
use Rattle.vrl_judge.specs.Closures.{loops_told}
use Rattle.vrl_judge.specs.Rules.{Judgement, Loop, settle}
use Rattle.vrl_check.specs.Judgement.{IsScriptStart, JudgesScript, a_script}
use Rattle.vrl_judge.specs.Judging.{branches_known, known_on, loops_known, AreEnds, IsWay}
use Rattle.vrl_check.specs.Walking.{IsScriptAs}
use Rattle.vrl_judge.specs.Ordered.{AreOrdered}
use Rattle.vrl_judge.specs.declared.checker.Checker.{Checker}
use Rattle.vrl_judge.specs.declared.ends.Returned.{Returned}
use Rattle.vrl_check.specs.declared.judged.Ending.{Ending}
use Rattle.vrl_check.specs.declared.judged.Judged.{Judged}
use Rattle.vrl_judge.specs.declared.finding.Finding.{Finding}
use Rattle.vrl_state.proofs.Limits.{either_root}
use Rattle.vrl_judge.proofs.Joining.{way_known}
use Rattle.vrl_check.specs.OpenRules.{language_rules}

-- the ends of a script as they are answered: without an error a dead state stands for it
pub record AreAnswered (after : State) (finding : Finding) (judged : Judged) : Type 0 where
  pub kind : judged.kind ≡ finding.kind
  pub ok : judged.ok ≡ after
  pub fail : judged.fail ≡ unwrap_or finding.ends.fail (outside None)
  pub ret : judged.ret ≡ finding.ends.ret

fail_outside : (branch : Option State) → IsWay [] branch → unwrap_or branch (outside None) ≡ outside (known_on branch)
fail_outside None is = refl
fail_outside (Some b) is = let found = way_known [] b is in found.1 ∙ ap outside (sym (ap (λ t. t.known) found.1))

state_outside : (s : State) (known : Option RootMap) → s.known ≡ known → s.scopes ≡ [] → s ≡ outside known
state_outside s known is none = λ i. record { known = is i; scopes = none i }

-- ---- closures as they are answered

-- what is known at branches is told of what is known there
known_at_all : (branches : List (Option State)) → knowns_of branches ≡ map known_as (branches_known branches)
known_at_all [] = refl
known_at_all (None ∷ branches) = ap (λ ks. Dead ∷ ks) (known_at_all branches)
known_at_all (Some b ∷ branches) = ap (λ ks. known_as b.known ∷ ks) (known_at_all branches)

-- they are those that are told
told_as : (loops : List (Option Loop)) → map known_as (loops_known loops) ≡ loops_told loops
told_as [] = refl
told_as (None ∷ loops) = ap (λ ls. Dead ∷ ls) (told_as loops)
told_as (Some loop ∷ loops) = ap (λ ls. known_as loop.known ∷ ls) (told_as loops)

pub script_judged : (start : KindTree) (es : Exprs) (before after : Checker) (finding : Finding) (judged : Judged) → IsScriptStart start before.state → before.diagnostics.items ≡ [] → before.empties.items ≡ [] → before.loops.items ≡ [] → IsScriptAs es before after finding
    → AreAnswered after.state finding judged → judged.empties ≡ after.empties.items → judged.loops ≡ knowns_of after.loops.items → AreOrdered after.diagnostics.items judged.diagnostics
    → (j : Judgement) × JudgesScript (language_rules before.patterns.now) start es j × IsJudged j judged
script_judged start es before after finding judged starts no_codes no_tags no_loops is answered empties loops ordered =
    let j = settle is.1 in
    let has = is.4 in
    let are : AreEnds [] finding.ends = subst (λ scopes. AreEnds scopes finding.ends) starts.scopes has.ends.are in
    let none : after.state.scopes ≡ [] = has.gathered.scopes ∙ starts.scopes in
    let kind = answered.kind ∙ has.kind in (
      j,
      a_script starts is.2 is.3,
      record {
        kind = kind;
        root = subst IsRootKind (sym kind) has.root;
        ok = answered.ok ∙ state_outside after.state j.ok has.gathered.ok none;
        fail = answered.fail ∙ fail_outside finding.ends.fail are.fail ∙ ap outside has.ends.fail;
        ret = answered.ret ∙ are.ret.alive ∙ ap₂ (returning []) has.ends.returned has.ends.ret;
        returned = ap return_kind answered.ret ∙ has.ends.returned;
        returned_root = subst IsRootKind has.ends.returned are.ret.kind;
        empties = empties ∙ has.gathered.empties ∙ ap (λ ts. ts ++ j.empties) no_tags;
        loops = loops ∙ known_at_all after.loops.items ∙ ap (map known_as) (has.gathered.loops ∙ ap (λ bs. branches_known bs ++ loops_known j.loops) no_loops) ∙ told_as j.loops;
        diagnostics = subst (λ codes. AreOrdered codes judged.diagnostics) (has.gathered.diagnostics ∙ ap (λ ds. ds ++ j.codes) no_codes) ordered;
      },
    )

-- to a dead state the script's end is joined, and then its return
pub ended : (judged : Judged) (start first known : Option RootMap) (r : Option Returned) (K : KindTree) (j : Judgement) → IsJudged j judged → start ≡ None → IsJoined start judged.ok.known first → judged.ret ≡ r → IsJoined first (return_state r) known → IsEither judged.kind (return_kind r) K
    → (end : Ending) → end ≡ record { kind = K; state = known_as known } → HaveRootKinds end.state → IsEnding judged end
ended judged start first known r K j told dead one ret two either end is roots =
    let first_is : first ≡ judged.ok.known = subst (λ s. IsJoined s judged.ok.known first) dead one in
    let kind = subst (λ x. IsEither judged.kind (return_kind x) end.kind) (sym ret) (subst (IsEither judged.kind (return_kind r)) (sym (ap (λ e. e.kind) is)) either) in
    record {
      kind = kind;
      root = either_root judged.kind (return_kind judged.ret) end.kind told.root (subst IsRootKind (sym told.returned) told.returned_root) kind;
      known = known;
      joined = subst (λ x. IsJoined judged.ok.known (return_state x) known) (sym ret) (subst (λ s. IsJoined s (return_state r) known) first_is two);
      state = ap (λ e. e.state) is;
      roots = roots;
    }
