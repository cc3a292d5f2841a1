-- A part behind others, as its kind and its ends were gathered.
use Rattle.std.proofs.Common.{refl, subst}
use Rattle.vrl_kind.specs.KindTree.{KindTree}
use Rattle.vrl_state.specs.States.{IsRootKind}
use Rattle.vrl_judge.specs.Rules.{Judgement, IsThen, gives}
use Rattle.vrl_judge.specs.Judging.{AreEnds, AreJoinedEnds, HasEnds, HasGathered, HasJudged, no_ends}
use Rattle.vrl_judge.specs.declared.checker.Checker.{Checker}
use Rattle.vrl_judge.specs.declared.ends.Ends.{Ends}
use Rattle.vrl_judge.specs.declared.finding.Finding.{Finding}
use Rattle.vrl_judge.proofs.Parts.{behind_with, ends_behind, ends_in, ends_of, gathered_behind, gathered_none, gathered_of, is_then}
use Rattle.vrl_judge.proofs.Joining.{no_ends_are}

-- ---- one part behind others

-- the ends of a part stand in the scopes of the whole
pub part_are : (before now after : Checker) (part : Finding) (j p : Judgement) → HasGathered before now j → HasJudged now after part p → AreEnds before.state.scopes part.ends
part_are before now after part j p gathered has = subst (λ s. AreEnds s part.ends) gathered.scopes has.ends.are

-- what both are in order
pub record IsAllThen (before after : Checker) (next : Ends) (j p : Judgement) : Type 0 where
  pub in_order : IsThen j p (behind_with next j p)
  pub ends : HasEnds before.state.scopes next (behind_with next j p)
  pub gathered : HasGathered before after (behind_with next j p)

pub part_then : (before now after : Checker) (ends next : Ends) (part : Finding) (j p : Judgement) → HasEnds before.state.scopes ends j → HasGathered before now j → HasJudged now after part p → AreJoinedEnds ends part.ends next → AreEnds before.state.scopes next
    → IsAllThen before after next j p
part_then before now after ends next part j p has_ends gathered has joined are =
    let ordered = is_then before.state.scopes ends part.ends next j p has_ends (ends_in now.state.scopes before.state.scopes part.ends p gathered.scopes has.ends) joined in
    record {
      in_order = ordered;
      ends = ends_behind before.state.scopes next j p are;
      gathered = gathered_behind before now after j p (behind_with next j p) gathered has.gathered ordered.behind;
    }

-- nothing was judged yet
pub value_ends : (before : Checker) (K : KindTree) → HasEnds before.state.scopes no_ends (gives K before.state.known)
value_ends before K = record { are = no_ends_are before.state.scopes; fail = refl; ret = refl; returned = refl; poisoned = refl }

pub value_gathered : (before : Checker) (K : KindTree) → HasGathered before before (gives K before.state.known)
value_gathered before K = gathered_none before (gives K before.state.known) refl refl refl refl

-- ---- items

-- what was judged, with another kind
pub with_kind_of : (before after : Checker) (ends : Ends) (j : Judgement) (K : KindTree) → HasEnds before.state.scopes ends j → HasGathered before after j → IsRootKind K → HasJudged before after (record { kind = K; ends = ends }) (record j { kind = K })
with_kind_of before after ends j K has_ends gathered root = record {
  kind = refl;
  root = root;
  ends = ends_of before.state.scopes ends j (record j { kind = K }) has_ends refl refl refl refl;
  gathered = gathered_of before after j (record j { kind = K }) gathered refl refl refl refl;
}
