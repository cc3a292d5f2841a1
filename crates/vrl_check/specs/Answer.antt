-- What `check` and `ending` answer.
use Rattle.std.specs.Prelude.{◌≡◌, [], Option}
use Rattle.vrl_state.specs.Known.{known_as, HaveRootKinds}
use Rattle.vrl_state.specs.States.{IsEither, IsJoined, IsRootKind, RootMap, State}
use Rattle.vrl_judge.specs.Rules.{Judgement}
use Rattle.vrl_judge.specs.Ordered.{AreOrdered}
use Rattle.vrl_judge.specs.Closures.{loops_told}
use Rattle.vrl_check.specs.declared.judged.Ending.{Ending}
use Rattle.vrl_check.specs.declared.judged.Judged.{Judged}
use Rattle.vrl_judge.specs.Returns.{return_state, return_kind, returning}

-- this is known, and no block is open
abbrev pub outside : Option RootMap → State
outside known = record { known = known; scopes = [] }

-- the answer tells this judgement of a script, whose ends stand outside all blocks
pub record IsJudged (j : Judgement) (judged : Judged) : Type 0 where
  pub kind : judged.kind ≡ j.kind
  pub root : IsRootKind judged.kind
  pub ok : judged.ok ≡ outside j.ok
  pub fail : judged.fail ≡ outside j.fail
  pub ret : judged.ret ≡ returning [] j.returned j.ret
  pub returned : return_kind judged.ret ≡ j.returned
  pub returned_root : IsRootKind j.returned
  pub empties : judged.empties ≡ j.empties
  pub loops : judged.loops ≡ loops_told j.loops
  pub diagnostics : AreOrdered j.codes judged.diagnostics

-- the kind of a script's value, from its end or from a return, and what is known there
pub record IsEnding (judged : Judged) (end : Ending) : Type 0 where
  pub kind : IsEither judged.kind (return_kind judged.ret) end.kind
  pub root : IsRootKind end.kind
  pub known : Option RootMap
  pub joined : IsJoined judged.ok.known (return_state judged.ret) known
  pub state : end.state ≡ known_as known
  pub roots : HaveRootKinds end.state
