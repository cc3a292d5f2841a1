use Rattle.std.proofs.Common.{◌≡◌, ◌∷◌, All, sym, subst, rules}
use Rattle.std.proofs.lemmas.List.Elements.{All-head, All-tail}
use Rattle.vrl_state.specs.States.{IsRootKind}
use Rattle.vrl_judge.specs.Bodies.{IsBound}
use Rattle.vrl_judge.proofs.Bodies.{bound_next, none_bound}
use Rattle.vrl_judge.proofs.closures.bind_all.Goals as goal

pub bind-requires-clause-kind : goal.bind-requires-clause-kind
bind-requires-clause-kind c =
    let also : c.loop-name.kinds_left.now ≡ c.in-Some-split_first.kind.now ∷ c.in-Some-split_first.behind.now = search rules in
    subst IsRootKind (sym c.as_kind.ensures) (All-head IsRootKind _ _ (subst (All IsRootKind) also c.loop-name.invariant.2))

pub loop-name-preserved : goal.loop-name-preserved
loop-name-preserved c =
    let is : c.loop-name.left.now ≡ c.in-Some.name.now ∷ c.in-Some.others.now = search rules in
    let also : c.loop-name.kinds_left.now ≡ c.in-Some-split_first.kind.now ∷ c.in-Some-split_first.behind.now = search rules in
    let bound = subst (λ K. IsBound c.in-Some.name.now K c.loop-name.state c.bind.new.state) c.as_kind.ensures c.in_ok-bind.ensures.bound in (
      λ end rest. c.loop-name.invariant.0 end (bound_next _ _ _ _ _ _ _ _ end is also bound rest),
      c.in_ok-bind.ensures.entered,
      All-tail IsRootKind _ _ (subst (All IsRootKind) also c.loop-name.invariant.2),
    )

pub returns : goal.returns
returns c = c.loop-name.invariant.0 _ (none_bound _ _ _ c.in_default.ensures.cases)
