use Rattle.std.proofs.Common.{refl, sym, ◌∙◌, subst}
use Rattle.std.proofs.lemmas.Result.{IfOk-weaker}
use Rattle.vrl_judge.specs.Bodies.{IsBoundUnless}
use Rattle.vrl_judge.proofs.Bodies.{still_open}
use Rattle.vrl_judge.proofs.closures.bind.Goals as goal

pub returns-then-is_blank-clause-bound : goal.returns-then-is_blank-clause-bound
returns-then-is_blank-clause-bound c = subst (λ b. IsBoundUnless b c.args.name.now c.args.kind.now c.args.state.now c.args.state.now) (sym (sym c.is_blank.ensures ∙ c.if-is_blank.true)) refl

pub hide-requires-clause-present : goal.hide-requires-clause-present
hide-requires-clause-present c = c.requires.kind.present

pub returns-clause-bound : goal.returns-clause-bound
returns-clause-bound c =
    IfOk-weaker c.hide.result _ _ (λ _ hidden. subst (λ b. IsBoundUnless b c.args.name.now c.args.kind.now c.args.state.now c.hide.new.self) (sym (sym c.is_blank.ensures ∙ c.if-is_blank.false)) hidden) c.hide.ensures.hidden

pub returns-clause-entered : goal.returns-clause-entered
returns-clause-entered c = IfOk-weaker c.hide.result _ _ (λ _ hidden. still_open _ _ _ hidden.scopes) c.hide.ensures.hidden
