use Rattle.std.proofs.Common.{inl, subst, arith}
use Rattle.vrl_token.specs.Cuts.{LeavesBehind}
use Rattle.vrl_token.proofs.Strays.{no_start, stray_fault, stray_sign}
use Rattle.vrl_token.proofs.signs.cut_sign.Goals as goal

pub returns-in-124 : goal.returns-in-124
returns-in-124 c = λ before minus. rw c.in-124.is (c.cut_bar.ensures before)

pub returns-in-63 : goal.returns-in-63
returns-in-63 c = λ before minus. rw c.in-63.is (c.cut_question.ensures before)

pub returns-in-38 : goal.returns-in-38
returns-in-38 c = λ before minus. rw c.in-38.is (c.cut_ampersand.ensures before)

pub returns-in-None : goal.returns-in-None
returns-in-None c = λ before minus.
    stray_fault before c.args.first c.args.behind.now c.left_behind_character.result
    (inl (no_start c.args.first c.requires (stray_sign c.args.first c.requires c.in-None.ensures (λ e. omega arith) (λ e. omega arith) (λ e. omega arith) (λ e. omega arith) (λ e. omega arith) (λ e. omega arith) (λ e. omega arith) (λ e. omega arith) (λ e. omega arith) (λ e. omega arith))))
    (subst (λ t. LeavesBehind t c.left_behind_character.result) c.as_bytes.ensures.value c.left_behind_character.ensures)
