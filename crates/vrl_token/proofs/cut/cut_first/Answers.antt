use Rattle.std.proofs.Common.{◌∙◌, ◌∷◌, ap, refl, subst, sym}
use Rattle.vrl_token.specs.Cuts.{IsCutOf}
use Rattle.vrl_token.proofs.cut.cut_first.Goals as goal

pub returns-in_default : goal.returns-in_default
returns-in_default c = λ before is. c.cut_stray.ensures before

pub returns-in-32 : goal.returns-in-32
returns-in-32 c = λ before is. c.cut_blank.ensures before

pub returns-in-35 : goal.returns-in-35
returns-in-35 c = λ before is. subst (λ t. IsCutOf before t c.cut_comment.result) (sym (c.in-Some.ensures.0 ∙ ap (λ b. b ∷ c.in-Some.behind.now) c.in-35.is)) (c.cut_comment.ensures before)

pub returns-in-48-to-57 : goal.returns-in-48-to-57
returns-in-48-to-57 c = λ before is. c.cut_number.ensures before c.args.text.now tt refl
