use Rattle.std.proofs.Common.{◌≡◌, sym, subst}
use Rattle.vrl_value.specs.declared.value.Tag.TheVariants as tag
use Rattle.vrl_judge.specs.Closures.{is_wrong_body}
use Rattle.vrl_judge.proofs.Forms.{other_of}
use Rattle.vrl_judge.proofs.checker.Checker.is_wrong_body.Goals as goal

pub returns-in-Filter : goal.returns-in-Filter
returns-in-Filter c = λ before j has. subst (λ f. c.is_other.result ≡ is_wrong_body f j) (sym c.in-Filter.is) (other_of tag.Bool before c.args.self.now c.args.part.now j c.is_other.result has c.is_other.ensures)

pub returns-in-MapKeys : goal.returns-in-MapKeys
returns-in-MapKeys c = λ before j has.
    subst (λ f. c.is_other-in-MapKeys.result ≡ is_wrong_body f j) (sym c.in-MapKeys.is) (other_of tag.Text before c.args.self.now c.args.part.now j c.is_other-in-MapKeys.result has c.is_other-in-MapKeys.ensures)
