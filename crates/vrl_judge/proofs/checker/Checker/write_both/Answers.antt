use Rattle.std.proofs.Common.{refl}
use Rattle.std.proofs.lemmas.Result.{IfOk-weaker}
use Rattle.vrl_judge.proofs.RootKinds.{scalar_root}
use Rattle.vrl_judge.proofs.Joining.{not_absent}
use Rattle.vrl_value.specs.declared.value.Tag.TheVariants as tag
use Rattle.vrl_judge.proofs.checker.Checker.write_both.Goals as goal

pub write_two-requires-clause-second : goal.write_two-requires-clause-second
write_two-requires-clause-second c = not_absent c.in_ok-null.null (scalar_root tag.Null c.in_ok-null.null c.in_ok-null.ensures refl).present

pub write_behind_error-requires-clause-text : goal.write_behind_error-requires-clause-text
write_behind_error-requires-clause-text c = not_absent c.in_ok-text.text (scalar_root tag.Text c.in_ok-text.text c.in_ok-text.ensures refl).present

pub returns-clause-written : goal.returns-clause-written
returns-clause-written c =
    IfOk-weaker c.write_behind_error.result _ _
    (λ _ behind. record {
      N = c.in_ok-null.null;
      T = c.in_ok-text.text;
      null = c.in_ok-null.ensures;
      text = c.in_ok-text.ensures;
      given = c.write_two.new.self.state.known;
      behind_value = c.in_ok-write_two.ensures.written;
      behind_error = behind;
    })
    c.write_behind_error.ensures.written
