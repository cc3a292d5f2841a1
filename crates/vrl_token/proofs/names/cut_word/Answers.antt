use Rattle.vrl_token.proofs.Tested.{name_of_run, ok_weaker}
use Rattle.vrl_token.proofs.names.cut_word.Goals as goal

pub returns-in-Some-2 : goal.returns-in-Some-2
returns-in-Some-2 c = λ before.
    (rw c.in-Some-2.is at c.in_ok-function.ensures) c.args.text.now before (record { is_name = name_of_run _ _ _ c.requires.name c.split_run.ensures; run = c.split_run.ensures; free = c.in_default.ensures })

pub returns-in-None : goal.returns-in-None
returns-in-None c =
    ok_weaker c.cut_name.result (λ cut h before. h c.args.text.now before (record { is_name = name_of_run _ _ _ c.requires.name c.split_run.ensures; run = c.split_run.ensures; free = c.in_default.ensures }) c.requires.plain) c.cut_name.ensures
