use Rattle.std.proofs.Common.{take, drop, refl, sym}
use Rattle.std.proofs.lemmas.List.{length-drop}
use Rattle.vrl_token.specs.Faults.{IsContinuation}
use Rattle.vrl_token.proofs.Runs.{longest_run_at}
use Rattle.vrl_token.proofs.signs.left_behind_character.Goals as goal

pub returns : goal.returns
returns c =
    let run = c.continuation_length in
    let bytes = c.args.bytes.now in
    record {
      others = take run.result bytes;
      rest = drop run.result bytes;
      run = longest_run_at IsContinuation bytes _ _ run.result refl refl run.ensures.within run.ensures.before run.ensures.after;
      length_is = sym (length-drop run.result bytes);
    }
