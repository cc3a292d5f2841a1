use Rattle.std.proofs.lemmas.Result.{IfOk-weaker}
use Rattle.vrl_kind.specs.Kinds.{tags_at}
use Rattle.vrl_place.specs.Inner.{spot_sets}
use Rattle.vrl_place.specs.Read.{HasJust, allowed, read, read_step}
use Rattle.vrl_place.proofs.Reading.{read_further}
use Rattle.vrl_place.proofs.read.read_behind.Goals as goal

pub returns : goal.returns
returns c = IfOk-weaker c.read_on.result (λ found. HasJust (tags_at found) (read (allowed (tags_at c.in_ok-read_one.field-0)) c.args.behind.now)) _
    (λ found has. read_further (read_step (allowed (spot_sets c.args.spot)) c.args.step.now) (tags_at c.in_ok-read_one.field-0) (tags_at found) c.args.behind.now c.in_ok-read_one.ensures has)
    c.read_on.ensures
