use Rattle.std.proofs.Common.{◌++◌, take, drop, length-drop, sym, ap, ◌∙◌, subst, arith}
use Rattle.std.proofs.lemmas.List.{take-append-drop}
use Rattle.vrl_batch.specs.Sinks.{Appends}
use Rattle.vrl_batch.proofs.Fronts.{take-more, rest_is}
use Rattle.vrl_batch.proofs.SinkLemmas.{appends_both}
use Rattle.vrl_batch.proofs.giving.give_all.Goals as goal

pub returns-in_err-given-clause-front : goal.returns-in_err-given-clause-front
returns-in_err-given-clause-front g c =
    let n = c.loop-given.given in
    let bytes = c.args.bytes.now in
    (take n bytes, drop n bytes, sym (take-append-drop n bytes), c.in_err-given.ensures.unchanged ∙ c.loop-given.invariant.1)

pub loop-given-preserved : goal.loop-given-preserved
loop-given-preserved g c =
    let bytes = c.args.bytes.now in
    let n = c.loop-given.given in
    let more = c.in_ok-given.field-0 in
    let both = appends_both _ _ _ _ _ c.loop-given.invariant.1 c.in_ok-given.ensures.written in
    let rest = rest_is bytes n in
    let within = rw rest at c.in_ok-given.ensures.within in (
      omega (arith, within, length-drop n bytes),
      subst (λ x. Appends (g.K.Sink.written c.args.sink.now) (g.K.Sink.written c.give.new.self) x) (ap (λ x. take n bytes ++ take more x) rest ∙ take-more bytes n more) both,
      omega (arith, c.in_ok-given.ensures.count, c.loop-given.invariant.2),
      c.in_ok-given.ensures.no_fault ∙ c.loop-given.invariant.3,
    )
