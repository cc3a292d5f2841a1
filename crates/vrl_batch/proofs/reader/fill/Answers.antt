use Rattle.std.proofs.Common.{◌≡◌, ◌+◌, false, [], Ok, refl, ap, ◌∙◌, arith, rules}
use Rattle.std.proofs.lemmas.Result.{err_from_is_err_and}
use Rattle.vrl_batch.proofs.Fills.{fills-end, fills-more, fills-start, fills-stop, fills-wanting, fills-wanting-end, fills-whole, reads-room, wanting-start}
use Rattle.vrl_batch.specs.Begun.{is_filled}
use Rattle.vrl_batch.specs.Pieces.{held_by}
use Rattle.vrl_batch.specs.Reads.{stream}
use Rattle.vrl_batch.proofs.reader.fill.Goals as goal

pub loop-piece-init : goal.loop-piece-init
loop-piece-init g c = (
  fills-start c.args.piece.now c.add_rest.new.piece c.args.begun.now c.add_rest.new.begun (g.S.Source.left c.args.source.now) (g.S.Source.taken c.args.source.now) (g.S.Source.ended c.args.source.now) (g.C.Clock.ahead c.args.clock.now) (g.C.Clock.ahead c.add_rest.new.clock)
      c.in_ok-add_rest.ensures.taken (c.in_ok-add_rest.ensures.lines (c.args.begun.now.number + 1) (g.C.Clock.ahead c.args.clock.now) [] [] (c.requires.begun (g.C.Clock.ahead c.args.clock.now))) c.in_ok-add_rest.ensures.all
      (omega (arith, c.in_ok-add_rest.ensures.taken, c.in_ok-add_rest.ensures.room, c.requires.room)) (omega (arith, c.in_ok-add_rest.ensures.taken, c.requires.within)),
  refl,
)

pub returns-in_err-take-clause-fault : goal.returns-in_err-take-clause-fault
returns-in_err-take-clause-fault g c =
    let unfilled : is_filled c.loop-piece.begun ≡ false = search rules in
    let handed = err_from_is_err_and c.from_residual-in_err-take.result c.from_residual-in_err-take.ensures.1 in
    rw (handed.1, handed.2)
    (fills-stop (stream (held_by c.args.piece.now c.args.begun.now.number) (g.S.Source.left c.args.source.now) (g.S.Source.taken c.args.source.now) (g.S.Source.ended c.args.source.now) (g.C.Clock.ahead c.args.clock.now))
    c.loop-piece.piece c.loop-piece.begun (g.S.Source.left c.loop-piece.source) (g.S.Source.taken c.loop-piece.source) (g.S.Source.ended c.loop-piece.source) (g.C.Clock.ahead c.loop-piece.clock) c.loop-piece.invariant.0 unfilled
    c.take.new.self (g.S.Source.left c.take.new.source) (g.S.Source.taken c.take.new.source) c.args.begun.now.number (g.S.Source.ended c.take.new.source) c.in_err-take.field-0.0 (λ is. let none = (c.in_err-take.ensures.after_end is).0 in cc) c.in_err-take.ensures.missed)

pub returns-then-branch-eq0-clause-batch : goal.returns-then-branch-eq0-clause-batch
returns-then-branch-eq0-clause-batch g c =
    let unfilled : is_filled c.loop-piece.begun ≡ false = search rules in
    let none : c.in_ok-take.field-0 ≡ 0 = search rules in
    fills-end (stream (held_by c.args.piece.now c.args.begun.now.number) (g.S.Source.left c.args.source.now) (g.S.Source.taken c.args.source.now) (g.S.Source.ended c.args.source.now) (g.C.Clock.ahead c.args.clock.now))
    c.loop-piece.piece c.loop-piece.begun (g.S.Source.left c.loop-piece.source) (g.S.Source.taken c.loop-piece.source) (g.S.Source.ended c.loop-piece.source) (g.C.Clock.ahead c.loop-piece.clock) c.loop-piece.invariant.0 unfilled
    c.take.new.self (g.S.Source.left c.take.new.source) (g.S.Source.taken c.take.new.source) c.in_ok-take.field-0 c.in_ok-take.ensures.piece c.end.new.self (g.S.Source.ended c.take.new.source) (g.C.Clock.ahead c.end.new.clock) none
    (c.in_ok-take.ensures.end (ap Ok none)) (c.in_ok-take.ensures.end_empty (ap Ok none)) (λ front part begun. c.in_ok-end.ensures.lines (c.args.begun.now.number + 1) (g.C.Clock.ahead c.args.clock.now) front part begun)

pub returns-then-branch-eq0-clause-room : goal.returns-then-branch-eq0-clause-room
returns-then-branch-eq0-clause-room g c =
    let reads = reads-room
    (stream (held_by c.args.piece.now c.args.begun.now.number) (g.S.Source.left c.args.source.now) (g.S.Source.taken c.args.source.now) (g.S.Source.ended c.args.source.now) (g.C.Clock.ahead c.args.clock.now))
    (stream (held_by c.take.new.self c.end.new.self.number) (g.S.Source.left c.take.new.source) (g.S.Source.taken c.take.new.source) (g.S.Source.ended c.take.new.source) (g.C.Clock.ahead c.end.new.clock))
    c.end.new.self.lines.items (returns-then-branch-eq0-clause-batch g c) (omega (arith, c.requires.room)) in
    omega (arith, reads)

pub loop-piece-preserved : goal.loop-piece-preserved
loop-piece-preserved g c =
    let unfilled : is_filled c.loop-piece.begun ≡ false = search rules in (
      fills-more (stream (held_by c.args.piece.now c.args.begun.now.number) (g.S.Source.left c.args.source.now) (g.S.Source.taken c.args.source.now) (g.S.Source.ended c.args.source.now) (g.C.Clock.ahead c.args.clock.now))
          c.loop-piece.piece c.loop-piece.begun (g.S.Source.left c.loop-piece.source) (g.S.Source.taken c.loop-piece.source) (g.S.Source.ended c.loop-piece.source) (g.C.Clock.ahead c.loop-piece.clock) c.loop-piece.invariant.0 unfilled
          c.take.new.self (g.S.Source.left c.take.new.source) (g.S.Source.taken c.take.new.source) c.in_ok-take.field-0 c.in_ok-take.ensures.piece c.add_rest-in-loop-piece.new.piece c.add_rest-in-loop-piece.new.begun (g.S.Source.ended c.take.new.source) (g.C.Clock.ahead c.add_rest-in-loop-piece.new.clock)
          (λ is. let none = (c.in_ok-take.ensures.after_end is).0 in search rules) c.in_ok-add_rest-2.ensures.taken (λ front part begun. c.in_ok-add_rest-2.ensures.lines (c.args.begun.now.number + 1) (g.C.Clock.ahead c.args.clock.now) front part begun) c.in_ok-add_rest-2.ensures.all
          (omega (arith, c.in_ok-add_rest-2.ensures.room, c.in_ok-add_rest-2.ensures.taken, c.loop-piece.invariant.0.room, c.in_ok-take.ensures.piece.length_is, c.in_ok-take.ensures.piece.counted_too)),
      c.in_ok-take.ensures.no_fault ∙ c.loop-piece.invariant.1,
    )

pub returns-in_err-add_rest-2-clause-fault : goal.returns-in_err-add_rest-2-clause-fault
returns-in_err-add_rest-2-clause-fault g c =
    let unfilled : is_filled c.loop-piece.begun ≡ false = search rules in
    let wanting = fills-wanting (stream (held_by c.args.piece.now c.args.begun.now.number) (g.S.Source.left c.args.source.now) (g.S.Source.taken c.args.source.now) (g.S.Source.ended c.args.source.now) (g.C.Clock.ahead c.args.clock.now))
    c.loop-piece.piece c.loop-piece.begun (g.S.Source.left c.loop-piece.source) (g.S.Source.taken c.loop-piece.source) (g.S.Source.ended c.loop-piece.source) (g.C.Clock.ahead c.loop-piece.clock) c.loop-piece.invariant.0 unfilled
    c.take.new.self (g.S.Source.left c.take.new.source) (g.S.Source.taken c.take.new.source) c.in_ok-take.field-0 c.in_ok-take.ensures.piece c.add_rest-in-loop-piece.new.piece c.args.begun.now.number (g.S.Source.ended c.take.new.source) (g.C.Clock.ahead c.add_rest-in-loop-piece.new.clock)
    c.in_err-add_rest-2.ensures.taken (λ is. absurd (let none = (c.in_ok-take.ensures.after_end is).0 in search rules))
    (c.in_err-add_rest-2.ensures.asks (c.args.begun.now.number + 1) (g.C.Clock.ahead c.args.clock.now) c.loop-piece.invariant.0.front c.loop-piece.invariant.0.part c.loop-piece.invariant.0.is_begun) in
    search rules

pub returns-clause-batch : goal.returns-clause-batch
returns-clause-batch g c =
    fills-whole (stream (held_by c.args.piece.now c.args.begun.now.number) (g.S.Source.left c.args.source.now) (g.S.Source.taken c.args.source.now) (g.S.Source.ended c.args.source.now) (g.C.Clock.ahead c.args.clock.now))
    c.loop-piece.piece c.loop-piece.begun (g.S.Source.left c.loop-piece.source) (g.S.Source.taken c.loop-piece.source) (g.S.Source.ended c.loop-piece.source) (g.C.Clock.ahead c.loop-piece.clock) c.loop-piece.invariant.0 (search rules)

pub returns-in_err-add_rest-clause-fault : goal.returns-in_err-add_rest-clause-fault
returns-in_err-add_rest-clause-fault g c =
    let wanting = wanting-start c.args.piece.now c.add_rest.new.piece c.args.begun.now.number c.args.begun.now.number (g.S.Source.left c.args.source.now) (g.S.Source.taken c.args.source.now) (g.S.Source.ended c.args.source.now)
    (g.C.Clock.ahead c.args.clock.now) (g.C.Clock.ahead c.add_rest.new.clock) c.in_err-add_rest.ensures.taken c.requires.within
    (c.in_err-add_rest.ensures.asks (c.args.begun.now.number + 1) (g.C.Clock.ahead c.args.clock.now) [] [] (c.requires.begun (g.C.Clock.ahead c.args.clock.now))) in
    search rules

pub returns-in_err-end-clause-fault : goal.returns-in_err-end-clause-fault
returns-in_err-end-clause-fault g c =
    let unfilled : is_filled c.loop-piece.begun ≡ false = search rules in
    let none : c.in_ok-take.field-0 ≡ 0 = search rules in
    let wanting = fills-wanting-end (stream (held_by c.args.piece.now c.args.begun.now.number) (g.S.Source.left c.args.source.now) (g.S.Source.taken c.args.source.now) (g.S.Source.ended c.args.source.now) (g.C.Clock.ahead c.args.clock.now))
    c.loop-piece.piece c.loop-piece.begun (g.S.Source.left c.loop-piece.source) (g.S.Source.taken c.loop-piece.source) (g.S.Source.ended c.loop-piece.source) (g.C.Clock.ahead c.loop-piece.clock) c.loop-piece.invariant.0 unfilled
    c.take.new.self (g.S.Source.left c.take.new.source) (g.S.Source.taken c.take.new.source) c.in_ok-take.field-0 c.in_ok-take.ensures.piece c.args.begun.now.number (g.S.Source.ended c.take.new.source) (g.C.Clock.ahead c.end.new.clock) none
    (c.in_err-end.ensures.asks (c.args.begun.now.number + 1) (g.C.Clock.ahead c.args.clock.now) c.loop-piece.invariant.0.front c.loop-piece.invariant.0.part c.loop-piece.invariant.0.is_begun) in
    search rules
