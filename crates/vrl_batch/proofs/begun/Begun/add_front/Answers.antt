use Rattle.std.proofs.Common.{◌++◌, refl, drop, add-one, arith}
use Rattle.std.proofs.Math.ListN.{drop_of_length-le}
use Rattle.vrl_batch.proofs.Asks.{asks-begun, asks-ended, on_err}
use Rattle.vrl_batch.proofs.Begins.{adds-line, adds-part, unbroken-all}
use Rattle.vrl_batch.proofs.begun.Begun.add_front.Goals as goal

pub returns-then-end-bytes-clause-lines : goal.returns-then-end-bytes-clause-lines
returns-then-end-bytes-clause-lines g c first ahead front part begun =
    let end = c.line_end-end.result in
    rw (add-one end) (adds-line first ahead _ _ front part c.args.bytes.now end _ _ begun c.requires.unfilled c.line_end-end.ensures.before (omega arith) (c.line_end-end.ensures.found (omega arith)) (c.in_ok-end_line.ensures.line part begun.part_is))

pub returns-clause-lines : goal.returns-clause-lines
returns-clause-lines g c first ahead front part begun =
    let bytes = c.args.bytes.now in
    let end = c.line_end-end.result in
    adds-part first ahead _ front part bytes (drop end bytes) c.args.self.now _ begun c.requires.unfilled
    (unbroken-all bytes (λ k below. c.line_end-end.ensures.before k (omega (arith, c.line_end-end.ensures.within)))) (drop_of_length-le bytes (omega arith))
    refl refl refl (c.in_ok-add.ensures part begun.part_is)

pub returns-in_err-end_line-clause-asks : goal.returns-in_err-end_line-clause-asks
returns-in_err-end_line-clause-asks g c first ahead front part begun =
    on_err c.from_residual.result
    (asks-ended first ahead _ front part c.args.self.now begun c.args.bytes.now c.line_end-end.result _ c.line_end-end.ensures.before (omega arith)
    (c.line_end-end.ensures.found (omega arith)) (c.in_err-end_line.ensures.asks part begun.part_is))

pub returns-in_err-add-clause-asks : goal.returns-in_err-add-clause-asks
returns-in_err-add-clause-asks g c first ahead front part begun =
    on_err c.from_residual-in_err-add.result (asks-begun first ahead _ front part c.args.self.now begun (part ++ c.args.bytes.now))
