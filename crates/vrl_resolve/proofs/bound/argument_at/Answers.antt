use Rattle.std.proofs.Common.{refl}
use Rattle.std.proofs.lemmas.Option.{slice_get_past, slice_get_read}
use Rattle.vrl_resolve.proofs.WrittenArguments.{argument_found, argument_missing}
use Rattle.vrl_resolve.proofs.bound.argument_at.Goals as goal

pub returns-in_err-arg : goal.returns-in_err-arg
returns-in_err-arg c =
    rw c.from_residual-in_err-arg.ensures (argument_missing c.args.args.now c.args.place c.in_ok-place.place c.in_ok-place.was (slice_get_past c.args.args.now c.in_ok-place.place c.in_err-arg.ensures.lookup.3))

pub returns : goal.returns
returns c =
    argument_found c.args.args.now c.args.place c.in_ok-place.place c.in_ok-arg.arg.now c.in_ok-place.was
    (slice_get_read c.args.args.now _ c.in_ok-place.place c.in_ok-arg.arg.now refl c.in_ok-arg.ensures.lookup.3.0 c.in_ok-arg.ensures.lookup.1)
