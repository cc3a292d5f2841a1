use Rattle.std.proofs.Common.{refl}
use Rattle.std.proofs.lemmas.Option.{slice_get_past, slice_get_read}
use Rattle.vrl_check.proofs.CallsFound.{both_found, none_judged, none_written, regexes_at}
use Rattle.vrl_check.proofs.calls.argument_at.Goals as goal

pub returns-in_err-arg-clause-found : goal.returns-in_err-arg-clause-found
returns-in_err-arg-clause-found c js told =
    let none = slice_get_past c.args.args.now c.in_ok-place.place c.in_err-arg.ensures.lookup.3 in
    rw c.from_residual-in_err-arg.ensures (none_written c.args.args.now c.args.parts.now js c.args.place c.in_ok-place.place c.in_ok-place.was none told)

pub returns-in_err-part-clause-found : goal.returns-in_err-part-clause-found
returns-in_err-part-clause-found c js told =
    let none = slice_get_past c.args.parts.now c.in_ok-place.place c.in_err-part.ensures.lookup.3 in
    rw c.from_residual-in_err-part.ensures (none_judged c.args.args.now c.args.parts.now js c.args.place c.in_ok-place.place c.in_ok-place.was none told)

pub returns-clause-found : goal.returns-clause-found
returns-clause-found c js told =
    let i = c.in_ok-place.place in
    let arg = slice_get_read c.args.args.now _ i c.in_ok-arg.arg.now refl c.in_ok-arg.ensures.lookup.3.0 c.in_ok-arg.ensures.lookup.1 in
    let part = slice_get_read c.args.parts.now _ i c.in_ok-part.part.now refl c.in_ok-part.ensures.lookup.3.0 c.in_ok-part.ensures.lookup.1 in
    both_found c.args.args.now c.args.parts.now js c.args.place i c.in_ok-arg.arg.now c.in_ok-part.part.now c.in_ok-place.was arg part told

pub returns-clause-regexes : goal.returns-clause-regexes
returns-clause-regexes c count below =
    let i = c.in_ok-place.place in
    let arg = slice_get_read c.args.args.now _ i c.in_ok-arg.arg.now refl c.in_ok-arg.ensures.lookup.3.0 c.in_ok-arg.ensures.lookup.1 in
    regexes_at c.args.args.now i c.in_ok-arg.arg.now count below arg
