-- That a kind may be shared by threads.
use denote.Param.Send.{IsSync, sendable}
use Rattle.std.proofs.Crossing.{crosses}
use Rattle.std.proofs.MapsCrossing.{crosses as maps}
use Rattle.vrl_kind.proofs.kind.Kind.TheLaws.TheKnot as kind
use Rattle.vrl_kind.proofs.scalars.Scalars.TheSendSync as scalars
use Rattle.vrl_kind.specs.contracts.kind.Kind as Kind

pub kind_sync : IsSync Kind.the_row
kind_sync = search (kind.sync-Kind, scalars.the_field_sync, sendable, crosses, maps) depth 30 fits 3000

pub kind_field_sync : IsSync (Kind.the_field).row
kind_field_sync = search (kind.sync-Kind, scalars.the_field_sync, sendable, crosses, maps) depth 30 fits 3000
