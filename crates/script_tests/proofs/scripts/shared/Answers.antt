use denote.Param.Send.{sendable}
use Rattle.std.proofs.Crossing.{crosses}
use Rattle.std.proofs.MapsCrossing.{crosses as maps}
use Rattle.vrl_resolve.proofs.Shared.{program_send, program_sync}
use Rattle.script_tests.proofs.scripts.shared.Goals as goal

pub shareable-requires-send-T : goal.shareable-requires-send-T
shareable-requires-send-T c κs = search (program_send, sendable, crosses, maps) depth 30 fits 3000

pub shareable-requires-sync-T : goal.shareable-requires-sync-T
shareable-requires-sync-T c κs = search (program_sync, sendable, crosses, maps) depth 30 fits 3000
