-- That a program may be sent to and shared by threads: its tree holds itself, and its table of patterns holds regexes, so each is told apart.
use denote.Param.Send.{IsSend, IsSync, sendable}
use Rattle.std.proofs.Crossing.{crosses}
use Rattle.std.proofs.MapsCrossing.{crosses as maps}
use Rattle.vrl_value.proofs.value.Value.TheLaws.TheKnot as value
use Rattle.vrl_value.specs.contracts.value.Value as Value
use Rattle.vrl_pattern.proofs.Shared.{patterns_sync, patterns_field_sync, patterns_send, patterns_field_send}
use Rattle.vrl_resolve.proofs.node.Form.TheLaws.TheKnot as node
use Rattle.vrl_resolve.proofs.node.Callee.TheSendSync as callee
use Rattle.vrl_resolve.specs.contracts.node.Node as Node
use Rattle.vrl_resolve.specs.contracts.program.Program as Program

-- shared by threads
value_sync : IsSync Value.the_row
value_sync = search (value.sync-Value, value.sync-Items, value.sync-Fields, sendable, crosses, maps) depth 30 fits 3000

value_field_sync : IsSync (Value.the_field).row
value_field_sync = search (value.sync-Value, value.sync-Items, value.sync-Fields, sendable, crosses, maps) depth 30 fits 3000

node_sync : IsSync Node.the_row
node_sync = search (node.sync-Node, callee.the_field_sync, value_sync, value_field_sync, sendable, crosses, maps) depth 30 fits 3000

node_field_sync : IsSync (Node.the_field).row
node_field_sync = search (node.sync-Node, callee.the_field_sync, value_sync, value_field_sync, sendable, crosses, maps) depth 30 fits 3000

pub program_sync : IsSync Program.the_row
program_sync = search (node_sync, node_field_sync, patterns_sync, patterns_field_sync, sendable, crosses, maps) depth 30 fits 3000

-- sent to threads
value_send : IsSend Value.the_row
value_send = search (value.send-Value, value.send-Items, value.send-Fields, sendable, crosses, maps) depth 30 fits 3000

value_field_send : IsSend (Value.the_field).row
value_field_send = search (value.send-Value, value.send-Items, value.send-Fields, sendable, crosses, maps) depth 30 fits 3000

node_send : IsSend Node.the_row
node_send = search (node.send-Node, callee.the_field_send, value_send, value_field_send, sendable, crosses, maps) depth 30 fits 3000

node_field_send : IsSend (Node.the_field).row
node_field_send = search (node.send-Node, callee.the_field_send, value_send, value_field_send, sendable, crosses, maps) depth 30 fits 3000

pub program_send : IsSend Program.the_row
program_send = search (node_send, node_field_send, patterns_send, patterns_field_send, sendable, crosses, maps) depth 30 fits 3000
