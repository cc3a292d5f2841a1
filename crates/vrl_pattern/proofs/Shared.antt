-- That the regexes of a table may be sent to and shared by threads: a regex holds a tree that holds itself, so each part that has one is told apart.
use denote.Param.Send.{IsSend, IsSync, sendable, recorded_send, recorded_sync, struct_send, struct_sync}
use denote.Struct.Declared.{shape}
use denote.Struct.Struct.{Struct}
use Rattle.std.proofs.Crossing.{crosses}
use Rattle.std.proofs.MapsCrossing.{crosses as maps}
use Rattle.regex.specs.contracts.pattern.Pattern as Pattern
use Rattle.regex.specs.contracts.string.regex.Regex as Regex
use Rattle.regex_class.proofs.Class.TheSendSync as class
use Rattle.regex_dfa.proofs.dfa.Dfa.TheSendSync as dfa
use Rattle.regex_hir.proofs.hir.Hir.TheLaws.TheKnot as hir
use Rattle.regex_hir.proofs.look.Look.TheSendSync as look
use Rattle.regex_hir.specs.contracts.hir.Hir as Hir
use Rattle.regex_literal.proofs.byte_set.ByteSet.TheSendSync as byte_set
use Rattle.regex_literal.proofs.caseless.Caseless.TheSendSync as caseless
use Rattle.regex_literal.proofs.ladder.Ladder.TheSendSync as ladder
use Rattle.regex_literal.proofs.prefilter.Prefilter.TheSendSync as prefilter
use Rattle.regex_literal.specs.contracts.caseless.Caseless as Caseless
use Rattle.regex_literal.specs.contracts.ladder.Ladder as Ladder
use Rattle.regex_literal.specs.contracts.prefilter.Prefilter as Prefilter
use Rattle.regex_meta.specs.contracts.plan.Plan as Plan
use Rattle.regex_meta.specs.contracts.plan.Plans as Plans
use Rattle.regex_meta.specs.contracts.program.Program as Program
use Rattle.regex_meta.specs.contracts.signs.Signs as Signs
use Rattle.regex_syntax.proofs.Config.TheSendSync as config
use Rattle.vrl_pattern.specs.contracts.patterns.Patterns as Patterns

-- shared by threads
hir_sync : IsSync Hir.the_row
hir_sync = search (hir.sync-Hir, class.the_field_sync, look.the_field_sync, sendable, crosses) depth 20

hir_field_sync : IsSync (Hir.the_field).row
hir_field_sync = search (hir.sync-Hir, class.the_field_sync, look.the_field_sync, sendable, crosses) depth 20

plan_sync_of : IsSync Prefilter.the_row → IsSync Ladder.the_row → IsSync Hir.the_row → IsSync Plan.the_row
plan_sync_of p l h = search (sendable, crosses) depth 30 fits 3000

plan_sync : IsSync Plan.the_row
plan_sync = plan_sync_of prefilter.the_sync ladder.the_sync hir_sync

signs_sync_of : IsSync Caseless.the_row → IsSync Hir.the_row → IsSync Signs.the_row
signs_sync_of c h = search (sendable, crosses) depth 30 fits 3000

signs_sync : IsSync Signs.the_row
signs_sync = signs_sync_of caseless.the_sync hir_sync

plans_sync : IsSync Plans.the_row
plans_sync = search (plan_sync, sendable, crosses) depth 30

program_sync : IsSync (Struct (shape Program.the_type))
program_sync = struct_sync (shape Program.the_type) (search (hir_sync, hir_field_sync, config.the_field_sync, sendable, crosses, maps) depth 20, (search (dfa.the_sync, dfa.the_field_sync, config.the_field_sync, sendable, crosses, maps) depth 20, (search (plans_sync, plan_sync, config.the_field_sync, sendable, crosses, maps) depth 20, (search (signs_sync, config.the_field_sync, sendable, crosses, maps) depth 20, (search (byte_set.the_sync, config.the_field_sync, sendable, crosses, maps) depth 20, (search (config.the_field_sync, sendable, crosses, maps) depth 20, (search (config.the_field_sync, sendable, crosses, maps) depth 20, (search (config.the_field_sync, sendable, crosses, maps) depth 20, tt))))))))

pattern_sync : IsSync (Struct (shape Pattern.the_type))
pattern_sync = struct_sync (shape Pattern.the_type) (search (config.the_field_sync, sendable, crosses, maps) depth 30, (search (config.the_field_sync, sendable, crosses, maps) depth 30, (search (config.the_field_sync, sendable, crosses, maps) depth 30, (program_sync, tt))))

regex_sync : IsSync Regex.the_row
regex_sync = recorded_sync _ _ _ (Regex.the_type).to_one (struct_sync (shape Regex.the_type) (pattern_sync, tt))

pub patterns_sync : IsSync Patterns.the_row
patterns_sync = search (regex_sync, sendable, crosses, maps) depth 30 fits 3000

pub patterns_field_sync : IsSync (Patterns.the_field).row
patterns_field_sync = search (regex_sync, sendable, crosses, maps) depth 30 fits 3000

-- sent to threads
hir_send : IsSend Hir.the_row
hir_send = search (hir.send-Hir, class.the_field_send, look.the_field_send, sendable, crosses) depth 20

hir_field_send : IsSend (Hir.the_field).row
hir_field_send = search (hir.send-Hir, class.the_field_send, look.the_field_send, sendable, crosses) depth 20

plan_send_of : IsSend Prefilter.the_row → IsSend Ladder.the_row → IsSend Hir.the_row → IsSend Plan.the_row
plan_send_of p l h = search (sendable, crosses) depth 30 fits 3000

plan_send : IsSend Plan.the_row
plan_send = plan_send_of prefilter.the_send ladder.the_send hir_send

signs_send_of : IsSend Caseless.the_row → IsSend Hir.the_row → IsSend Signs.the_row
signs_send_of c h = search (sendable, crosses) depth 30 fits 3000

signs_send : IsSend Signs.the_row
signs_send = signs_send_of caseless.the_send hir_send

plans_send : IsSend Plans.the_row
plans_send = search (plan_send, sendable, crosses) depth 30

program_send : IsSend (Struct (shape Program.the_type))
program_send = struct_send (shape Program.the_type) (search (hir_send, hir_field_send, config.the_field_send, sendable, crosses, maps) depth 20, (search (dfa.the_send, dfa.the_field_send, config.the_field_send, sendable, crosses, maps) depth 20, (search (plans_send, plan_send, config.the_field_send, sendable, crosses, maps) depth 20, (search (signs_send, config.the_field_send, sendable, crosses, maps) depth 20, (search (byte_set.the_send, config.the_field_send, sendable, crosses, maps) depth 20, (search (config.the_field_send, sendable, crosses, maps) depth 20, (search (config.the_field_send, sendable, crosses, maps) depth 20, (search (config.the_field_send, sendable, crosses, maps) depth 20, tt))))))))

pattern_send : IsSend (Struct (shape Pattern.the_type))
pattern_send = struct_send (shape Pattern.the_type) (search (config.the_field_send, sendable, crosses, maps) depth 30, (search (config.the_field_send, sendable, crosses, maps) depth 30, (search (config.the_field_send, sendable, crosses, maps) depth 30, (program_send, tt))))

regex_send : IsSend Regex.the_row
regex_send = recorded_send _ _ _ (Regex.the_type).to_one (struct_send (shape Regex.the_type) (pattern_send, tt))

pub patterns_send : IsSend Patterns.the_row
patterns_send = search (regex_send, sendable, crosses, maps) depth 30 fits 3000

pub patterns_field_send : IsSend (Patterns.the_field).row
patterns_field_send = search (regex_send, sendable, crosses, maps) depth 30 fits 3000
