use Rattle.std.proofs.Common.{◌≡◌, take}
use Rattle.vrl_diag.specs.Position.{IsIn}
use Rattle.vrl_diag.specs.Rendering.{diagnostic_lines}
use Rattle.vrl_diag.proofs.rendering.render_all.Given as goal

-- the lines of the diagnostics so far, and a position of the text
abbrev pub invariant-loop-diagnostic : goal.invariant-loop-diagnostic
invariant-loop-diagnostic l = (l.lines.items ≡ diagnostic_lines l.text (take l.diagnostic-index l.diagnostics)) × IsIn l.text l.position
