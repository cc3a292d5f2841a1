use Rattle.std.proofs.Common.{◌≡◌, ◌++◌, codes, drop}
use Rattle.std.specs.List.{flat_map}
use Rattle.vrl_run.specs.Answer.{kind_line, root_line}
use Rattle.vrl_run.proofs.kinds.alive_lines.Given as goal

-- the lines of what is left, behind those written, are the whole
abbrev pub invariant-loop-root : goal.invariant-loop-root
invariant-loop-root l = l.lines.items ++ flat_map (root_line l.envelope) (drop l.root-index l.roots) ≡ kind_line (codes "result") l.kind ++ flat_map (root_line l.envelope) l.roots
