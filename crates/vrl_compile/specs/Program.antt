-- The program that an accepted script is run as.
use Rattle.vrl_syntax.specs.Tree.{Script}
use Rattle.vrl_judge.specs.Rules.{Judgement}
use Rattle.vrl_resolve.specs.Program.{ProgramTree, script_program}

-- that of its items, with the empty values of its judgement, and the sources of its regex literals
abbrev pub program_for : Script → Judgement → ProgramTree
program_for script j = script_program script.items j.empties script.patterns
