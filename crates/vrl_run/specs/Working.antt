-- What is done with each line.
use Rattle.vrl_batch.specs.declared.line.Line.{Line}
use Rattle.vrl_batch.specs.declared.work.LineOut.{LineOut}
use Rattle.vrl_resolve.specs.Program.{program_of}
use Rattle.vrl_run.specs.LineResult.{result_of_line}
use Rattle.vrl_run.specs.declared.work.LineWork.{LineWork}

-- the script is run over it
abbrev pub result_by : LineWork → Line → LineOut
result_by work line = result_of_line (program_of work.program.now) work.declared.now work.options line
