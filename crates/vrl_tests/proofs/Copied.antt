-- What a worker that copies makes of a line.
use Rattle.vrl_batch.specs.declared.line.Line.{Line}
use Rattle.vrl_batch.specs.declared.work.LineOut.{LineOut}
use Rattle.vrl_batch.specs.declared.work.Outcome.TheVariants.{Fine}

abbrev pub copy : Line → LineOut
copy line = record { output = line.bytes; report = line.bytes; kept = line.number; outcome = Fine }
