use Rattle.vrl_value.proofs.ReadBack.{moment_text-reading}
use Rattle.vrl_value.proofs.Timestamps.{one_reading}
use Rattle.vrl_value.proofs.laws.moments_read_back.Goals as goal

pub returns : goal.returns
returns c = record { read_back = moment_text-reading; one_reading = one_reading }
