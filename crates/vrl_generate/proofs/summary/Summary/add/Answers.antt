use Rattle.std.proofs.Common.{rules}
use Rattle.vrl_generate.proofs.Counted.{one_more}
use Rattle.vrl_generate.proofs.summary.Summary.add.Goals as goal

pub returns : goal.returns
returns c outs = one_more outs c.args.made.now c.args.self.now c.count.new.self _ c.count.ensures (record { lines = search rules; written = search rules; errors = search rules; aborted = search rules; refused = search rules; bytes = search rules; message = search rules; kept_fits = search rules; output_fits = search rules })
