use Rattle.std.proofs.Common.{rules}
use Rattle.vrl_generate.specs.Made.{line_text}
use Rattle.vrl_generate.proofs.made.line_text.Goals as goal

pub returns : goal.returns
unfolding line_text
returns c = search rules
