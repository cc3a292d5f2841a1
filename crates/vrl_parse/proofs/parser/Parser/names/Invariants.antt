use Rattle.std.proofs.Common.{◌<◌, ◌++◌, length}
use Rattle.vrl_parse.specs.Descent.{more_names, names}
use Rattle.vrl_parse.specs.FirstWords.{words_left}
use Rattle.vrl_parse.proofs.Loops.{Leads}
use Rattle.vrl_parse.proofs.parser.Parser.names.Given as goal

abbrev pub invariant-loop-self : goal.invariant-loop-self
invariant-loop-self l = record { leads : Leads names more_names (λ ns. l.names.items ++ ns) (words_left l.fn.self) (words_left l.self); shorter : length l.self.rest.now < length l.fn.self.rest.now }

abbrev pub decreases-loop-self : goal.decreases-loop-self
decreases-loop-self l = length l.self.rest.now
