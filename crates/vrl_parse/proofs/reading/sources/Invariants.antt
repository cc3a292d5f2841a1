use Rattle.std.proofs.Common.{◌≡◌, ◌++◌, length}
use Rattle.vrl_parse.specs.Reading.{sources_of}
use Rattle.vrl_parse.proofs.reading.sources.Given as goal

abbrev pub invariant-loop-first : goal.invariant-loop-first
invariant-loop-first l = l.found.items ++ sources_of l.rest ≡ sources_of l.fn.words

abbrev pub decreases-loop-first : goal.decreases-loop-first
decreases-loop-first l = length l.rest
