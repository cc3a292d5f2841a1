use Rattle.std.proofs.Common.{◌≡◌, drop}
use Rattle.remap_words.specs.Uses.{has_short}
use Rattle.remap_words.specs.View.{texts}
use Rattle.remap_words.proofs.read.has_short_option.Given as goal

abbrev pub invariant-loop-word : goal.invariant-loop-word
invariant-loop-word l = has_short (texts (drop l.word-index l.words)) ≡ has_short (texts l.words)
