use Rattle.std.proofs.Common.{◌+◌, ℕ, ℤ, Option, [], sym, ◌∙◌, subst, rules}
use Rattle.vrl_batch.proofs.RunLaws.{empty_at_end, reads_ask, still_asks, stopped_ask}
use Rattle.vrl_batch.specs.Begun.{IsBegun}
use Rattle.vrl_batch.proofs.reader.Lines.next_batch.Goals as goal

pub fill-requires-clause-begun : goal.fill-requires-clause-begun
fill-requires-clause-begun g c = subst (λ n. (ahead : Option (ℕ → ℤ)) → IsBegun (n + 1) ahead [] [] c.new-begun.result ahead) (sym c.new-begun.ensures.number) c.new-begun.ensures.begun

pub returns-clause-empty : goal.returns-clause-empty
returns-clause-empty g c none = (empty_at_end _ _ _ c.in_default-fill.ensures.batch (sym c.into_batch.ensures ∙ none)).ended

pub returns-in-Some-clause-asks : goal.returns-in-Some-clause-asks
returns-in-Some-clause-asks g c = still_asks _

pub returns-in-Err-clause-asks : goal.returns-in-Err-clause-asks
returns-in-Err-clause-asks g c = let asks = stopped_ask _ _ c.in-Err.fault c.in-Err.ensures.fault in search rules

pub returns-clause-asks : goal.returns-clause-asks
returns-clause-asks g c = let asks = reads_ask _ _ _ c.in_default-fill.ensures.batch in search rules
