use Rattle.std.proofs.Common.{rules}
use Rattle.std.specs.Prelude.{IfOk, not}
use Rattle.vrl_value.specs.Tree.{Tree}
use Rattle.std.proofs.lemmas.Result.{IfOk-weaker}
use Rattle.vrl_run.specs.LineResult.{kept_if, StandsFor}
use Rattle.vrl_run.specs.Ran.{AreLinesOf}
use Rattle.vrl_run.proofs.EventLists.{none_with_none}
use Rattle.vrl_run.proofs.kept.kept_events.Goals as goal

pub returns-in-Value-clause-none : goal.returns-in-Value-clause-none
returns-in-Value-clause-none c = rw c.in-Value.is (λ read none. c.kept_left.ensures.none (none_with_none _ _ none))

pub returns-in-Aborted-clause-kept : goal.returns-in-Aborted-clause-kept
returns-in-Aborted-clause-kept c =
    rw c.in-Aborted.is (IfOk-weaker c.kept_as_read.result _ _ (λ kept clause. clause c.args.options.now.envelope) c.kept_as_read.ensures.read)

pub returns-in-Banged-clause-kept : goal.returns-in-Banged-clause-kept
returns-in-Banged-clause-kept c =
    let told : IfOk c.kept_as_read-in-Banged.result (λ kept. (read : Tree × Tree) → StandsFor c.args.options.now.envelope c.args.line.now.bytes read → AreLinesOf c.args.options.now.envelope c.args.sources.now (kept_if (not c.args.options.now.drop_on_error) read) kept) = IfOk-weaker c.kept_as_read-in-Banged.result _ _ (λ kept clause. clause c.args.options.now.envelope) c.kept_as_read-in-Banged.ensures.read in
    search rules
