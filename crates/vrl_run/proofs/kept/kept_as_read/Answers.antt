use Rattle.std.proofs.Common.{◌≡◌, rules, true}
use Rattle.std.proofs.lemmas.Result.{IfOk-weaker}
use Rattle.vrl_value.specs.View.{tree_of}
use Rattle.vrl_json.specs.Line.{reading_of, whole}
use Rattle.vrl_run.proofs.Enclosing.{line_as_read}
use Rattle.vrl_run.proofs.kept.kept_as_read.Goals as goal

pub returns-then-not-keep-clause-read : goal.returns-then-not-keep-clause-read
returns-then-not-keep-clause-read c envelope read is = rw c.if-not-keep.true (c.nothing.ensures envelope c.args.sources.now)

pub returns-clause-read : goal.returns-clause-read
returns-clause-read c =
    let keeps : c.args.keep ≡ true = search rules in
    let reading : reading_of c.args.line.now.bytes ≡ whole (tree_of c.in-Ok.value) = search rules in
    rw keeps (IfOk-weaker c.kept_one.result _ _ (λ kept are. line_as_read c.args.sources.now c.args.line.now.bytes (tree_of c.in-Ok.value) kept reading are) c.kept_one.ensures)
