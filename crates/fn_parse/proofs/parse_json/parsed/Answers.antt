use Rattle.std.proofs.Common.{codes, true, subst}
use Rattle.vrl_builtin.specs.Rows.{named}
use Rattle.vrl_builtin.specs.View.{Applies}
use Rattle.vrl_json.specs.Line.{reading_of}
use Rattle.fn_parse.specs.Json.{answer_to}
use Rattle.fn_parse.proofs.Readings.{is_read}
use Rattle.fn_parse.proofs.parse_json.parsed.Goals as goal

pub returns : goal.returns
returns c =
    let told = reading_of c.as_bytes.result.now in
    let read = c.from_line.ensures in
    subst (λ s. Applies true (named (codes "parse_json") (answer_to (reading_of s))) c.answer.result) c.as_bytes.ensures.value
    (c.answer.ensures.answer told (is_read told c.from_line.result read.value read.not_json read.not_whole))
