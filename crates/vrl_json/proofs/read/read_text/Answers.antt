use Rattle.std.proofs.Common.{◌≡◌, [], sym, ap, ◌∙◌, rules}
use Rattle.json.specs.Json.{value}
use Rattle.json.specs.Lex.{tokens}
use Rattle.vrl_value.specs.View.{tree_of}
use Rattle.vrl_json.specs.Line.{reading_of_json}
use Rattle.vrl_json.proofs.Reading.{reading-partial, reading-whole}
use Rattle.vrl_json.proofs.Turns.{alone-read}
use Rattle.vrl_json.proofs.read.read_text.Goals as goal

pub returns-then-is_whole-clause-value : goal.returns-then-is_whole-clause-value
returns-then-is_whole-clause-value c =
    let found = c.in_ok-value.ensures.ok in
    let none : c.read_value.new.reader ≡ [] = search rules in
    let whole = alone-read (value 127 (tokens c.args.text.now)) found.0 (rw (c.in-Ok.ensures.ok, none) at found.1) in
    ap reading_of_json whole ∙ reading-whole found.0 (tree_of c.in_ok-value.value) found.2 (sym c.is_whole.ensures ∙ c.if-is_whole.true)

pub returns-else-is_whole-clause-not_whole : goal.returns-else-is_whole-clause-not_whole
returns-else-is_whole-clause-not_whole c refused =
    let found = c.in_ok-value.ensures.ok in
    let none : c.read_value.new.reader ≡ [] = search rules in
    let whole = alone-read (value 127 (tokens c.args.text.now)) found.0 (rw (c.in-Ok.ensures.ok, none) at found.1) in
    ap reading_of_json whole ∙ reading-partial found.0 (tree_of c.in_ok-value.value) found.2 (sym c.is_whole.ensures ∙ c.if-is_whole.false)
