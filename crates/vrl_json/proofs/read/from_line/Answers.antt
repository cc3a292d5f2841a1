use Rattle.std.proofs.Common.{sym, ap, ◌∙◌, arith}
use Rattle.std.proofs.lemmas.Grind.{common_steps}
use Rattle.std.proofs.lemmas.Result.{IfOk-weaker}
use Rattle.serde_json.specs.Read.{read}
use Rattle.vrl_json.specs.Line.{reading_of_json}
use Rattle.vrl_json.proofs.Lines.{json_of-refused, reading_of-text}
use Rattle.vrl_json.proofs.read.from_line.Goals as goal

pub returns-in_default-clause-not_json : goal.returns-in_default-clause-not_json
returns-in_default-clause-not_json c refused = ap reading_of_json (json_of-refused c.args.bytes.now (λ text. absurd (grind (arith, common_steps, text))))

pub returns-clause-value : goal.returns-clause-value
returns-clause-value c =
    let text = c.in-Ok.ensures.cases in
    let read_as = reading_of-text c.args.bytes.now text.1 ∙ ap (λ bytes. reading_of_json (read bytes)) (sym text.0) in
    IfOk-weaker c.read_text.result _ _ (λ value is. read_as ∙ is) c.read_text.ensures.value

pub returns-clause-not_whole : goal.returns-clause-not_whole
returns-clause-not_whole c refused =
    let text = c.in-Ok.ensures.cases in
    let read_as = reading_of-text c.args.bytes.now text.1 ∙ ap (λ bytes. reading_of_json (read bytes)) (sym text.0) in
    read_as ∙ c.read_text.ensures.not_whole refused

pub returns-clause-not_json : goal.returns-clause-not_json
returns-clause-not_json c refused =
    let text = c.in-Ok.ensures.cases in
    let read_as = reading_of-text c.args.bytes.now text.1 ∙ ap (λ bytes. reading_of_json (read bytes)) (sym text.0) in
    read_as ∙ ap reading_of_json (c.read_text.ensures.not_json refused)
