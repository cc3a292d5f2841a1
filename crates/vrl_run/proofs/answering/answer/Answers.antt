use Rattle.std.proofs.Common.{refl}
use Rattle.vrl_run.specs.Request.{bad_kind, bad_script, bad_words, map_made, run_of, tell_kinds}
use Rattle.vrl_run.proofs.AnswerLemmas.{told_answered}
use Rattle.vrl_run.proofs.answering.answer.Goals as goal

pub returns-in-Words : goal.returns-in-Words
returns-in-Words g c =
    let told = c.write_told.ensures in
    rw c.in-Words.is (told_answered bad_words _ (λ reads. reads) (told.written bad_words c.usage.ensures) told.cause told.write_told (refl, refl))

pub returns-in-Kind : goal.returns-in-Kind
returns-in-Kind g c =
    let told = c.write_told-in-Kind.ensures in
    let request = bad_kind c.in-Kind.fault in
    rw c.in-Kind.is (told_answered request _ (λ reads. reads) (told.written request c.kind_refusal.ensures) told.cause told.write_told (refl, refl))

pub returns-in-Refused : goal.returns-in-Refused
returns-in-Refused g c =
    let told = c.write_told-in-Refused.ensures in
    let request = bad_script c.in-Refused.text c.in-Refused.diagnostics in
    rw c.in-Refused.is (told_answered request _ (λ reads. reads) (told.written request c.script_refusal.ensures) told.cause told.write_told (refl, refl))

pub returns-in-Run : goal.returns-in-Run
returns-in-Run g c = rw c.in-Run.is c.map_lines.ensures

pub returns-in-Generate : goal.returns-in-Generate
returns-in-Generate g c =
    let told = c.write_told-in-Generate.ensures in
    let request = map_made (run_of c.in-Generate.script) c.in-Generate.count c.in-Generate.seed in
    rw c.in-Generate.is (told_answered request _ (λ reads. reads) (told.written request c.summary.ensures) told.cause told.write_told (refl, refl))

pub returns-in-Check : goal.returns-in-Check
returns-in-Check g c =
    let told = c.write_told-in-Check.ensures in
    let request = tell_kinds c.in-Check.text c.in-Check.warnings c.in-Check.kind c.in-Check.known c.in-Check.envelope in
    rw c.in-Check.is (told_answered request _ (λ reads. reads) (told.written request c.kinds.ensures) told.cause told.write_told (refl, refl))
