use Rattle.std.proofs.Common.{◌≡◌, ◌∙◌, ap, refl, subst, rules}
use Rattle.vrl_syntax.specs.Tree.{Script}
use Rattle.vrl_syntax.specs.View.{exprs_of}
use Rattle.vrl_parse.specs.Descent.{program_of, refused, Runs, script, took}
use Rattle.vrl_parse.specs.FirstWords.{OnRefusal, words_left}
use Rattle.vrl_parse.specs.Reading.{sources_of}
use Rattle.vrl_word.specs.Words.{words_from}
use Rattle.vrl_parse.proofs.Ends.{on_fault, read_all, refusal_told, rest_told, wrong_path}
use Rattle.vrl_parse.proofs.LimitCodes.{wrong_code}
use Rattle.vrl_parse.proofs.Numbered.{script_is_numbered}
use Rattle.vrl_parse.proofs.reading.parse.Goals as goal

pub returns-in-Err-clause-fault : goal.returns-in-Err-clause-fault
returns-in-Err-clause-fault c =
    let tokens = c.args.tokens.now in
    let start : words_left c.new-parser.result ≡ words_from 0 tokens.tokens = c.new-parser.ensures ∙ ap (words_from 0) c.as_slice-words.ensures in
    let run = subst (λ ws. OnRefusal (Runs script (program_of script) ws (refused (words_left c.script.new.self))) c.in-Err.stop) start c.in-Err.ensures.refuses in
    refusal_told tokens c.in-Err.stop (words_left c.script.new.self) c.end.ensures c.place.ensures c.told.ensures run

pub returns-then-not-is_done-clause-fault : goal.returns-then-not-is_done-clause-fault
returns-then-not-is_done-clause-fault c =
    let tokens = c.args.tokens.now in
    let start : words_left c.new-parser.result ≡ words_from 0 tokens.tokens = c.new-parser.ensures ∙ ap (words_from 0) c.as_slice-words.ensures in
    let run = subst (λ ws. Runs script (program_of script) ws (took (exprs_of c.in-Ok.items) (words_left c.script.new.self))) start c.in-Ok.ensures.takes in
    rest_told tokens _ (words_left c.script.new.self) c.end-then-not-is_done.ensures c.place-then-not-is_done.ensures c.told-then-not-is_done.ensures (c.is_done.ensures.no (search rules)) run

pub returns-in-Some-clause-fault : goal.returns-in-Some-clause-fault
returns-in-Some-clause-fault c =
    let tokens = c.args.tokens.now in
    let start : words_left c.new-parser.result ≡ words_from 0 tokens.tokens = c.new-parser.ensures ∙ ap (words_from 0) c.as_slice-words.ensures in
    let run = subst (λ ws. Runs script (program_of script) ws (took (exprs_of c.in-Ok.items) (words_left c.script.new.self))) start c.in-Ok.ensures.takes in
    let s : Script = record { items = exprs_of c.in-Ok.items; patterns = sources_of tokens.tokens } in
    wrong_path tokens s _ _ (read_all tokens.tokens s _ (c.is_done.ensures.yes (search rules)) run refl) c.in-Some.is c.in_ok-fault.ensures

pub returns-clause-script : goal.returns-clause-script
returns-clause-script c =
    let ts = c.args.tokens.now.tokens in
    let start : words_left c.new-parser.result ≡ words_from 0 ts = c.new-parser.ensures ∙ ap (words_from 0) c.as_slice-words.ensures in
    let run = subst (λ ws. Runs script (program_of script) ws (took (exprs_of c.in-Ok.items) (words_left c.script.new.self))) start c.in-Ok.ensures.takes in
    read_all ts _ _ (c.is_done.ensures.yes (search rules)) run (c.in_ok-patterns.ensures ∙ ap sources_of c.as_slice-words.ensures)

pub returns-clause-regexes : goal.returns-clause-regexes
returns-clause-regexes c = script_is_numbered c.args.tokens.now.tokens _ (returns-clause-script c)

pub returns-in-Err-clause-codes : goal.returns-in-Err-clause-codes
returns-in-Err-clause-codes c = on_fault _ _ _ (wrong_code c.args.tokens.now) (returns-in-Err-clause-fault c)

pub returns-then-not-is_done-clause-codes : goal.returns-then-not-is_done-clause-codes
returns-then-not-is_done-clause-codes c = on_fault _ _ _ (wrong_code c.args.tokens.now) (returns-then-not-is_done-clause-fault c)

pub returns-in-Some-clause-codes : goal.returns-in-Some-clause-codes
returns-in-Some-clause-codes c = wrong_code c.args.tokens.now _ (returns-in-Some-clause-fault c)
