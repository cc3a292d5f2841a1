use Rattle.std.proofs.Common.{rules, ◌≡◌, false, true}
use Rattle.std.proofs.lemmas.Result.{IfOk-weaker}
use Rattle.remap_words.specs.Uses.{has_short}
use Rattle.remap_words.specs.View.{invocation_of, texts}
use Rattle.remap_words.proofs.Meaning.{means_in_bounds, short_refused, words_read, words_refused}
use Rattle.remap_words.proofs.read.read_words.Goals as goal

pub returns-then-has_short_option-clause-refused : goal.returns-then-has_short_option-clause-refused
returns-then-has_short_option-clause-refused c = λ is.
    let has : has_short (texts c.args.words.now) ≡ true = search rules in
    short_refused (texts c.args.words.now) has

pub returns-clause-read : goal.returns-clause-read
returns-clause-read c =
    let words = texts c.args.words.now in
    let free : has_short words ≡ false = search rules in
    words_read words c.matches_of.result c.answer.result (c.matches_of.ensures.given free) c.answer.ensures.ok c.answer.ensures.err

pub returns-clause-bounds : goal.returns-clause-bounds
returns-clause-bounds c =
    let words = texts c.args.words.now in
    let free : has_short words ≡ false = search rules in
    IfOk-weaker c.answer.result _ _ (λ i is. means_in_bounds words (invocation_of i) is)
    (words_read words c.matches_of.result c.answer.result (c.matches_of.ensures.given free) c.answer.ensures.ok c.answer.ensures.err)

pub returns-clause-refused : goal.returns-clause-refused
returns-clause-refused c =
    let words = texts c.args.words.now in
    let free : has_short words ≡ false = search rules in
    words_refused words c.matches_of.result c.answer.result (c.matches_of.ensures.given free) (c.matches_of.ensures.refused free) c.answer.ensures.ok c.answer.ensures.err
