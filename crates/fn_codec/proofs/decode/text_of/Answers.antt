use Rattle.std.proofs.Common.{rules, ◌≡◌, ◌∙◌, ap, refl, sym, string_bytes}
use Rattle.std.proofs.lemmas.Bool.{true≢false}
use Rattle.vrl_value.specs.Tree.{string}
use Rattle.vrl_value.specs.View.{tree_of}
use Rattle.vrl_value.specs.declared.value.Value.TheVariants.{Text}
use Rattle.vrl_value.specs.declared.value.Value.{the_lemmas}
use Rattle.vrl_builtin.specs.Rows.{value}
use Rattle.fn_codec.proofs.Texts.{no_text_is, text_is}
use Rattle.fn_codec.proofs.decode.text_of.Goals as goal

pub returns-in-Ok-clause-answer : goal.returns-in-Ok-clause-answer
returns-in-Ok-clause-answer c =
    let same : string_bytes c.in-Ok.text ≡ c.args.bytes.items = search rules in
    let seen : tree_of (Text c.new.result) ≡ string c.args.bytes.items = search (rules, the_lemmas) in
    λ words. text_is c.args.name.now words c.args.bytes.items c.in-Ok.text same ∙ ap value (sym seen)

pub returns-in-Err-clause-answer : goal.returns-in-Err-clause-answer
returns-in-Err-clause-answer c =
    λ words. rw (c.fail.ensures, no_text_is c.args.name.now words c.args.bytes.items (λ utf8. absurd (true≢false (sym (c.in-Err.ensures.succeeds utf8))))) refl
