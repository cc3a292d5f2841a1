use Rattle.std.proofs.Common.{refl}
use Rattle.vrl_value.specs.declared.value.Tag.TheVariants as tag
use Rattle.vrl_kindfile.proofs.Words.{json_word, no_container, tag_word}
use Rattle.vrl_kindfile.proofs.word.word_kind.Goals as goal

pub returns-in-string : goal.returns-in-string
returns-in-string c = tag_word _ _ tag.Text _ c.in-string.is refl refl (no_container tag.Text refl refl) c.of.ensures

pub returns-in-integer : goal.returns-in-integer
returns-in-integer c = tag_word _ _ tag.Int _ c.in-integer.is refl refl (no_container tag.Int refl refl) c.of-in-integer.ensures

pub returns-in-boolean : goal.returns-in-boolean
returns-in-boolean c = tag_word _ _ tag.Bool _ c.in-boolean.is refl refl (no_container tag.Bool refl refl) c.of-in-boolean.ensures

pub returns-in-null : goal.returns-in-null
returns-in-null c = tag_word _ _ tag.Null _ c.in-null.is refl refl (no_container tag.Null refl refl) c.of-in-null.ensures

pub returns-in-json : goal.returns-in-json
returns-in-json c = json_word _ _ c.in-json.is c.json.ensures.tags
