use Rattle.std.proofs.Common.{◌∙◌, ap, drop}
use Rattle.vrl_token.proofs.Strays.{high_fault}
use Rattle.vrl_token.proofs.signs.cut_stray.Goals as goal

pub returns : goal.returns
returns c = λ before. high_fault before c.args.text.now _ _ c.requires.some c.requires.several (c.split_at.ensures.back ∙ ap (drop 1) c.as_bytes.ensures.value) c.left_behind_character.ensures
