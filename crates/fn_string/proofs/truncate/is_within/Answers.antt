use Rattle.std.proofs.Common.{◌==◌, ◌∙◌, ap, length}
use Rattle.fn_string.proofs.Cuts.{is_within}
use Rattle.fn_string.proofs.truncate.is_within.Goals as goal

pub returns : goal.returns
returns c = c.is_empty.ensures ∙ ap (λ s. length s == 0) c.from_character.ensures ∙ is_within c.args.limit c.args.text.now
