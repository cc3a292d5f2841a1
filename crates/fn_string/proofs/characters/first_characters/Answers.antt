use Rattle.std.proofs.Common.{rules, ◌≡◌, ◌∙◌, ◌-◌, length, take}
use Rattle.fn_string.proofs.Cuts.{cut_is_boundary, front_is_first, rest_is_shorter}
use Rattle.fn_string.proofs.characters.first_characters.Goals as goal

pub overflow_sub-text : goal.overflow_sub-text
overflow_sub-text c = rest_is_shorter c.args.count c.args.text.now c.from_character-behind.result.now c.from_character-behind.ensures c.utf8.text

pub range-requires-clause-end_boundary : goal.range-requires-clause-end_boundary
range-requires-clause-end_boundary c = cut_is_boundary c.args.count c.args.text.now c.from_character-behind.result.now c.from_character-behind.ensures c.utf8.text c.from_character-behind.utf8

pub returns : goal.returns
returns c =
    let is : c.range.result.now ≡ take (length c.args.text.now - length c.from_character-behind.result.now) c.args.text.now = search rules in
    is ∙ front_is_first c.args.count c.args.text.now c.from_character-behind.result.now c.from_character-behind.ensures c.utf8.text
