use Rattle.std.proofs.Common.{All, sym, subst, ◌∙◌}
use Rattle.std.proofs.lemmas.List.{get_or_default}
use Rattle.std.specs.List.{range_with_len}
use Rattle.regex.specs.Locations.{location_count}
use Rattle.vrl_pattern.specs.Places.{AreParts}
use Rattle.vrl_pattern.proofs.Parts.{all_are_parts}
use Rattle.vrl_pattern.proofs.matching.places.Goals as goal

pub returns-clause-within : goal.returns-clause-within
returns-clause-within c =
    let text = c.args.text.now in
    let groups = range_with_len 0 (location_count c.args.locations.now) in
    subst (All (AreParts text)) (sym (c.new.ensures ∙ c.in_ok-found.ensures.found))
    (all_are_parts c.args.matcher.now text c.utf8.text
    (λ k d h. rw (get_or_default text k d 0 h) ((c.type_inv.text k).fits)) c.args.most groups)
