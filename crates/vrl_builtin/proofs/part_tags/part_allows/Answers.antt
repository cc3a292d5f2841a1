use Rattle.std.proofs.Common.{◌||◌, [], sym, ap, ◌∙◌}
use Rattle.vrl_kind.specs.Kinds.{rest_at}
use Rattle.vrl_kind.specs.PartSets.{known_places_at}
use Rattle.vrl_kind.specs.View.{places_of, rest_of}
use Rattle.vrl_builtin.proofs.OtherParts.{absent_part, no_part, some_part}
use Rattle.vrl_builtin.proofs.part_tags.part_allows.Goals as goal

pub returns-then-is_absent : goal.returns-then-is_absent
returns-then-is_absent c = absent_part c.args.kind.now c.args.tag (sym c.is_absent.ensures ∙ c.if-is_absent.true)

pub returns-in-None : goal.returns-in-None
returns-in-None c = no_part c.args.kind.now c.args.tag c.in-None.ensures

pub returns-in-Some : goal.returns-in-Some
returns-in-Some c =
    c.places_allow.ensures ∙ ap (λ ps. known_places_at ps [] c.args.tag || rest_at (rest_of c.in-Some.rest.now) [] c.args.tag) c.as_slice.ensures
    ∙ some_part c.args.kind.now c.args.tag (places_of c.in-Some.places.now) (rest_of c.in-Some.rest.now) c.in-Some.ensures (sym c.is_absent.ensures ∙ c.if-is_absent.false)
