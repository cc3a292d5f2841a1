use Rattle.std.proofs.Common.{◌||◌, [], sym, ap, ◌∙◌}
use Rattle.vrl_kind.specs.Kinds.{rest_at}
use Rattle.vrl_kind.specs.View.{rest_of}
use Rattle.vrl_builtin.proofs.OtherParts.{known_any}
use Rattle.vrl_builtin.proofs.part_tags.places_allow.Goals as goal

pub returns-then-known_allow : goal.returns-then-known_allow
returns-then-known_allow c = ap (λ b. b || rest_at (rest_of c.args.rest.now) [] c.args.tag) (sym c.if-known_allow.true ∙ c.known_allow.ensures ∙ known_any c.args.places.now c.args.tag)

pub returns : goal.returns
returns c = c.rest_allows.ensures ∙ ap (λ b. b || rest_at (rest_of c.args.rest.now) [] c.args.tag) (sym c.if-known_allow.false ∙ c.known_allow.ensures ∙ known_any c.args.places.now c.args.tag)
