use Rattle.std.proofs.Common.{ap, ◌∙◌}
use Rattle.std.proofs.lemmas.Result.{IfOk-weaker}
use Rattle.vrl_kind.specs.KindTree.{KindTree}
use Rattle.vrl_kind.specs.Kinds.{tags_at}
use Rattle.vrl_kind.specs.Make.{array_kind}
use Rattle.vrl_kind.specs.View.{places_view, rest_of}
use Rattle.fn_list.proofs.Widening.{widely_told}
use Rattle.fn_list.proofs.places.widened.Goals as goal

pub returns : goal.returns
returns c =
    IfOk-weaker c.list.result _ _
    (λ (kind : KindTree) same.
    widely_told c.args.with.now c.args.places.now c.in_ok-kinds.kinds.items (rest_of c.args.rest.now) c.in_ok-behind.behind c.in_ok-own.own kind c.in_ok-kinds.ensures c.in_ok-behind.ensures c.in_ok-own.ensures.union
    (λ p t. same p t ∙ ap (λ r. tags_at (array_kind (places_view c.in_ok-kinds.kinds.items) r) p t) c.in_ok-rest.ensures))
    c.list.ensures
