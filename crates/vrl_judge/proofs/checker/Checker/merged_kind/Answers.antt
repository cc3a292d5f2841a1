use Rattle.std.proofs.Common.{◌&&◌, sym, ap, ap₂, ◌∙◌}
use Rattle.vrl_kind.specs.Overlay.{overlaid_at}
use Rattle.std.proofs.lemmas.Result.{IfOk-weaker}
use Rattle.vrl_kind.specs.Kinds.{root_tags}
use Rattle.vrl_place.specs.Sets.{is_alone}
use Rattle.vrl_judge.proofs.Forms.{not_merged, overlaid_merged}
use Rattle.vrl_value.specs.declared.value.Tag.TheVariants as tag
use Rattle.vrl_judge.proofs.checker.Checker.merged_kind.Goals as goal

pub returns-then-not-is_exactly : goal.returns-then-not-is_exactly
returns-then-not-is_exactly c =
    let left = sym c.is_exactly.ensures ∙ c.if-not-is_exactly.true in
    IfOk-weaker c.any.result _ _ (λ kind is. not_merged c.args.left.now c.args.right.now kind (ap (λ b. b && is_alone (root_tags c.args.right.now) tag.Object) left) is) c.any.ensures.tree

pub returns-then-not-is_exactly-2 : goal.returns-then-not-is_exactly-2
returns-then-not-is_exactly-2 c =
    let left = sym c.is_exactly.ensures ∙ c.if-not-is_exactly.false in
    let right = sym c.is_exactly-2.ensures ∙ c.if-not-is_exactly-2.true in
    IfOk-weaker c.any-then-not-is_exactly-2.result _ _ (λ kind is. not_merged c.args.left.now c.args.right.now kind (ap₂ (λ a b. a && b) left right) is) c.any-then-not-is_exactly-2.ensures.tree

pub returns : goal.returns
returns c =
    let left = sym c.is_exactly.ensures ∙ c.if-not-is_exactly.false in
    let right = sym c.is_exactly-2.ensures ∙ c.if-not-is_exactly-2.false in
    IfOk-weaker c.cut.result _ _
    (λ kind is. overlaid_merged c.args.left.now c.args.right.now kind (ap₂ (λ a b. a && b) left right) (record { whole = c.in_ok-whole.whole; canonical = c.kind_is_canonical.ensures; tags = λ p t. c.in_ok-whole.ensures p t ∙ ap₂ (λ K L. overlaid_at K L p t) c.as_kind.ensures c.as_kind-2.ensures; cut = is }))
    c.cut.ensures.cases
