use Rattle.std.proofs.Common.{sym, ap, ◌∙◌}
use Rattle.vrl_kind.specs.Kinds.{or_absent, root_tags, tags_at}
use Rattle.vrl_judge.proofs.CollectionKinds.{part_gone, part_put, part_stays}
use Rattle.vrl_judge.proofs.closures.mapped_part.Goals as goal

pub returns-then-has_alone-clause-put : goal.returns-then-has_alone-clause-put
returns-then-has_alone-clause-put c =
    λ p t. ap (λ T. T t) (c.of.ensures p) ∙ part_gone (root_tags c.args.part.now) c.args.body.now (sym c.has_alone.ensures ∙ c.if-has_alone.true) p t

pub returns-then-has-clause-put : goal.returns-then-has-clause-put
returns-then-has-clause-put c = λ p t.
    c.or_absent.ensures p t ∙ ap (λ K. or_absent p (tags_at K p) t) c.in_ok-kind.ensures
    ∙ part_put (root_tags c.args.part.now) c.args.body.now (sym c.has_alone.ensures ∙ c.if-has_alone.false) (sym c.has.ensures ∙ c.if-has.true) p t

pub returns-else-has-clause-put : goal.returns-else-has-clause-put
returns-else-has-clause-put c = λ p t.
    ap (λ K. tags_at K p t) c.in_ok-kind.ensures ∙ part_stays (root_tags c.args.part.now) c.args.body.now (sym c.has_alone.ensures ∙ c.if-has_alone.false) (sym c.has.ensures ∙ c.if-has.false) p t
