use Rattle.std.proofs.Common.{◌≡◌, OnOk, Some, ap, sym, subst, ◌∙◌}
use Rattle.std.proofs.lemmas.Result.{on_ok_weaker}
use Rattle.vrl_kind.specs.Fields.{put_at}
use Rattle.vrl_kind.specs.KindTree.{kind}
use Rattle.vrl_kind.specs.Kinds.{tags_at}
use Rattle.vrl_kind.specs.Sets.{SameSets}
use Rattle.vrl_kind.specs.View.{list_of, object_of}
use Rattle.vrl_kind.proofs.Placing.{kind_put, not_objects}
use Rattle.vrl_kind.proofs.kind.Kind.put_field.Goals as goal
use Rattle.vrl_kind.proofs.kind.Kind.put_field.Goals.{in-None, in-Some}

pub returns-clause-put : goal.returns-clause-put
returns-clause-put c =
    let s = c.self.inside.scalars in
    let l = list_of c.self.inside.list in
    let old = c.args.self.now in
    elim c.match-self.branch [
      | in-None w ↦ not_objects s l old _ (ap (λ o. kind s l (object_of o)) (sym w.in-None.is) ∙ c.self.view_is) c.requires
      | in-Some w ↦
          let put = put_at c.args.name.now (tags_at c.args.kind) in
          let before = object_of (Some w.in-Some.part) in
          let after = object_of (Some w.put_in.new.part) in
          let was : kind s l before ≡ old = ap (λ o. kind s l (object_of o)) (sym w.in-Some.is) ∙ c.self.view_is in
          subst (λ r. OnOk r (SameSets (tags_at (kind c.match-self.self-inside.scalars (list_of c.match-self.self-inside.list) (object_of c.match-self.self-inside.object))) (put (tags_at old)))) (sym w.result-is)
          (subst (λ i. OnOk w.put_in.result (SameSets (tags_at (kind i.scalars (list_of i.list) (object_of i.object))) (put (tags_at old)))) (sym w.self-inside-is)
          (on_ok_weaker w.put_in.result (λ is. subst (λ T. SameSets (tags_at (kind s l after)) (put (tags_at T))) was (kind_put c.args.name.now c.args.kind s l before after is)) w.put_in.ensures.put))
    ]
