use Rattle.std.proofs.Common.{◌≡◌, false, MatchOption, None, Some, ap, sym, subst, ◌∙◌}
use Rattle.vrl_kind.specs.Canonical.{ListIsCanonical, ObjectIsCanonical}
use Rattle.vrl_kind.specs.Fields.{IsTaken, knows_field}
use Rattle.vrl_kind.specs.KindTree.{kind, KindTree}
use Rattle.vrl_kind.specs.View.{list_of, object_of, rest_of}
use Rattle.vrl_kind.proofs.Placing.{canonical_one, one_taken}
use Rattle.vrl_kind.proofs.kind.Kind.take_field.Goals as goal
use Rattle.vrl_kind.proofs.kind.Kind.take_field.Goals.{in-None, in-Some}

pub invariant_of-self : goal.invariant_of-self
invariant_of-self c = elim c.match-self.branch [
  | in-None w ↦ subst (λ i. ListIsCanonical (list_of i.list) × ObjectIsCanonical (object_of i.object)) (sym w.self-inside-is) c.self.invariant
  | in-Some w ↦
      let all : ObjectIsCanonical (object_of (Some w.in-Some.part)) = subst (λ o. ObjectIsCanonical (object_of o)) w.in-Some.is c.self.invariant.1 in
      subst (λ i. ListIsCanonical (list_of i.list) × ObjectIsCanonical (object_of i.object)) (sym w.self-inside-is)
      (c.self.invariant.0, canonical_one c.args.name.now w.take_known.result w.in-Some.part.fields.fields.items w.take_known.new.fields.items (rest_of w.in-Some.part.rest) w.take_known.ensures all)
]

pub returns : goal.returns
returns c =
    let s = c.self.inside.scalars in
    let l = list_of c.self.inside.list in
    let n = c.args.name.now in
    elim c.match-self.branch [
      | in-None w ↦
          let was : kind s l (object_of None) ≡ c.args.self.now = ap (λ o. kind s l (object_of o)) (sym w.in-None.is) ∙ c.self.view_is in
          subst (λ r. MatchOption r ((kind c.match-self.self-inside.scalars (list_of c.match-self.self-inside.list) (object_of c.match-self.self-inside.object) ≡ c.args.self.now) × (knows_field n c.args.self.now ≡ false))
          (IsTaken n c.args.self.now (kind c.match-self.self-inside.scalars (list_of c.match-self.self-inside.list) (object_of c.match-self.self-inside.object)))) (sym w.result-is)
          (ap (λ i. kind i.scalars (list_of i.list) (object_of i.object)) w.self-inside-is ∙ c.self.view_is, ap (knows_field n) (sym was))
      | in-Some w ↦
          let fs = w.in-Some.part.fields.fields.items in
          let was : kind s l (object_of (Some w.in-Some.part)) ≡ c.args.self.now = ap (λ o. kind s l (object_of o)) (sym w.in-Some.is) ∙ c.self.view_is in
          subst (λ r. MatchOption r ((kind c.match-self.self-inside.scalars (list_of c.match-self.self-inside.list) (object_of c.match-self.self-inside.object) ≡ c.args.self.now) × (knows_field n c.args.self.now ≡ false))
          (IsTaken n c.args.self.now (kind c.match-self.self-inside.scalars (list_of c.match-self.self-inside.list) (object_of c.match-self.self-inside.object)))) (sym w.result-is)
          (subst (λ i. MatchOption w.take_known.result ((kind i.scalars (list_of i.list) (object_of i.object) ≡ c.args.self.now) × (knows_field n c.args.self.now ≡ false))
          (IsTaken n c.args.self.now (kind i.scalars (list_of i.list) (object_of i.object)))) (sym w.self-inside-is)
          (subst (λ (T : KindTree). MatchOption w.take_known.result ((kind s l (object_of (Some (record w.in-Some.part { fields = record { fields = w.take_known.new.fields } }))) ≡ T) × (knows_field n T ≡ false))
          (IsTaken n T (kind s l (object_of (Some (record w.in-Some.part { fields = record { fields = w.take_known.new.fields } })))))) was
          (one_taken n w.take_known.result s l fs w.take_known.new.fields.items (rest_of w.in-Some.part.rest) w.take_known.ensures)))
    ]
