use Rattle.std.proofs.Common.{◌++◌, length, ap, ◌∙◌, subst, arith}
use Rattle.std.specs.Vec.Iter.{into_iter_items}
use Rattle.vrl_batch.proofs.Chunks.{joins-more}
use Rattle.vrl_batch.specs.Outs.{Joins}
use Rattle.vrl_batch.proofs.mapping.joined.Goals as goal

pub loop-part-preserved : goal.loop-part-preserved
loop-part-preserved c =
    let l = c.loop-part in
    let steps = c.in-Some.ensures.steps in
    let next = subst (λ rest. Joins c.args.parts.items rest l.all.items) steps.0 l.invariant.0 in (
      joins-more c.args.parts.items (into_iter_items c.next.new.self) c.in-Some.part c.in_ok-part.field-0 l.all.items c.append.new.self.items next c.in_ok-part.was
          (c.in_ok-append.ensures.items ∙ ap (λ x. l.all.items ++ x) c.into_vec.ensures),
      let gone = steps.1 in
          let was = l.invariant.1 in
          let short = ap length steps.0 in
          omega arith,
    )
