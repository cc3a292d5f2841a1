use Rattle.vrl_place.proofs.Near.{written_far}
use Rattle.vrl_place.proofs.far.write_far.Goals as goal

pub returns-clause-ok : goal.returns-clause-ok
returns-clause-ok c =
    written_far _ _ _ _ _ _ _ _ _ _ _ c.in_ok-stretches.ensures.stretches c.in_ok-stretches.ensures.levels
    c.deref.ensures.value c.in_ok-near.ensures c.deref-2.ensures.value c.in_ok-near_kind.ensures
    c.in_ok-write_in.ensures.ok c.kind_is_canonical.ensures c.deref-3.ensures.value c.in_ok-written.ensures
