use Rattle.remap_call.proofs.Requests.{declared_with, declared_without, refused_with}
use Rattle.remap_call.proofs.asking.declared_kind.Goals as goal

pub returns-in-Some : goal.returns-in-Some
returns-in-Some c =
    rw (c.in-Some.is, ← c.as_slice.ensures)
    (record {
      kind = declared_with c.as_slice.result.now c.read_kind_file.result c.read_kind_file.ensures.kind;
      refused = refused_with c.as_slice.result.now c.read_kind_file.result c.read_kind_file.ensures.refused;
    })

pub returns-in-Ok-clause-kind : goal.returns-in-Ok-clause-kind
returns-in-Ok-clause-kind c = rw c.in-None.is (declared_without _ c.in-Ok.ensures)
