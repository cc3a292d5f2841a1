use Rattle.std.proofs.Common.{unwrap_or}
use Rattle.vrl_value.specs.Tree.{null}
use Rattle.vrl_path.specs.Read.{read_at}
use Rattle.vrl_kind.specs.Kinds.{tags_at}
use Rattle.vrl_place.proofs.Values.{read_inhabits}
use Rattle.vrl_place.proofs.laws.reads_are_of_their_cut.Goals as goal

pub returns : goal.returns
returns c = λ value path K M C has cut old.
    c.wider_kinds_hold_more.ensures (unwrap_or (read_at value path) null) M C (c.cuts_are_wider.ensures M C cut) (read_inhabits path value (tags_at K) (tags_at M) has old)
