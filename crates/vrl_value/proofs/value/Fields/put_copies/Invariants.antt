use Rattle.std.proofs.Common.{◌≡◌}
use Rattle.vrl_value.specs.Tree.{put_all}
use Rattle.vrl_value.specs.View.{members_of, members_view}
use Rattle.vrl_value.proofs.value.Fields.put_copies.Given as goal

-- to put what is left is, from here, to put all
abbrev pub invariant-loop-name : goal.invariant-loop-name
invariant-loop-name l = put_all (members_view l.name-iterator) (members_of l.self) ≡ put_all (members_of l.others) (members_of l.initial.self)
