use Rattle.std.proofs.Common.{◌≡◌, rules, subst, sym}
use Rattle.vrl_state.specs.Known.{root_kinds}
use Rattle.vrl_state.specs.RootLists.{IsRootList}
use Rattle.vrl_state.proofs.Listed.{root_list}
use Rattle.vrl_state.proofs.roots.KnownRoots.list.Goals as goal

pub new-requires : goal.new-requires
new-requires c =
    let is : c.add_to.new.roots.items ≡ root_kinds c.args.self.now = search rules in
    subst IsRootList (sym is) (root_list c.args.self.now c.have_root_kinds.ensures)
