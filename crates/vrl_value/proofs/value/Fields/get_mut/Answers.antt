use Rattle.std.proofs.Common.{refl, ap, ◌∙◌, option_map}
use Rattle.vrl_value.specs.View.{tree_of}
use Rattle.vrl_value.proofs.Changes.{members_of-set_value, members_of-same, on_some}
use Rattle.vrl_value.proofs.Find.{tree_of-get, tree_of-now_mut}
use Rattle.vrl_value.proofs.value.Fields.get_mut.Goals as goal

pub returns : goal.returns
returns c = (
  (
    refl,
    λ w. on_some c.get_mut.result _ (members_of-set_value c.args.self.now (c.get_mut.follows.lender w) c.args.name.now w (c.get_mut.follows.holds w).0),
    members_of-same c.args.self.now c.get_mut.follows.lender-at-none c.get_mut.follows.holds-at-none,
  ),
  tree_of-now_mut c.get_mut.result ∙ ap (option_map tree_of) c.get_mut.ensures.value ∙ tree_of-get c.args.name.now c.args.self.now,
)
