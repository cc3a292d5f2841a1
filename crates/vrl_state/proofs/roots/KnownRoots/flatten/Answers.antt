use Rattle.std.proofs.Common.{sym, ap, ◌∙◌}
use Rattle.vrl_kind.specs.Cut.{flat}
use Rattle.vrl_state.specs.States.{with_kind}
use Rattle.vrl_state.proofs.Turning.{turned_put}
use Rattle.vrl_state.proofs.roots.KnownRoots.flatten.Goals as goal

pub returns-in_ok-put-in-Some : goal.returns-in_ok-put-in-Some
returns-in_ok-put-in-Some c =
    turned_put flat c.args.root.now c.in-Some.kind.now.value c.args.self.now c.put.new.self (sym c.in-Some.ensures.kind)
    (c.in_ok-put-in-Some.ensures.ok ∙ ap (λ M. with_kind c.args.root.now M c.args.self.now) c.in_ok-outer-in-Some.ensures)
