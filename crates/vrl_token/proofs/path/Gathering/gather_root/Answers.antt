use Rattle.std.proofs.Common.{[], ◌∷◌, refl}
use Rattle.vrl_token.proofs.Tested.{ok_weaker}
use Rattle.vrl_token.proofs.path.Gathering.gather_root.Goals as goal

pub returns-in_ok-add-in-Some : goal.returns-in_ok-add-in-Some
returns-in_ok-add-in-Some c =
    let cut = c.in-Some.ensures in
    ok_weaker c.gather.result (λ rest h sign gathered.
    let walk = h (cut.0 ∷ []) (c.in_ok-add-in-Some.ensures [] cut.0 gathered cut.1) in
    (cut.0 ∷ walk.0, (c.args.text.now, c.in-Some.next.now, refl, cut.2, walk.1), walk.2)) c.gather.ensures
