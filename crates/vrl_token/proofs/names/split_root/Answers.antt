use Rattle.vrl_token.proofs.names.split_root.Goals as goal

pub returns : goal.returns
returns c = λ sign.
    let walk = c.in_ok-rest.ensures sign c.new-found.ensures in
    (walk.0, walk.1, c.into_path-path.ensures walk.0 walk.2)
