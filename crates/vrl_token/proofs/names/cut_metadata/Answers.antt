use Rattle.vrl_token.specs.Faults.{metadata_path}
use Rattle.vrl_token.proofs.PathCuts.{path_is}
use Rattle.vrl_token.proofs.names.cut_metadata.Goals as goal

pub returns : goal.returns
returns c = λ before.
    let walk = c.in_ok-path.ensures 37 in
    path_is {before = before} _ _ _ _ walk.2 c.path_cut.ensures (λ steps. (walk.0, walk.1, steps)) (λ code flaw. metadata_path walk.0 walk.1 flaw)
