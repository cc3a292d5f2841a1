use Rattle.vrl_token.specs.Faults.{event_path}
use Rattle.vrl_token.proofs.PathCuts.{path_is}
use Rattle.vrl_token.proofs.names.cut_event.Goals as goal

pub returns : goal.returns
returns c = λ before apart.
    let walk = c.in_ok-path.ensures 46 in
    path_is _ _ _ _ walk.2 c.path_cut.ensures (λ steps. (walk.0, walk.1, steps, apart)) (λ code flaw. event_path walk.0 walk.1 apart flaw)
