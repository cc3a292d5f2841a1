use Rattle.std.proofs.Common.{[]}
use Rattle.vrl_token.specs.Faults.{suffix}
use Rattle.vrl_token.proofs.PathCuts.{path_is}
use Rattle.vrl_token.proofs.Walks.{nothing_walked, something_walked}
use Rattle.vrl_token.proofs.names.cut_suffix.Goals as goal

pub returns-then-rest-text : goal.returns-then-rest-text
returns-then-rest-text c = let walk = c.in_ok-rest.ensures [] c.new-found.ensures in nothing_walked _ _ walk.0 walk.1 c.if-rest-text.true

pub returns : goal.returns
returns c = λ before closes.
    let walk = c.in_ok-rest.ensures [] c.new-found.ensures in
    let some = something_walked _ _ walk.0 walk.1 c.if-rest-text.false in
    path_is _ _ _ _ (c.into_path-path.ensures walk.0 walk.2) c.path_cut.ensures (λ steps. (walk.0, closes, walk.1, some, steps)) (λ code flaw. suffix walk.0 closes walk.1 some flaw)
