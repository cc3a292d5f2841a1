use Rattle.std.proofs.Common.{[], subst, sym}
use Rattle.vrl_token.specs.Faults.{name_path}
use Rattle.vrl_token.specs.Words.{IsFreeName}
use Rattle.vrl_token.proofs.PathCuts.{path_is}
use Rattle.vrl_token.proofs.Walks.{nothing_walked, something_walked}
use Rattle.vrl_token.proofs.names.cut_name.Goals as goal

pub returns-then-rest-behind : goal.returns-then-rest-behind
returns-then-rest-behind c = λ text before free plain.
    let walk = c.in_ok-rest.ensures [] c.new-found.ensures in
    (subst (λ n. IsFreeName text n c.args.behind.now) (sym c.in_ok-name.ensures) free, plain, c.requires, nothing_walked _ _ walk.0 walk.1 c.if-rest-behind.true)

pub returns : goal.returns
returns c = λ text before free plain.
    let walk = c.in_ok-rest.ensures [] c.new-found.ensures in
    let some = something_walked _ _ walk.0 walk.1 c.if-rest-behind.false in
    path_is {before = before} _ _ _ _ (c.into_path-path.ensures walk.0 walk.2) c.path_cut.ensures
    (λ steps. (c.args.behind.now, walk.0, subst (λ n. IsFreeName text n c.args.behind.now) (sym c.in_ok-name.ensures) free, walk.1, some, steps))
    (λ code flaw. name_path c.args.name.now c.args.behind.now walk.0 free walk.1 some flaw)
