use Rattle.std.proofs.Common.{◌≤◌, length, sym, ◌∙◌, arith}
use Rattle.std.proofs.lemmas.Bool.{ltb-true}
use Rattle.std.proofs.lemmas.Bool.Decides.{nat_tests}
use Rattle.vrl_kind.specs.KindTree.{KindTree}
use Rattle.vrl_kind.proofs.Slices.{place_known, place_beyond, place_nodes}
use Rattle.vrl_kind.proofs.seen.SeenList.place.Goals as goal

pub returns-in-Some-clause-kind : goal.returns-in-Some-clause-kind
returns-in-Some-clause-kind c = c.of.ensures.tree ∙ place_known _ _ _ _ (ltb-true _ _ (sym c.in-Some.ensures.lookup.0)) c.in-Some.ensures.lookup.1

pub returns-in-Some-clause-lighter : goal.returns-in-Some-clause-lighter
returns-in-Some-clause-lighter c = omega (arith, c.of.ensures.nodes, place_nodes c.args.self.places.now c.args.at c.in-Some.kind.now (ltb-true _ _ (sym c.in-Some.ensures.lookup.0)) c.in-Some.ensures.lookup.1)

pub returns-in-None-clause-kind : goal.returns-in-None-clause-kind
returns-in-None-clause-kind c =
    let above : length {A = KindTree} c.args.self.places.now ≤ c.args.at = grind (arith, nat_tests, c.in-None.ensures.lookup.0) in
    c.of_rest.ensures.tree ∙ sym (place_beyond _ _ _ above)
