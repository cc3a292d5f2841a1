use Rattle.std.proofs.Common.{◌≤◌, length, sym, ap, ◌∙◌, arith}
use Rattle.std.proofs.lemmas.Bool.{ltb-true}
use Rattle.std.proofs.lemmas.Bool.Decides.{nat_tests}
use Rattle.vrl_kind.specs.KindTree.{KindTree}
use Rattle.vrl_place.proofs.Changed.{beyond}
use Rattle.vrl_place.proofs.Views.{place_known}
use Rattle.vrl_place.proofs.places.Places.place.Goals as goal

pub returns-in-Some : goal.returns-in-Some
returns-in-Some c = λ p t. c.of.ensures p t ∙ ap (λ T. T t) (sym (place_known _ _ _ p _ (ltb-true _ _ (sym c.in-Some.ensures.lookup.0)) c.in-Some.ensures.lookup.1))

pub returns-in-None : goal.returns-in-None
returns-in-None c = λ p t.
    let above : length {A = KindTree} c.args.self.known.now ≤ c.args.at = grind (arith, nat_tests, c.in-None.ensures.lookup.0) in
    sym (beyond c.args.self c.args.at above p t)
