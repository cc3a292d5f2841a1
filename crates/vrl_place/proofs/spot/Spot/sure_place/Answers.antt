use mir.Syntax.{w64}
use mir.Val.{SFits}
use Rattle.std.proofs.Common.{ℕ, rules, sym, ap, ◌∙◌}
use Rattle.std.proofs.lemmas.Bool.{true≢false}
use Rattle.std.proofs.lemmas.Int.{to_z-of_z}
use Rattle.vrl_path.specs.Read.{place_of}
use Rattle.vrl_place.specs.FromEnd.{HasLength}
use Rattle.vrl_place.specs.Inner.{spot_sets}
use Rattle.vrl_place.proofs.Lengths.{sure_if}
use Rattle.vrl_place.proofs.spot.Spot.sure_place.Goals as goal

pub returns-then-not-is_alone : goal.returns-then-not-is_alone
returns-then-not-is_alone c = λ j sure. true≢false (sym sure.alone ∙ sym c.is_alone.ensures ∙ c.if-not-is_alone.true)

pub returns-in-None : goal.returns-in-None
returns-in-None c =
    let none : (count : ℕ) → HasLength (spot_sets c.args.self) count → ⊥ = c.in-None.ensures in
    λ j sure. none sure.count sure.length

pub returns-in-Some : goal.returns-in-Some
returns-in-Some c =
    let fits : SFits w64 c.args.at = search rules in
    let has : HasLength (spot_sets c.args.self) c.in-Some.count = c.in-Some.ensures in
    sure_if c.index.result (spot_sets c.args.self) c.in-Some.count c.args.at (sym c.is_alone.ensures ∙ c.if-not-is_alone.false) has
    (c.index.ensures ∙ ap (place_of c.in-Some.count) (to_z-of_z w64 c.args.at fits))
