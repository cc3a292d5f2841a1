use Rattle.std.proofs.Common.{◌+◌, add-one, refl, ◌∙◌, arith}
use Rattle.std.proofs.lemmas.Grind.{common_steps}
use Rattle.vrl_pattern.proofs.BuiltOf.{numbers_go_on, built_so_far}
use Rattle.vrl_pattern.proofs.building.Building.of.Goals as goal

pub loop-number-preserved : goal.loop-number-preserved
loop-number-preserved c =
    let n = c.loop-number.number in
    let source = c.as_str.result.now in
    let it = c.index-sources-number.result in
    let is = c.as_str.ensures ∙ c.index-sources-number.is in (
      numbers_go_on c.args.sources.now n (n + 1) source it _ _ (add-one n) c.loop-number-test.true is c.in_ok-add.ensures.malformed c.loop-number.invariant.0,
      built_so_far c.args.sources.now n (n + 1) source it _ _ _ _ refl c.loop-number-test.true is c.in_ok-add.ensures.malformed c.in_ok-add.ensures.regexes c.loop-number.invariant.1,
    )

pub returns-clause-malformed : goal.returns-clause-malformed
returns-clause-malformed c = grind (arith, common_steps)

pub returns-clause-regexes : goal.returns-clause-regexes
returns-clause-regexes c = grind (arith, common_steps)
