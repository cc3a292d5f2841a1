use Rattle.std.proofs.Common.{rules, ◌≡◌, ◌∷◌}
use Rattle.fn_parse.specs.Quotes.{closing_place}
use Rattle.fn_parse.proofs.Quoted.{from_start, next_whole, next_within}
use Rattle.fn_parse.proofs.quotes.closing_place.Goals as goal

pub loop-first-init : goal.loop-first-init
loop-first-init c = record { within = search rules; whole = from_start c.args.text.now }

pub loop-first-preserved : goal.loop-first-preserved
loop-first-preserved c =
    let left = c.loop-first.left.now in
    let is : left ≡ c.in-Some.first.now ∷ c.in-Some.rest.now = search rules in
    let apart = c.if-first-eq34.false in record {
      within = next_within c.in-Some.first.now _ left c.in-Some.rest.now c.behind_unit-left.result.now is c.behind_unit-left.ensures c.loop-first.invariant.within;
      whole = next_whole c.in-Some.first.now _ left c.in-Some.rest.now c.behind_unit-left.result.now (closing_place c.args.text.now) apart is c.behind_unit-left.ensures c.loop-first.invariant.within c.loop-first.invariant.whole;
    }
