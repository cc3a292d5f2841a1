use Rattle.std.proofs.Common.{◌∙◌}
use Rattle.regex.specs.Locations.{location}
use Rattle.vrl_pattern.proofs.Read.{group_more}
use Rattle.vrl_pattern.proofs.matching.groups_in.Goals as goal

pub loop-number-preserved : goal.loop-number-preserved
loop-number-preserved c =
    group_more (location c.args.locations.now) c.loop-number.number _ _ c.place_of.result c.in_ok-push.ensures.items (c.place_of.ensures ∙ c.get.ensures) c.loop-number.invariant
