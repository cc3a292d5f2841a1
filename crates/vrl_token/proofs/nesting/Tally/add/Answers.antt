use Rattle.std.proofs.Common.{◌≡◌, length, rules}
use Rattle.vrl_token.proofs.Counts.{tally_more}
use Rattle.vrl_token.proofs.nesting.Tally.add.Goals as goal

pub returns : goal.returns
returns c before tally =
    let at : c.len-place.result ≡ length c.args.self.now.counts.items = search rules in
    tally_more _ _ _ _ _ _ _ _ tally at c.levels.ensures c.count.ensures.stretches c.count.ensures.counts c.in_ok-push.ensures.items c.in_ok-add.ensures
