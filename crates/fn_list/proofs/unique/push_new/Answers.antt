use Rattle.std.proofs.Common.{map}
use Rattle.vrl_value.specs.View.{tree_of}
use Rattle.fn_list.specs.declared.key.Key.{Key}
use Rattle.fn_list.proofs.Found.{longer, one_more}
use Rattle.fn_list.proofs.unique.push_new.Goals as goal

pub returns-in_ok-push-clause-seen : goal.returns-in_ok-push-clause-seen
returns-in_ok-push-clause-seen c =
    let kept = c.args.kept.now.items in
    let added : Key = record { value = c.args.item } in
    one_more c.args.seen.now c.insert.new.self added (map tree_of kept) (map tree_of c.push.new.self.items) c.in_ok-insert.ensures.updates c.requires
    (longer kept c.push.new.self.items _ (tree_of c.args.item.now) c.in_ok-push.ensures.items c.in_ok-copy.ensures.equal)
