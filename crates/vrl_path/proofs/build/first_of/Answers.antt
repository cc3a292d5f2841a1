use Rattle.std.proofs.Common.{◌≡◌, ◌-◌, rules, arith}
use Rattle.vrl_value.specs.Parts.{put_item}
use Rattle.vrl_value.specs.Tree.{no_items, null}
use Rattle.vrl_value.specs.View.{items_of, tree_of}
use Rattle.vrl_value.specs.declared.value.Value.{the_lemmas}
use Rattle.vrl_path.proofs.Places.{nulls_made}
use Rattle.vrl_path.proofs.build.first_of.Goals as goal

pub returns : goal.returns
returns c =
    let value = tree_of c.args.value in
    let one = items_of c.push_at.new.self in
    let all = items_of c.push_at-2.new.self in
    let first : one ≡ put_item 0 value no_items = search rules in
    let rest : all ≡ put_item (c.args.count - 1) null one = search (rules, the_lemmas) in
    nulls_made c.args.count value one all (omega arith) first rest
