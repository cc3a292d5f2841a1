use Rattle.std.proofs.Common.{rules, ◌≡◌, Some, None, length, refl}
use Rattle.vrl_value.specs.View.{items_view}
use Rattle.fn_string.proofs.Sliced.{no_range, some_range}
use Rattle.fn_string.specs.Slice.{array_between, range_of}
use Rattle.fn_string.proofs.slice.answer_of_array.Goals as goal

pub returns-in-Some : goal.returns-in-Some
returns-in-Some c =
    let is : Some c.in-Some.range ≡ range_of (length c.args.items.now) c.args.start c.args.end = search rules in
    some_range c.args.items.now c.args.start c.args.end c.in-Some.range c.value.result is (c.value.ensures.large (array_between (items_view c.args.items.now) c.in-Some.range) c.array_between.ensures refl)

pub returns-in-None : goal.returns-in-None
returns-in-None c =
    let is : None ≡ range_of (length c.args.items.now) c.args.start c.args.end = search rules in
    no_range c.args.items.now c.args.start c.args.end c.fail.result is (rw c.fail.ensures refl)
