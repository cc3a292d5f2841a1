use Rattle.std.proofs.Common.{String, Global, string_cmp, sym, subst, arith}
use Rattle.std.proofs.lemmas.Grind.{common_steps}
use Rattle.std.specs.List.Sorted.{IsStrictlySortedBy}
use Rattle.std.specs.Map.{keys_of}
use Rattle.vrl_value.specs.View.{members_view}
use Rattle.vrl_value.specs.declared.value.Value.{Value, the_lemmas}
use Rattle.vrl_json.specs.Held.{MembersAreHeld}
use Rattle.vrl_json.proofs.Held.{members_held, sorted_behind}
use Rattle.vrl_json.proofs.write.+write.Goals as goal

pub write_members-loop-name-preserved : goal.write_members-loop-name-preserved
write_members-loop-name-preserved t c =
    let l = c.loop-name in
    let e : String Global × Value = (c.in-Some.name.now, c.in-Some.value.now) in
    let left = c.next.new.self in
    let sorted = subst (λ es. IsStrictlySortedBy string_cmp (keys_of es)) c.in-Some.ensures.steps l.invariant.sorted in record {
      before = grind (arith, common_steps);
      whole = grind (arith, common_steps);
      below = grind (arith, common_steps);
      sorted = sorted_behind e left sorted;
      held = λ rest. l.invariant.held (subst (λ es. MembersAreHeld (members_view es)) (sym c.in-Some.ensures.steps) (members_held e left sorted c.in_ok-write_value.ensures.held rest));
      fewer = grind (arith, common_steps);
    }

pub write_items-write_value-requires : goal.write_items-write_value-requires
write_items-write_value-requires t c = grind (arith, common_steps)

pub write_items-loop-item-preserved : goal.write_items-loop-item-preserved
write_items-loop-item-preserved t c = grind (arith, common_steps)

pub write_items-returns-clause-ok : goal.write_items-returns-clause-ok
write_items-returns-clause-ok t c = grind (arith, common_steps)

pub write_items-returns-clause-held : goal.write_items-returns-clause-held
write_items-returns-clause-held t c = grind (arith, common_steps)

pub write_value-returns-in-Pattern-clause-ok : goal.write_value-returns-in-Pattern-clause-ok
write_value-returns-in-Pattern-clause-ok t c = grind (the_lemmas, arith, common_steps)

pub write_value-returns-in_ok-begin_array-in-List-clause-ok : goal.write_value-returns-in_ok-begin_array-in-List-clause-ok
write_value-returns-in_ok-begin_array-in-List-clause-ok t c = grind (the_lemmas, arith, common_steps)

pub write_value-returns-in_ok-begin_object-in-Object-clause-ok : goal.write_value-returns-in_ok-begin_object-in-Object-clause-ok
write_value-returns-in_ok-begin_object-in-Object-clause-ok t c = grind (the_lemmas, arith, common_steps)
