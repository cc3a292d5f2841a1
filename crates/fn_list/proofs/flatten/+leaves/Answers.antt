use Rattle.std.proofs.Common.{◌≡◌, ap, ◌∙◌, subst, String, Global, List}
use Rattle.vrl_value.specs.View.{members_of, members_view, tree_of}
use Rattle.vrl_value.specs.declared.value.Value.{Value}
use Rattle.fn_list.specs.Flatten.{leaves, put_leaves}
use Rattle.fn_list.proofs.Compacting.{one_fewer}
use Rattle.fn_list.proofs.Leaves.{on_ok, opened_at, walked}
use Rattle.vrl_builtin.proofs.Sizes.{members_size}
use Rattle.fn_list.proofs.flatten.+leaves.Goals as goal

pub put_fields-loop-name-preserved : goal.put_fields-loop-name-preserved
put_fields-loop-name-preserved t c =
    let l = c.loop-name in
    let left = c.next.new.self in
    let e : String Global × Value = (c.in-Some.name.now, c.in-Some.value.now) in
    let start = c.args.start.now in
    let separator = c.args.separator.now in
    let whole = put_leaves start separator (leaves (members_of c.args.fields.now)) (members_of c.args.out.now) in record {
      whole = walked start separator _ (tree_of c.in-Some.value.now) (members_view left) (members_of l.out) (members_of c.put_value.new.out) whole (rw c.as_str.ensures.value at c.in_ok-put_value.ensures)
          (subst (λ (es : List (String Global × Value)). put_leaves start separator (leaves (members_view es)) (members_of l.out) ≡ whole) c.in-Some.ensures.steps l.invariant.whole);
      fewer = one_fewer l.name-iterator left e (members_size (members_of c.args.fields.now)) c.in-Some.ensures.steps l.invariant.fewer;
    }

pub put_value-returns-in_ok-start-in-Some : goal.put_value-returns-in_ok-start-in-Some
put_value-returns-in_ok-start-in-Some t c =
    let ms = members_of c.in-Some.fields.now in
    on_ok c.put_fields.result _ _
    (λ told. opened_at c.args.start.now c.args.separator.now c.args.name.now (tree_of c.args.value.now) ms (members_of c.args.out.now) (members_of c.put_fields.new.out) c.in-Some.ensures
    (told ∙ ap (λ s. put_leaves s c.args.separator.now (leaves ms) (members_of c.args.out.now)) (c.as_str.ensures ∙ c.in_ok-start-in-Some.ensures))) c.put_fields.ensures
