use Rattle.std.proofs.Common.{get_or, ◌≤◌, sym, subst, refl, arith}
use Rattle.vrl_value.specs.Depth.{depth_of, items_depth}
use Rattle.vrl_value.specs.Parts.{put_item}
use Rattle.vrl_value.specs.View.{items_of, tree_of}
use Rattle.vrl_path.proofs.Fits.{items_within, item_over}
use Rattle.vrl_path.proofs.depth.items_fit.Goals as goal

pub returns : goal.returns
returns c = λ t new.
    let vs = c.as_slice-values.result.now in
    let all = items_within c.args.place t vs c.args.limit new (λ k d within other. c.loop-index.invariant k d (omega arith) other) in
    (λ yes. subst (λ ts. items_depth (put_item c.args.place t ts) ≤ c.args.limit) c.as_slice-values.ensures all, λ fits. refl)

pub returns-then-depth-limit : goal.returns-then-depth-limit
returns-then-depth-limit c = λ t new.
    let vs = c.as_slice-values.result.now in
    let x = c.index-values-index.result in
    let whole = items_depth (put_item c.args.place t (items_of c.args.items.now)) in
    let over = item_over c.args.place t vs c.loop-index.index x (omega arith) c.if-index-place.true in
    let at_whole = subst (λ ts. depth_of (tree_of (get_or vs c.loop-index.index x)) ≤ items_depth (put_item c.args.place t ts)) c.as_slice-values.ensures over in
    let deep : depth_of (tree_of x) ≤ whole = subst (λ y. depth_of (tree_of y) ≤ whole) (sym c.index-values-index.is) at_whole in
    (λ yes. absurd cc, λ fits. absurd (omega arith))
