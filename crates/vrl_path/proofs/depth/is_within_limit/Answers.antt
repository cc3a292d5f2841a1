use Rattle.std.proofs.Common.{arith}
use Rattle.vrl_value.specs.View.{tree_of}
use Rattle.vrl_path.proofs.Depths.{set_deep}
use Rattle.vrl_path.proofs.depth.is_within_limit.Goals as goal

pub returns-then-depth-gt-DEPTH_LIMIT : goal.returns-then-depth-gt-DEPTH_LIMIT
returns-then-depth-gt-DEPTH_LIMIT c =
    let deep = set_deep (tree_of c.args.value.now) c.args.steps.now (tree_of c.args.new.now) in
    (λ yes. absurd cc, λ fits. absurd (omega arith))

pub returns-then-length-depth : goal.returns-then-length-depth
returns-then-length-depth c =
    let deep = set_deep (tree_of c.args.value.now) c.args.steps.now (tree_of c.args.new.now) in
    (λ yes. absurd cc, λ fits. absurd (omega arith))
