use Rattle.std.proofs.Common.{[], ◌∷◌, ◌++◌, ◌≤◌, ap, ◌∙◌, vec_len, arith}
use Rattle.vrl_value.specs.declared.value.Value.TheVariants.{Null}
use Rattle.vrl_value.proofs.Places.{one_more}
use Rattle.vrl_value.proofs.padding.pad.Goals as goal

pub loop-place-preserved : goal.loop-place-preserved
loop-place-preserved c =
    let later : vec_len c.args.values.now ≤ c.loop-place._place = omega arith in
    c.in_ok-push.ensures.items ∙ ap (λ vs. vs ++ Null ∷ []) c.loop-place.invariant ∙ one_more c.args.values.now.items (vec_len c.args.values.now) c.loop-place._place later
