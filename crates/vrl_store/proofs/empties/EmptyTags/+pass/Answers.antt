use Rattle.std.proofs.Common.{arith}
use Rattle.std.proofs.lemmas.Grind.{common_steps}
use Rattle.vrl_syntax.specs.declared.tree.Args.{the_lemmas}
use Rattle.vrl_store.proofs.empties.EmptyTags.+pass.Goals as goal

pub pass_args-returns : goal.pass_args-returns
pass_args-returns t c = grind (arith, common_steps)

pub pass_arms-returns : goal.pass_arms-returns
pass_arms-returns t c = grind (arith, common_steps)

pub pass_exprs-pass_expr-requires : goal.pass_exprs-pass_expr-requires
pass_exprs-pass_expr-requires t c = grind (arith, common_steps)

pub pass_exprs-loop-expr-preserved : goal.pass_exprs-loop-expr-preserved
pass_exprs-loop-expr-preserved t c = grind (arith, common_steps)

pub pass_exprs-returns : goal.pass_exprs-returns
pass_exprs-returns t c = grind (arith, common_steps)

pub pass_pairs-pass_expr-requires : goal.pass_pairs-pass_expr-requires
pass_pairs-pass_expr-requires t c = grind (arith, common_steps)

pub pass_pairs-loop-value-preserved : goal.pass_pairs-loop-value-preserved
pass_pairs-loop-value-preserved t c = grind (arith, common_steps)

pub pass_pairs-returns : goal.pass_pairs-returns
pass_pairs-returns t c = grind (arith, common_steps)

pub pass_args-pass_expr-requires : goal.pass_args-pass_expr-requires
pass_args-pass_expr-requires t c = grind (the_lemmas, arith, common_steps)

pub pass_args-loop-arg-preserved : goal.pass_args-loop-arg-preserved
pass_args-loop-arg-preserved t c = grind (the_lemmas, arith, common_steps)

pub pass_arms-pass_expr-requires : goal.pass_arms-pass_expr-requires
pass_arms-pass_expr-requires t c = grind (the_lemmas, arith, common_steps)

pub pass_arms-pass_exprs-requires : goal.pass_arms-pass_exprs-requires
pass_arms-pass_exprs-requires t c = grind (the_lemmas, arith, common_steps)

pub pass_arms-loop-arm-preserved : goal.pass_arms-loop-arm-preserved
pass_arms-loop-arm-preserved t c = grind (the_lemmas, arith, common_steps)

pub pass_call-returns-in-Some : goal.pass_call-returns-in-Some
pass_call-returns-in-Some t c = grind (the_lemmas, arith, common_steps)

pub pass_expr-returns-in-Some : goal.pass_expr-returns-in-Some
pass_expr-returns-in-Some t c = grind (the_lemmas, arith, common_steps)

pub pass_expr-returns-in-Binary : goal.pass_expr-returns-in-Binary
pass_expr-returns-in-Binary t c = grind (the_lemmas, arith, common_steps)
