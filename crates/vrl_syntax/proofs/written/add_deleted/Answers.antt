use Rattle.std.proofs.Common.{◌≡◌, ◌∙◌, ◌++◌, rules, refl, ap, add-one}
use Rattle.vrl_syntax.specs.View.{arg_of, args_of, args_view, expr_of}
use Rattle.vrl_syntax.specs.Written.{argument_roots, path_roots}
use Rattle.vrl_syntax.specs.declared.tree.Arg.{out-Arg}
use Rattle.vrl_syntax.specs.declared.tree.Form.{the_lemmas}
use Rattle.vrl_syntax.proofs.Walked.{walked_on, walked_through}
use Rattle.vrl_syntax.proofs.written.add_deleted.Goals as goal

pub loop-arg-preserved : goal.loop-arg-preserved
loop-arg-preserved c =
    let seen : (arg_of c.arg-item.result).2 ≡ expr_of (out-Arg c.arg-item.result).value = search (rules, the_lemmas) in
    walked_on (λ args. argument_roots (args_view args)) (λ a. path_roots (arg_of a).2) (λ x xs. refl) _ _ _ _ _ _ _ _ (add-one c.loop-arg.arg-index) c.loop-arg-test.true c.arg-item.is (ap path_roots seen) c.in_ok-add_path.ensures c.loop-arg.invariant

pub returns : goal.returns
returns c =
    let all : args_view c.deref-arg-items.result.now ≡ args_of c.args.args.now = search (rules, the_lemmas) in
    walked_through (λ args. argument_roots (args_view args)) _ _ _ _ c.loop-arg-test.false refl c.loop-arg.invariant ∙ ap (λ whole. c.args.roots.now.items ++ argument_roots whole) all
