use Rattle.std.proofs.Common.{◌≡◌, ◌==◌, ◌∙◌, ◌∷◌, ap, sym, length, rules, true, None, if◌then◌else◌}
use Rattle.vrl_syntax.specs.Calls.{path_of}
use Rattle.vrl_syntax.specs.View.{args_of, args_view, expr_of}
use Rattle.vrl_resolve.specs.Linking.{path_argument}
use Rattle.vrl_resolve.proofs.WrittenArguments.{path_of_more, path_of_one}
use Rattle.vrl_resolve.proofs.bound.path_of.Goals as goal

pub returns-then-not-is_empty : goal.returns-then-not-is_empty
returns-then-not-is_empty c =
    let arg = c.in_ok-arg.arg.now in
    let others = c.in_ok-arg.others.now in
    let seen : args_of c.args.args.now ≡ args_view (arg ∷ others) = sym c.as_slice.ensures ∙ ap args_view c.in_ok-arg.ensures.cases.0 in
    let more : length others ≡ 0 → ⊥ = λ none. (let zero : (length others == 0) ≡ true = ap (λ n. n == 0) none in absurd cc) in
    sym (ap path_argument seen ∙ path_of_more arg others more)

pub returns-then-is_value : goal.returns-then-is_value
returns-then-is_value c =
    let arg = c.in_ok-arg.arg.now in
    let others = c.in_ok-arg.others.now in
    let seen : args_of c.args.args.now ≡ args_view (arg ∷ others) = sym c.as_slice.ensures ∙ ap args_view c.in_ok-arg.ensures.cases.0 in
    let zero : (length others == 0) ≡ true = sym c.is_empty.ensures ∙ c.if-not-is_empty.false in
    let one : length others ≡ 0 = search rules in
    c.as_path.ensures ∙ sym (ap path_argument seen ∙ path_of_one arg others one ∙ ap (λ b. if b then path_of (expr_of arg.value) else None) (sym c.is_value.ensures ∙ c.if-is_value.true))
