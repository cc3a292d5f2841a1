use Rattle.std.proofs.Common.{◌≡◌, ◌∷◌, ◌++◌, ◌∙◌, [], Some, sym, rules, arith}
use Rattle.vrl_binding.proofs.Keywords.{named_more, positional_more}
use Rattle.vrl_binding.specs.Binding.{names_of, positional_at}
use Rattle.vrl_binding.proofs.binding.places_of.Goals as goal

pub loop-parameter-preserved-in_ok-push-in-Some-place_of_keyword : goal.loop-parameter-preserved-in_ok-push-in-Some-place_of_keyword
loop-parameter-preserved-in_ok-push-in-Some-place_of_keyword c =
    let split : c.loop-parameter.left.now ≡ c.in-Some.parameter.now ∷ c.in-Some.others.now = search rules in
    let is : c.push.new.self.items ≡ c.loop-parameter.places.items ++ (Some c.in-Some-place_of_keyword.place ∷ []) = search rules in
    named_more c.in-Some.parameter.now c.in-Some.others.now c.loop-parameter.left.now c.args.arguments.now c.loop-parameter.taken _ c.in-Some-place_of_keyword.place _ _ _
    c.loop-parameter.invariant.0 c.loop-parameter.invariant.1 split (sym c.place_of_keyword.ensures ∙ c.in-Some-place_of_keyword.is) is

pub loop-parameter-preserved : goal.loop-parameter-preserved
loop-parameter-preserved c =
    let split : c.loop-parameter.left.now ≡ c.in-Some.parameter.now ∷ c.in-Some.others.now = search rules in
    let is : c.push-in-None.new.self.items ≡ c.loop-parameter.places.items ++ (positional_at c.loop-parameter.taken (names_of c.args.arguments.now) ∷ []) = search rules in
    positional_more c.in-Some.parameter.now c.in-Some.others.now c.loop-parameter.left.now c.args.arguments.now c.loop-parameter.taken _ _ _ _ _
    c.loop-parameter.invariant.0 c.loop-parameter.invariant.1 split (sym c.place_of_keyword.ensures ∙ c.in-None.is) (omega arith) is
