use Rattle.std.proofs.Common.{rules, ◌≡◌, ◌++◌, ◌-◌, ap, ◌∙◌}
use Rattle.vrl_value.specs.Tree.{item}
use Rattle.vrl_value.specs.View.{items_of, items_view, tree_of}
use Rattle.vrl_path.specs.FromEnd.{behind_nulls}
use Rattle.vrl_path.proofs.Places.{front_joined}
use Rattle.vrl_path.proofs.build.put_in_front.Goals as goal

pub returns-clause-ok : goal.returns-clause-ok
returns-clause-ok c =
    let all = c.into_vec-all.result.items in
    let others = c.into_vec-others.result.items in
    let first = tree_of c.args.value in
    let joined : c.append-outcome.new.self.items ≡ all ++ others = search rules in
    c.new-3.ensures ∙ ap items_view joined ∙ front_joined (c.args.count - 1) first all others (c.into_vec-all.ensures ∙ c.in_ok-first_of.ensures)
    ∙ ap (λ ts. item first (behind_nulls (c.args.count - 1) ts)) (c.into_vec-others.ensures ∙ ap items_of c.replace.ensures.value)
