use Rattle.std.proofs.Common.{rules, ◌≡◌, ap, ◌∙◌, [], ◌∷◌, ◌++◌}
use Rattle.vrl_value.specs.Tree.{array, string}
use Rattle.vrl_value.specs.View.{items_of, items_view, tree_of}
use Rattle.vrl_value.specs.declared.value.Value.{the_lemmas}
use Rattle.vrl_value.specs.declared.value.Value.TheVariants as value
use Rattle.fn_parse.specs.Gathering.{behind}
use Rattle.fn_parse.proofs.Gathered.{behind_pushed}
use Rattle.fn_parse.proofs.parse_query_string.longer.Goals as goal

pub returns : goal.returns
returns c =
    let text : tree_of (value.Text c.args.text) ≡ string c.args.text = search (rules, the_lemmas) in
    let seen : tree_of (value.List c.new.result) ≡ array (items_of c.new.result) = search (rules, the_lemmas) in
    let all : c.push.new.self.items ≡ c.into_vec-values.result.items ++ value.Text c.args.text ∷ [] = search rules in
    seen
    ∙ ap array (c.new.ensures ∙ ap items_view all ∙ behind_pushed c.into_vec-values.result.items (value.Text c.args.text) c.args.text text
    ∙ ap (λ ts. behind ts c.args.text) c.into_vec-values.ensures)
