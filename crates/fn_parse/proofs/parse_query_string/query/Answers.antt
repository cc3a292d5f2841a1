use Rattle.std.proofs.Common.{rules, ◌≡◌, ap, ◌∙◌}
use Rattle.vrl_value.specs.Tree.{no_members, object}
use Rattle.vrl_value.specs.View.{members_of, tree_of}
use Rattle.vrl_value.specs.declared.value.Value.{the_lemmas}
use Rattle.vrl_value.specs.declared.value.Value.TheVariants as value
use Rattle.fn_parse.specs.Gathering.{add_pairs}
use Rattle.fn_parse.specs.Pairs.{pairs_of}
use Rattle.fn_parse.specs.QueryString.{form_in}
use Rattle.fn_parse.proofs.Gathered.{gathered_is}
use Rattle.fn_parse.proofs.parse_query_string.query.Goals as goal

pub returns : goal.returns
returns c =
    let s = c.args.text.now in
    let form : c.form_in.result.now ≡ form_in s = c.form_in.ensures ∙ ap form_in c.as_bytes.ensures.value in
    let seen : tree_of (value.Object c.in_ok-fields.fields) ≡ object (members_of c.in_ok-fields.fields) = search (rules, the_lemmas) in
    seen ∙ ap object (c.in_ok-fields.ensures ∙ ap (λ bs. add_pairs (pairs_of bs) no_members) form ∙ gathered_is c.members_are_maps.ensures (pairs_of (form_in s)))
