use Rattle.std.proofs.Common.{rules, ◌≡◌, ap, ◌∙◌}
use Rattle.vrl_value.specs.Tree.{no_members, object}
use Rattle.vrl_value.specs.View.{members_of, tree_of}
use Rattle.vrl_value.specs.declared.value.Value.{the_lemmas}
use Rattle.vrl_value.specs.declared.value.Value.TheVariants as value
use Rattle.fn_parse.specs.Gathering.{put_pairs}
use Rattle.fn_parse.specs.Pairs.{pairs_of}
use Rattle.fn_parse.proofs.Latest.{latest_is}
use Rattle.fn_parse.proofs.parse_url.query_value.Goals as goal

pub returns : goal.returns
returns c =
    let s = c.args.query.now in
    let seen : tree_of (value.Object c.in_ok-fields.fields) ≡ object (members_of c.in_ok-fields.fields) = search (rules, the_lemmas) in
    seen ∙ ap object (c.in_ok-fields.ensures ∙ ap (λ bs. put_pairs (pairs_of bs) no_members) c.as_bytes.ensures.value ∙ latest_is c.members_are_maps.ensures (pairs_of s))
