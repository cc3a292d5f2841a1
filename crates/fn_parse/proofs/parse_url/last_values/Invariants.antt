use Rattle.std.proofs.Common.{◌≡◌, map}
use Rattle.form_urlencoded.specs.Parse.{owned_pairs_left}
use Rattle.vrl_value.specs.Tree.{no_members}
use Rattle.vrl_value.specs.View.{members_of}
use Rattle.fn_parse.specs.Gathering.{put_pairs}
use Rattle.fn_parse.specs.Pairs.{pair_of, pairs_of}
use Rattle.fn_parse.proofs.parse_url.last_values.Given as goal

abbrev pub invariant-loop-item : goal.invariant-loop-item
invariant-loop-item l = put_pairs (map pair_of (owned_pairs_left l.item-iterator)) (members_of l.fields) ≡ put_pairs (pairs_of l.form) no_members
