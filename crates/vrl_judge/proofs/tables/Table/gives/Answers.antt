use Rattle.std.proofs.Common.{rules, tests, ◌≡◌, ◌&&◌, ◌∙◌}
use Rattle.std.proofs.lemmas.Iterator.{YieldsList-from_slice}
use Rattle.std.proofs.lemmas.Iterator.Search.{any_from_yields_List}
use Rattle.std.specs.List.{list_any}
use Rattle.vrl_kind.specs.Kinds.{root_tags}
use Rattle.vrl_kind.specs.Tags.{all_tags}
use Rattle.vrl_judge.specs.Rules.{is_tag}
use Rattle.vrl_judge.specs.Judging.{table_rule}
use Rattle.vrl_judge.specs.Rules.{some_tag}
use Rattle.vrl_judge.proofs.Scalars.{table_tags-by_partners}
use Rattle.vrl_judge.proofs.tables.Table.gives.Goals as goal

pub returns : goal.returns
returns c =
    let K = c.args.left.now in
    let L = c.args.right.now in
    let by_tag : c.any.result ≡ list_any (λ a. root_tags K a && some_tag (λ b. is_tag (table_rule c.args.self a b) c.args.tag) L) all_tags =
    any_from_yields_List (λ a. root_tags K a && some_tag (λ b. is_tag (table_rule c.args.self a b) c.args.tag) L) _ _ c.any.result c.any.ensures.ran (YieldsList-from_slice all_tags cc) (λ x b q k. search (rules, tests)) in
    by_tag ∙ table_tags-by_partners (table_rule c.args.self) K L c.args.tag
