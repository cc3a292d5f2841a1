use Rattle.std.proofs.Common.{rules, tests, ◌≡◌, ◌&&◌, ◌∙◌, is_some, not}
use Rattle.std.proofs.lemmas.Iterator.{YieldsList-from_slice}
use Rattle.std.proofs.lemmas.Iterator.Search.{any_from_yields_List}
use Rattle.std.specs.List.{list_any}
use Rattle.vrl_kind.specs.Kinds.{root_tags}
use Rattle.vrl_kind.specs.Tags.{all_tags}
use Rattle.vrl_judge.specs.Judging.{table_rule}
use Rattle.vrl_judge.specs.Rules.{some_tag}
use Rattle.vrl_judge.proofs.Scalars.{some_pair-by_partners}
use Rattle.vrl_judge.proofs.tables.Table.may_refuse.Goals as goal

pub returns : goal.returns
returns c =
    let K = c.args.left.now in
    let L = c.args.right.now in
    let by_tag : c.any.result ≡ list_any (λ a. root_tags K a && some_tag (λ b. not (is_some (table_rule c.args.self a b))) L) all_tags =
    any_from_yields_List (λ a. root_tags K a && some_tag (λ b. not (is_some (table_rule c.args.self a b))) L) _ _ c.any.result c.any.ensures.ran (YieldsList-from_slice all_tags cc) (λ x b q k. search (rules, tests)) in
    by_tag ∙ some_pair-by_partners (λ a b. not (is_some (table_rule c.args.self a b))) K L
