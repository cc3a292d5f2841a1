use Rattle.std.proofs.Common.{rules, tests, ◌≡◌, ◌∙◌}
use Rattle.std.proofs.lemmas.Iterator.{YieldsList-from_slice}
use Rattle.std.proofs.lemmas.Iterator.Search.{any_from_yields_List}
use Rattle.std.specs.List.{list_any}
use Rattle.vrl_kind.specs.Kinds.{root_tags}
use Rattle.vrl_kind.specs.Tags.{all_tags}
use Rattle.vrl_judge.proofs.CollectionKinds.{possible}
use Rattle.vrl_judge.proofs.closures.is_possible.Goals as goal

pub returns : goal.returns
returns c =
    let K = c.args.kind.now in
    let by_tag : c.any.result ≡ list_any (λ t. root_tags K t) all_tags =
    any_from_yields_List (λ t. root_tags K t) _ _ c.any.result c.any.ensures.ran (YieldsList-from_slice all_tags cc) (λ x b q k. search (rules, tests)) in
    by_tag ∙ possible K
