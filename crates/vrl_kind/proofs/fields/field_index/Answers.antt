use Rattle.std.proofs.Common.{nat_cmp, rules}
use Rattle.std.proofs.lemmas.Fn.{always_returns_same}
use Rattle.std.specs.Cmp.Lexicographic.{slice_cmp}
use Rattle.vrl_kind.proofs.Placing.{searched}
use Rattle.vrl_kind.proofs.fields.field_index.Goals as goal

-- the closure compares a field's name
pub returns : goal.returns
returns c =
    let facts = c.binary_search_by.ensures in
    let by_name = facts.position (λ f. slice_cmp nat_cmp f.name c.args.name.now) (always_returns_same _ _ _ (λ a r f' k. search rules)) in
    searched c.args.name.now c.args.fields.now _ c.requires facts.bound by_name
