use Rattle.std.proofs.Common.{rules, ◌≡◌, ◌<◌, [], length, slice_index_or, subst, arith, sym, ap, ◌∙◌}
use Rattle.vrl_pattern.specs.Built.{IsBuiltOf}
use Rattle.vrl_pattern.proofs.BuiltOf.{as_many, built_at}
use Rattle.vrl_pattern.proofs.patterns.Patterns.regex.Goals as goal

pub index-requires : goal.index-requires
index-requires c =
    let many = as_many c.self.inside.sources.items c.self.inside.regexes.items c.self.invariant in
    let seen : length c.self.inside.sources.items ≡ length c.args.self.now = ap length c.self.view_is in
    let len : length c.self.inside.regexes.items ≡ length c.args.self.now = many ∙ seen in
    search (rules, len)

pub returns : goal.returns
returns c =
    let many = as_many c.self.inside.sources.items c.self.inside.regexes.items c.self.invariant in
    let seen : length c.self.inside.sources.items ≡ length c.args.self.now = ap length c.self.view_is in
    let below : c.args.number < length c.self.inside.regexes.items = omega (arith, many, seen, c.requires) in
    subst (λ ss. IsBuiltOf (slice_index_or ss c.args.number []) c.index.result.now) c.self.view_is
    (subst (λ r. IsBuiltOf (slice_index_or c.self.inside.sources.items c.args.number []) r) (sym c.index.ensures)
    (built_at c.self.inside.sources.items c.self.inside.regexes.items c.args.number _ c.self.invariant below))
