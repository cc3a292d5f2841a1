use Rattle.std.proofs.Common.{is_some, not, ap₂, ◌∙◌, subst, sym}
use Rattle.vrl_state.specs.States.{IsCutOf}
use Rattle.vrl_judge.specs.Judging.{table_rule, IsCombinedAs}
use Rattle.vrl_judge.specs.Rules.{scalars_at, some_pair, table_tags}
use Rattle.vrl_judge.proofs.Forms.{combined, combined_are}
use Rattle.vrl_judge.proofs.checker.Checker.combined.Goals as goal

pub fail_if-requires : goal.fail_if-requires
fail_if-requires c = combined_are c.args.self.now c.report.new.self _ c.args.parts c.report.new.ends c.requires c.in_ok-report.ensures

pub returns : goal.returns
returns c =
    let left = c.as_kind-left.ensures in
    let right = c.as_kind-right.ensures in
    let rule = table_rule c.args.table in
    let kind = c.in_ok-kind.kind in
    let cut = subst (λ K. IsCutOf (scalars_at (table_tags rule K c.args.parts.right)) kind) left (subst (λ L. IsCutOf (scalars_at (table_tags rule c.as_kind-left.result.now L)) kind) right c.in_ok-kind.ensures) in
    let whole = combined c.args.span c.args.table c.args.chained c.may_refuse-refuses.result c.may_take-takes.result c.either_of.result c.args.self.now c.report.new.self c.fail_if.new.self c.go_on_if.new.self c.args.parts
    c.report.new.ends c.fail_if.new.ends _ c.in_ok-report.ensures cut
    (c.may_refuse-refuses.ensures ∙ ap₂ (λ K L. some_pair (λ a b. not (is_some (rule a b))) K L) left right)
    (c.may_take-takes.ensures ∙ ap₂ (λ K L. some_pair (λ a b. is_some (rule a b)) K L) left right) c.either_of.ensures
    c.in_ok-fail_if.ensures.ends c.in_ok-fail_if.ensures.scopes c.fail_if.ensures.checker c.go_on_if.ensures.known c.go_on_if.ensures.others in
    subst (λ es. IsCombinedAs c.args.span c.args.table c.args.chained c.args.parts c.args.self.now c.go_on_if.new.self (record { kind = kind; ends = es })) (sym c.into_ends-ends.ensures) whole
