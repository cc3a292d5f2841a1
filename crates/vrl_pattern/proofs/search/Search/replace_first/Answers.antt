use Rattle.std.proofs.Common.{Some, sym, ap, ◌∙◌}
use Rattle.std.proofs.lemmas.Result.{IfOk-weaker}
use Rattle.vrl_pattern.specs.Matches.{replaced}
use Rattle.vrl_pattern.proofs.Read.{none_replaced, some_limit}
use Rattle.vrl_pattern.proofs.search.Search.replace_first.Goals as goal

pub returns-then-count-eq0-clause-changed : goal.returns-then-count-eq0-clause-changed
returns-then-count-eq0-clause-changed c =
    let source = c.args.self.now in
    let text = c.args.text.now in
    let with = c.args.with.now in
    IfOk-weaker c.copy_of.result _ _ (λ changed is. is ∙ sym (none_replaced source text with) ∙ ap (λ n. replaced source text with (Some n)) (sym c.if-count-eq0.true)) c.copy_of.ensures

pub returns-clause-changed : goal.returns-clause-changed
returns-clause-changed c =
    IfOk-weaker c.replace_some.result _ _ (λ changed is. is ∙ ap (replaced c.args.self.now c.args.text.now c.args.with.now) (some_limit c.args.count c.if-count-eq0.false)) c.replace_some.ensures.changed
