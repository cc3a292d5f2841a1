use Rattle.std.proofs.Common.{ap, subst, ◌∙◌}
use Rattle.std.proofs.lemmas.Result.{IfOk-weaker}
use Rattle.regex.specs.Patterns.{find_all_str}
use Rattle.regex.specs.Search.{as_limit, first_or_all}
use Rattle.regex.specs.Strings.{regex_source, IsReadFrom, IsWrittenBy}
use Rattle.vrl_pattern.specs.Matches.{replaced}
use Rattle.vrl_pattern.proofs.Alike.{same_names, same_replaced}
use Rattle.vrl_pattern.proofs.search.Search.replace_some.Goals as goal

pub returns-clause-changed : goal.returns-clause-changed
returns-clause-changed c =
    let regex = c.self.inside.regex.now in
    let source = regex_source regex in
    let built = c.self.invariant.0 in
    let text = c.args.text.now in
    let with = c.args.with.now in
    let template = c.in_ok-template.template in
    let reads = subst (λ names. IsReadFrom names with template) (c.capture_names.ensures ∙ same_names source regex built) c.in_ok-template.ensures.read in
    IfOk-weaker c.replaced_by.result _ _
    (λ changed written.
    let by_regex = subst (λ re. IsWrittenBy template text (first_or_all c.args.limit (find_all_str re text)) changed) c.self.invariant.1 written in
    by_regex.read _ _ reads ∙ same_replaced source regex built text (λ k. (c.type_inv.text k).fits) with (as_limit c.args.limit)
    ∙ ap (λ source. replaced source text with (as_limit c.args.limit)) c.self.view_is)
    c.replaced_by.ensures.written
