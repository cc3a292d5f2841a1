use Rattle.std.proofs.Common.{ap, ◌∙◌}
use Rattle.vrl_syntax.specs.Tree.{expr, query}
use Rattle.vrl_syntax.specs.View.{expr_of}
use Rattle.vrl_syntax.specs.Tree.{span_of}
use Rattle.vrl_word.specs.Words.{over}
use Rattle.vrl_parse.specs.Descent.{ran, taken}
use Rattle.vrl_parse.proofs.Walks.{answered, passed}
use Rattle.vrl_parse.proofs.parser.Parser.with_suffix.Goals as goal

pub returns-in_default-clause-takes : goal.returns-in_default-clause-takes
returns-in_default-clause-takes c = passed c.in_default.ensures.lacks c.in_default.ensures.stays ran

pub returns-clause-takes : goal.returns-clause-takes
returns-clause-takes c =
    let e = c.args.inner in
    taken c.in-Some.ensures.takes (answered (c.in_ok-queried.ensures ∙ ap (λ p. expr (over (span_of (expr_of e)) c.in-Some.end) (query (expr_of e) p)) c.in_ok-path.ensures))
