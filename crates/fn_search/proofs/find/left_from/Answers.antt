use Rattle.std.proofs.Common.{◌≡◌, ◌∙◌, ap, pos, rules, arith}
use Rattle.fn_search.specs.Find.{start_of}
use Rattle.fn_search.proofs.Starts.{rest_is, starts_not}
use Rattle.fn_search.proofs.find.left_from.Goals as goal

pub returns-in-Some : goal.returns-in-Some
returns-in-Some c =
    let is : c.args.from ≡ pos c.in-Ok.start = search rules in
    let got = c.in-Some.ensures.cases in
    (is, rest_is c.args.text.now c.in-Some.left.now c.in-Ok.start got.0 got.1, omega (arith, got.1))

pub returns-in-None : goal.returns-in-None
returns-in-None c =
    let is : c.args.from ≡ pos c.in-Ok.start = search rules in
    ap (start_of c.args.text.now) is ∙ starts_not c.args.text.now c.in-Ok.start c.in-None.ensures.cases
