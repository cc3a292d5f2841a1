use Rattle.std.proofs.Common.{rules, ◌≡◌, ◌∙◌, length, take}
use Rattle.fn_string.proofs.Searched.{starts_in_any_case}
use Rattle.fn_string.proofs.search.begins_in_any_case.Goals as goal

pub returns-in-Some : goal.returns-in-Some
returns-in-Some c =
    let is : c.in-Some.first.now ≡ take (length c.args.part.now) c.args.text.now = search rules in
    c.same_in_any_case.ensures ∙ starts_in_any_case c.args.part.now c.args.text.now c.in-Some.first.now is
