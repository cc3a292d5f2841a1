use Rattle.std.proofs.Common.{codes, true, map, option_map, sym, ap, subst, ◌∙◌}
use Rattle.std.proofs.lemmas.Result.{IfOk-weaker}
use Rattle.vrl_builtin.specs.Rows.{named}
use Rattle.vrl_builtin.specs.View.{Applies}
use Rattle.vrl_pattern.specs.Matches.{first_match}
use Rattle.fn_search.specs.ParseRegex.{match_object, parsed}
use Rattle.fn_search.specs.Sources.{source_at}
use Rattle.fn_search.proofs.Firsts.{first_of_all, map_listed, told_so}
use Rattle.fn_search.proofs.parse_regex.parsed.Goals as goal

pub returns-in-Some : goal.returns-in-Some
returns-in-Some c =
    let text = c.args.text.now in
    let source = source_at c.in-Some.number c.args.searches.now in
    let make = match_object source c.args.numbered text in
    let first = first_match source text in
    subst (λ number. Applies true (named (codes "parse_regex") (parsed c.args.searches.now number c.args.numbered text)) c.answer_of_first.result) (sym c.in-Some.is)
    (subst (λ answer. Applies true (named (codes "parse_regex") answer) c.answer_of_first.result) (told_so make (codes "no match") first)
    (c.answer_of_first.ensures.answer (option_map make first) (IfOk-weaker c.objects_of.result _ _ (λ objects is. is ∙ ap (map make) (first_of_all source text) ∙ map_listed make first) c.objects_of.ensures)))
