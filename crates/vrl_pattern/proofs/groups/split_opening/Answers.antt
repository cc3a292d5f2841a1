use Rattle.std.proofs.Common.{Some, None, refl, sym, ◌∙◌, arith}
use Rattle.std.proofs.lemmas.Str.Pattern.{strip_prefix_char}
use Rattle.vrl_pattern.proofs.Openings.{names_no_question, names_unnamed, names_named, shorter}
use Rattle.vrl_pattern.proofs.groups.split_opening.Goals as goal

pub returns-in_default : goal.returns-in_default
returns-in_default c = (omega arith, names_no_question c.args.behind.now (strip_prefix_char 0x3F c.args.behind.now None c.in_default.ensures.cases (omega arith)))

pub returns-in-Some-strip_prefix : goal.returns-in-Some-strip_prefix
returns-in-Some-strip_prefix c =
    let asked = strip_prefix_char 0x3F c.args.behind.now (Some c.in-Some.asked) c.in-Some.ensures.cases (omega arith) in
    let named = strip_prefix_char 0x3C c.without_front.result.now (Some c.in-Some-strip_prefix.named) c.in-Some-strip_prefix.ensures.cases (omega arith) in (
      shorter c.split_name.result.1.now asked named c.without_front.ensures.within c.split_name.ensures.within,
      names_named c.args.behind.now _ _ asked (sym c.without_front.ensures.value ∙ named) ∙ rw (c.split_name.ensures.name, c.split_name.ensures.rest) refl,
    )

pub returns-in-None : goal.returns-in-None
returns-in-None c =
    let asked = strip_prefix_char 0x3F c.args.behind.now (Some c.in-Some.asked) c.in-Some.ensures.cases (omega arith) in
    let other = strip_prefix_char 0x3C c.without_front.result.now None c.in-None.ensures.cases (omega arith) in
    names_unnamed c.args.behind.now _ asked (λ rest e. other rest (c.without_front.ensures.value ∙ e))
