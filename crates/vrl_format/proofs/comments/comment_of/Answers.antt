use Rattle.std.proofs.Common.{None, Some, ap, arith, ◌∙◌, sym, ◌∷◌, []}
use Rattle.std.proofs.lemmas.Str.Pattern.{find_char}
use Rattle.vrl_format.specs.Pieces.{remark}
use Rattle.vrl_format.proofs.Lines.{comment_there, lacks, no_comment}
use Rattle.vrl_format.proofs.comments.comment_of.Goals as goal

pub returns-in_default : goal.returns-in_default
returns-in_default c = no_comment c.args.line.now c.requires (lacks 35 c.args.line.now (find_char 35 c.args.line.now None c.in_default.ensures.cases (omega arith)))

pub returns : goal.returns
returns c =
    let found = find_char 35 c.args.line.now (Some c.in-Some.place) c.in-Some.ensures.cases (omega arith) in
    comment_there c.args.line.now c.in-Some.place c.requires found.0 found.1 found.2 ∙ ap (λ t. remark t ∷ []) (sym c.split_at.ensures.back)
