use Rattle.std.proofs.Common.{rules, None, Some, ◌∙◌, arith}
use Rattle.std.proofs.lemmas.Str.Pattern.{split_parts}
use Rattle.vrl_format.specs.Pieces.{remarks_in}
use Rattle.vrl_format.specs.Writing.{writing_in}
use Rattle.vrl_format.proofs.Lines.{lacks}
use Rattle.vrl_format.proofs.Noted.{blocks_on, noted_line}
use Rattle.vrl_format.proofs.layout.Layout.note.Goals as goal

pub note_line-requires-clause-plain : goal.note_line-requires-clause-plain
note_line-requires-clause-plain c =
    lacks 10 c.in-Some.line.now (split_parts 10 c.loop-line.rest.now (Some (c.in-Some.line, c.in-Some.behind)) (search rules) (omega arith)).1

pub loop-line-preserved : goal.loop-line-preserved
loop-line-preserved c =
    let parts = split_parts 10 c.loop-line.rest.now (Some (c.in-Some.line, c.in-Some.behind)) (search rules) (omega arith) in
    let w = writing_in c.loop-line.self in
    let v = writing_in c.note_line.new.self in
    let next = writing_in c.see_newline.new.self in (
      search rules,
      blocks_on w v next (remarks_in c.in-Some.line.now) c.in_ok-note_line.ensures c.see_newline.ensures ∙ c.loop-line.invariant.1,
      noted_line w v next c.loop-line.rest.now c.in-Some.line.now c.in-Some.behind.now parts.0 (lacks 10 c.in-Some.line.now parts.1) c.in_ok-note_line.ensures c.see_newline.ensures ∙ c.loop-line.invariant.2,
    )

pub note_line-requires-2-clause-plain : goal.note_line-requires-2-clause-plain
note_line-requires-2-clause-plain c = lacks 10 c.loop-line.rest.now (split_parts 10 c.loop-line.rest.now None c.in_default.ensures.cases (omega arith))
