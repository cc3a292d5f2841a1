use Rattle.std.proofs.Common.{◌∷◌, refl, subst, sym, ◌∙◌, ap}
use Rattle.vrl_token.specs.Characters.{IsUnclosed}
use Rattle.vrl_token.specs.Lexical.{IsFieldPart, IsLongestRun}
use Rattle.vrl_token.specs.Paths.{quoted}
use Rattle.vrl_token.proofs.Tested.{is_empty_list, is_zero}
use Rattle.vrl_token.proofs.SegmentLemmas.{no_field, same_behind}
use Rattle.vrl_token.proofs.segment.split_field.Goals as goal

pub returns-in_err-strip_mark : goal.returns-in_err-strip_mark
returns-in_err-strip_mark c =
    let none = is_empty_list c.split_run.result.0.now (is_zero _ c.is_empty.ensures c.if-not-is_empty.false) in
    rw c.from_residual.ensures (no_field (subst (λ name. IsLongestRun IsFieldPart c.args.text.now name c.split_run.result.1.now) none c.split_run.ensures) (λ behind is. absurd (c.in_err-strip_mark.ensures behind is)))

pub returns-in_err-inner : goal.returns-in_err-inner
returns-in_err-inner c =
    let none = is_empty_list c.split_run.result.0.now (is_zero _ c.is_empty.ensures c.if-not-is_empty.false) in
    rw c.from_residual-in_err-inner.ensures (no_field (subst (λ name. IsLongestRun IsFieldPart c.args.text.now name c.split_run.result.1.now) none c.split_run.ensures)
    (λ behind is. subst (IsUnclosed 34) (same_behind (sym c.in_ok-strip_mark.ensures ∙ is)) c.in_err-inner.ensures))

pub returns : goal.returns
returns c =
    let cut = c.in_ok-inner.ensures in
    (quoted cut.characters, (cut.characters, refl, record { inside = cut.is_quoted.inside; spelled = cut.spelled }), tt, record { parts = c.in_ok-strip_mark.ensures ∙ ap (λ t. 34 ∷ t) cut.is_quoted.parts; is_segment = cut.is_quoted.inside; ends = tt })
