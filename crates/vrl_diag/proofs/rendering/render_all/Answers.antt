use Rattle.std.proofs.Common.{[], ◌∷◌, ◌++◌, ap, ◌∙◌, arith}
use Rattle.std.proofs.lemmas.List.{take_all}
use Rattle.vrl_diag.specs.Rendering.{diagnostic_line, diagnostic_lines}
use Rattle.vrl_diag.proofs.Lines.{one_line}
use Rattle.vrl_diag.proofs.rendering.render_all.Goals as goal

pub loop-diagnostic-preserved : goal.loop-diagnostic-preserved
loop-diagnostic-preserved c =
    let l = c.loop-diagnostic in
    let text = c.args.text.now in
    let ds = c.args.diagnostics.now in
    let told = c.as_bytes.ensures.value ∙ c.in_ok-line.ensures text c.moved_to-position.ensures.place in (
      c.in_ok-push.ensures.items ∙ ap (λ bytes. bytes ++ 10 ∷ []) c.in_ok-extend_from_slice.ensures.items ∙ one_line (diagnostic_line text) ds l.diagnostic-index _ l.lines.items _ c.loop-diagnostic-test.true l.invariant.0 told,
      c.moved_to-position.ensures.within,
    )

pub returns : goal.returns
returns c = c.loop-diagnostic.invariant.0 ∙ ap (diagnostic_lines c.args.text.now) (take_all c.loop-diagnostic.diagnostic-index c.args.diagnostics.now (omega arith))
