use Rattle.std.proofs.Common.{ap, ◌∙◌, ◌++◌, codes}
use Rattle.vrl_generate.specs.Summary.{IsSummaryOf, would_write, told_line}
use Rattle.vrl_generate.proofs.Told.{added, told}
use Rattle.vrl_generate.proofs.summary.Summary.into_text.Goals as goal

pub returns : goal.returns
unfolding IsSummaryOf
returns c outs room is =
    let counts = is room in
    let digest = c.finalize.ensures (would_write outs) counts.message in
    let last = c.in_ok-add_told.ensures ∙ ap (λ value. c.add_count-6.new.text.items ++ told_line (codes "sha256") value) (c.deref.ensures ∙ c.in_ok-digest.ensures) in
    added _ _ _ _ _ _ _ _ _ _ _ _ _ _ _ c.new-text.ensures.items c.in_ok-add_count.ensures c.in_ok-add_count-2.ensures c.in_ok-add_count-3.ensures
    c.in_ok-add_count-4.ensures c.in_ok-add_count-5.ensures c.in_ok-add_count-6.ensures last
    ∙ told outs c.args.self c.finalize.result counts digest
