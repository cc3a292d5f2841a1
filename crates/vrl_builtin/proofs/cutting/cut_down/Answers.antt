use Rattle.std.proofs.Common.{refl, arith}
use Rattle.vrl_value.specs.declared.value.Tag.TheVariants as tag
use Rattle.vrl_kind.specs.Tags.{all_tags}
use Rattle.vrl_builtin.proofs.Cuts.{cut_by-more}
use Rattle.vrl_builtin.proofs.cutting.cut_down.Goals as goal

pub loop-tag-preserved : goal.loop-tag-preserved
loop-tag-preserved c =
    (refl, cut_by-more c.args.tags.now all_tags c.loop-tag.tag-index tag.Text c.args.kind.now c.loop-tag.lower c.in_ok-lower-2.lower (omega (arith, c.loop-tag-test.true)) c.loop-tag.invariant.1 c.in_ok-lower-2.ensures)
