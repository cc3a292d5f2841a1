use Rattle.std.proofs.Common.{[], ◌∷◌, subst}
use Rattle.std.proofs.lemmas.Result.{IfOk-weaker}
use Rattle.vrl_value.specs.View.{tree_of}
use Rattle.vrl_run.specs.Enclosed.{AreTextLines}
use Rattle.vrl_run.proofs.Enclosing.{lines_with}
use Rattle.vrl_run.proofs.kept.kept_alone.Goals as goal

pub returns : goal.returns
returns c =
    let events = tree_of c.args.event.now ∷ [] in
    IfOk-weaker c.kept_one.result _ _ (λ kept are. lines_with c.args.envelope c.args.sources.now (tree_of c.args.metadata.now) events kept (subst (λ text. AreTextLines text c.args.sources.now events kept) c.in_ok-metadata.ensures are)) c.kept_one.ensures
