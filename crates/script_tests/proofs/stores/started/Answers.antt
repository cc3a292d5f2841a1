use Rattle.std.proofs.Common.{[], ◌∷◌, refl}
use Rattle.std.proofs.lemmas.Result.{IfOk-weaker}
use Rattle.vrl_syntax.specs.Stores.{metadata_name}
use Rattle.script_tests.proofs.stores.started.Goals as goal

-- the name of the metadata and two others stand for the variables
pub returns : goal.returns
returns c = IfOk-weaker c.start.result _ _ (λ store started. (started (metadata_name ∷ ([] ∷ ((0 ∷ []) ∷ []))) refl (refl, (refl, (refl, tt))) refl).1.as_many) c.start.ensures
