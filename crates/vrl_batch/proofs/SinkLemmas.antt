-- What a sink holds after pieces.
use Rattle.std.proofs.Common.{ℕ, List, ◌++◌, Option, Some, None, option_map, ap, ◌∙◌, append_assoc}
use Rattle.vrl_batch.specs.Sinks.{Appends}

-- two pieces one after another are one
pub appends_both : (old middle new : Option (List ℕ)) (first second : List ℕ) → Appends old middle first → Appends middle new second → Appends old new (first ++ second)
appends_both None middle new first second one two = two ∙ ap (option_map (λ before. before ++ second)) one
appends_both (Some held) middle new first second one two = two ∙ ap (option_map (λ before. before ++ second)) one ∙ ap Some (append_assoc held first second)
