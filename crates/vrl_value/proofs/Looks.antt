-- What holds of a tree and of each of its parts holds of what look-up finds in it.
use Rattle.std.proofs.Common.{List, [], ◌∷◌, Option, Some, None, IfSome}
use Rattle.vrl_value.specs.Look.{Step, Found, there, missing, no_place, found_if, found_behind, part_at, raw_at, IfThere}
use Rattle.vrl_value.specs.Tree.{Tree}

pub if_found : (P : Tree → Type 0) (o : Option Tree) → IfSome o P → IfThere (found_if o) P
if_found P None held = tt
if_found P (Some t) held = held

behind_keeps : (P : Tree → Type 0) (f : Found) (p : List Step) (look : Tree → Found) → IfThere f P → ((u : Tree) → P u → IfThere (look u) P) → IfThere (found_behind f p look) P
behind_keeps P (there t) p look held later = later t held
behind_keeps P missing [] look held later = tt
behind_keeps P missing (s ∷ p) look held later = tt
behind_keeps P no_place p look held later = tt

pub found_keeps : (P : Tree → Type 0) → ((v : Tree) (s : Step) → P v → IfThere (part_at v s) P) → (v : Tree) (p : List Step) → P v → IfThere (raw_at v p) P
found_keeps P parts v [] held = held
found_keeps P parts v (s ∷ p) held = behind_keeps P (part_at v s) p (λ u. raw_at u p) (parts v s held) (λ u part. found_keeps P parts u p part)
