-- A value laid over the one that is found at a name.
use Rattle.std.proofs.Common.{◌≡◌, ℕ, List, Some, ap, ◌∙◌}
use Rattle.vrl_value.specs.Parts.{replace}
use Rattle.vrl_value.specs.Tree.{Tree, Members, find}
use Rattle.fn_object.specs.Merge.{changed, laid_over}

pub laid_field : (k : List ℕ) (ms : Members) (t u w : Tree) → Some u ≡ find k ms → w ≡ laid_over t u → replace k w ms ≡ changed k (find k ms) (laid_over t) t ms
laid_field k ms t u w found laid = ap (λ x. replace k x ms) laid ∙ ap (λ o. changed k o (laid_over t) t ms) found
