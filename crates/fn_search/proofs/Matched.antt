-- What is answered where each part of an array is a regex.
use Rattle.std.specs.Prelude.{◌≡◌, ℕ, Bool, true, is_none, List, Option, None, Result, Ok, Err, IsErr, IsOk, refl}
use Rattle.std.proofs.Common.{sym}
use Rattle.std.proofs.lemmas.Bool.{true≢false}
use Rattle.vrl_value.specs.Tree.{Tree, Items, no_items, item}
use Rattle.vrl_value.specs.declared.memory.Memory.{Memory}
use Rattle.vrl_value.specs.declared.value.Tag.{Tag}
use Rattle.vrl_builtin.specs.Rows.{named, value}
use Rattle.vrl_builtin.specs.TagSets.{regexes}
use Rattle.vrl_builtin.specs.View.{Applies}
use Rattle.vrl_builtin.specs.Words.{first_other, unless_other}
use Rattle.vrl_builtin.specs.declared.failing.Applied.{Applied}
use Rattle.vrl_builtin.specs.declared.failing.Applied.TheVariants as applied
use Rattle.fn_search.specs.MatchAny.{are_tried}

none_other : (name : List ℕ) (other : Option (ℕ × Tag)) (v : Tree) (result : Applied) →
    other ≡ None → Applies true (value v) result → Applies (is_none other) (named name (unless_other other v)) result
none_other name other v result is applied = rw is applied

-- a call that takes no memory where there is no part
pub each_tried : (name : List ℕ) (ts : Items) (v : Tree) (found : Result Bool Memory) (result : Applied) →
    first_other regexes ts ≡ None → (ts ≡ no_items → IsOk found) → (result ≡ applied.Memory → IsErr found) →
    Applies true (value v) result → Applies (are_tried ts) (named name (unless_other (first_other regexes ts) v)) result
each_tried name no_items v (Ok truth) applied.Memory is ok err done = absurd (true≢false (sym (err refl)))
each_tried name no_items v (Err memory) applied.Memory is ok err done = absurd (true≢false (sym (ok refl)))
each_tried name no_items v found (applied.Value w) is ok err done = done
each_tried name no_items v found (applied.Failed f) is ok err done = done
each_tried name (item t ts) v found result is ok err done =
    none_other name (first_other regexes (item t ts)) v result is done
