-- `unique` keeps the law.
use Rattle.std.specs.Prelude.{◌≡◌, Bool, true, false, List, [], ◌∷◌, IfSome, refl, if◌then◌else◌}
use Rattle.vrl_value.specs.Tree.{Tree, null, IsOrdered}
use Rattle.vrl_value.specs.View.{items_of_trees}
use Rattle.vrl_builtin.specs.Containers.{array_of}
use Rattle.vrl_builtin.specs.Law.{KeepsLaw, IsLawful, IsOfGiven}
use Rattle.vrl_builtin.specs.Rows.{value, argument_at, kind_at, value_or}
use Rattle.vrl_builtin.proofs.Containers.{array_is_lawful, EachItem, IsLawfulPart}
use Rattle.vrl_builtin.specs.PartKinds.{array_parts_at}
use Rattle.vrl_builtin.proofs.GivenTags.{arrays_only}
use Rattle.vrl_builtin.proofs.Listed.{each_list}
use Rattle.vrl_builtin.proofs.PartKinds.{given_items}
use Rattle.vrl_builtin.specs.Listed.{trees_in}
use Rattle.fn_list.specs.Same.{same}
use Rattle.fn_list.specs.Unique.{firsts, unique_row, uniques, without}

by_test : (P : Tree → Type 0) (b : Bool) (t : Tree) (ts : List Tree) → P t → EachItem P (items_of_trees ts)
    → EachItem P (items_of_trees (if b then ts else t ∷ ts))
by_test P true t ts one each = each
by_test P false t ts one each = (one, each)

each_without : (P : Tree → Type 0) (v : Tree) (ts : List Tree) → EachItem P (items_of_trees ts)
    → EachItem P (items_of_trees (without v ts))
each_without P v [] each = tt
each_without P v (t ∷ ts) each = by_test P (same t v) t (without v ts) each.0 (each_without P v ts each.1)

each_first : (P : Tree → Type 0) (ts : List Tree) → EachItem P (items_of_trees ts)
    → EachItem P (items_of_trees (firsts ts))
each_first P [] each = tt
each_first P (t ∷ ts) each = (each.0, each_without P t (firsts ts) (each_first P ts each.1))

pub unique-law : KeepsLaw unique_row
unique-law = record {
  present = λ givens sources given below. refl;
  lawful = λ givens arguments setting given fit instances below.
      let K = kind_at 0 givens in
      arrays_only (λ a. argument_at 0 arguments ≡ a → IsOfGiven K a → IfSome a IsOrdered
      → IsLawful (array_of (array_parts_at K)) false arguments (value (uniques (value_or null a))))
      (argument_at 0 arguments) fit.0.there fit.0.allowed
      (λ ts first of ordered.
      array_is_lawful (array_parts_at K) false arguments _
      (each_first (IsLawfulPart (array_parts_at K) arguments) (trees_in ts)
      (each_list (IsLawfulPart (array_parts_at K) arguments) ts (given_items K 0 ts arguments first of ordered))))
      refl (instances.kinds 0) (instances.ordered 0);
}
