-- `zip` keeps the law.
use Rattle.std.specs.Prelude.{◌≡◌, zero, suc, false, List, [], ◌∷◌, Option, None, IsTrue, IfSome, refl}
use Rattle.vrl_value.specs.Look.{Step, field, place, found_behind, found_if, raw_at, tag_found}
use Rattle.vrl_value.specs.Tree.{Tree, null, array, Items, no_items, item, IsOrdered}
use Rattle.vrl_value.specs.View.{items_of_trees}
use Rattle.vrl_kind.specs.Kinds.{never_at, or_absent}
use Rattle.vrl_kind.specs.Sets.{Sets, IsAllowed}
use Rattle.vrl_builtin.specs.Law.{KeepsLaw, IsLawful, IsOfGiven}
use Rattle.vrl_builtin.specs.Rows.{value, argument_at, kind_at, value_or}
use Rattle.vrl_builtin.proofs.Containers.{array_is_lawful, EachItem, IsLawfulPart}
use Rattle.vrl_builtin.specs.PartKinds.{array_parts_at}
use Rattle.vrl_builtin.proofs.AnswerParts.{array_answered, any_part}
use Rattle.vrl_builtin.proofs.GivenTags.{arrays_only}
use Rattle.vrl_builtin.proofs.PartKinds.{given_items}
use Rattle.vrl_builtin.specs.Listed.{trees_in}
use Rattle.fn_list.specs.Zip.{pair_at, pair_of, pairs_of, zip_kind, zip_row, zipped}

-- nothing stands behind the second place
nothing_behind : (p : List Step)
    → IfSome (tag_found (found_behind (found_if None) p (λ u. raw_at u p))) (λ t. IsTrue (or_absent p (never_at p) t))
nothing_behind [] = refl
nothing_behind (s ∷ p) = tt

pair_allowed : (A B : Sets) (v w : Tree) → IsAllowed v A → IsAllowed w B → IsAllowed (pair_of v w) (pair_at A B)
pair_allowed A B v w first second [] = refl
pair_allowed A B v w first second (place zero ∷ p) = first p
pair_allowed A B v w first second (place (suc zero) ∷ p) = second p
pair_allowed A B v w first second (place (suc (suc i)) ∷ p) = nothing_behind p
pair_allowed A B v w first second (field n ∷ p) = tt

pair_part : (A B : Sets) (arguments : List (Option Tree)) (v w : Tree) → IsLawfulPart A arguments v
    → IsLawfulPart B arguments w → IsLawfulPart (pair_at A B) arguments (pair_of v w)
pair_part A B arguments v w first second =
    let lawful = array_answered (pair_at A B) false arguments (item v (item w no_items))
    (pair_allowed A B v w first.allowed second.allowed)
    (any_part A arguments v first, (any_part B arguments w second, tt)) in
    record { allowed = lawful.0; ordered = lawful.1; regexes = lawful.2 }

each_pair : (A B : Sets) (arguments : List (Option Tree)) (ts us : Items) → EachItem (IsLawfulPart A arguments) ts
    → EachItem (IsLawfulPart B arguments) us →
    EachItem (IsLawfulPart (pair_at A B) arguments) (items_of_trees (pairs_of (trees_in ts) (trees_in us)))
each_pair A B arguments no_items us first second = tt
each_pair A B arguments (item t ts) no_items first second = tt
each_pair A B arguments (item t ts) (item u us) first second =
    (pair_part A B arguments t u first.0 second.0, each_pair A B arguments ts us first.1 second.1)

pub zip-law : KeepsLaw zip_row
zip-law = record {
  present = λ givens sources given below. refl;
  lawful = λ givens arguments setting given fit instances below.
      let K = kind_at 0 givens in let L = kind_at 1 givens in let A = array_parts_at K in let B = array_parts_at L in
      arrays_only (λ a. argument_at 0 arguments ≡ a → IsOfGiven K a → IfSome a IsOrdered
      → IsLawful (zip_kind K L) false arguments
      (value (zipped (value_or null a) (value_or null (argument_at 1 arguments)))))
      (argument_at 0 arguments) fit.0.there fit.0.allowed
      (λ ts is of ordered.
      arrays_only (λ b. argument_at 1 arguments ≡ b → IsOfGiven L b → IfSome b IsOrdered
      → IsLawful (zip_kind K L) false arguments (value (zipped (array ts) (value_or null b))))
      (argument_at 1 arguments) fit.1.0.there fit.1.0.allowed
      (λ us same fits in_order. array_is_lawful (pair_at A B) false arguments _
      (each_pair A B arguments ts us (given_items K 0 ts arguments is of ordered)
      (given_items L 1 us arguments same fits in_order)))
      refl (instances.kinds 1) (instances.ordered 1))
      refl (instances.kinds 0) (instances.ordered 0);
}
