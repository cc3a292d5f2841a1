-- `push` keeps the law.
use Rattle.std.specs.Prelude.{◌≡◌, false, List, [], ◌∷◌, Option, Some, None, IfSome, refl}
use Rattle.vrl_value.specs.Look.{place}
use Rattle.vrl_value.specs.Tree.{Tree, null, array, Items, IsOrdered}
use Rattle.vrl_value.specs.declared.value.Tag.TheVariants as tag
use Rattle.vrl_kind.specs.Canonical.{list_tree}
use Rattle.vrl_kind.specs.KindTree.{KindTree, kind, no_list, list_part, nothing, no_places, known_place}
use Rattle.vrl_kind.specs.Kinds.{tags_at, Inhabits}
use Rattle.vrl_kind.specs.Sets.{IsAllowed}
use Rattle.vrl_builtin.specs.Law.{KeepsLaw, IsLawful, IsOfGiven}
use Rattle.vrl_builtin.specs.Rows.{value, argument_at, kind_at, value_or}
use Rattle.vrl_builtin.proofs.Containers.{each_item_so, IsLawfulPart}
use Rattle.vrl_builtin.specs.PartKinds.{array_parts_at}
use Rattle.vrl_builtin.proofs.AnswerParts.{array_answered, any_part, given_part, everything}
use Rattle.vrl_builtin.proofs.GivenTags.{arrays_only, no, some_only}
use Rattle.vrl_builtin.proofs.Listed.{each_joined, each_list}
use Rattle.vrl_builtin.proofs.PartKinds.{given_items}
use Rattle.vrl_builtin.specs.Listed.{trees_in}
use Rattle.fn_list.specs.Placing.{choice_absent, choice_allowed, exactly_allowed, join_fit, known_sure, nothing_known, one_fit, widely_allowed}
use Rattle.fn_list.specs.Push.{push_kind, push_row, pushed, pushed_at}
use Rattle.fn_list.specs.Sure.{is_known, placed, then_places, widened}
use Rattle.vrl_kind.specs.Make.{array_kind}

pushed_allowed : (ts : Items) (v : Tree) (K L : KindTree) → Inhabits (array ts) K → Inhabits v L
    → IsAllowed (pushed (array ts) v) (pushed_at (list_tree K) L)
pushed_allowed ts v (kind s no_list o) L first second = no (first [])
pushed_allowed ts v (kind s (list_part ps r) o) L first second =
    choice_allowed (pushed (array ts) v) (is_known ps r)
    (tags_at (array_kind (then_places ps (known_place L no_places)) nothing)) (placed (widened ps r (tags_at L)))
    (λ known. exactly_allowed _ _
    (join_fit ts (v ∷ []) ps (known_place L no_places) nothing (known_sure ps r known)
    (nothing_known ts ps r known (λ i p. first (place i ∷ p))) (one_fit v L second)))
    (λ other. widely_allowed ts (v ∷ []) ps r (tags_at L) (λ i p. first (place i ∷ p)) (second, tt))

pushed_lawful : (ts : Items) (v : Tree) (K L : Option KindTree) (arguments : List (Option Tree))
    → argument_at 0 arguments ≡ Some (array ts) → argument_at 1 arguments ≡ Some v →
    IsOfGiven K (Some (array ts)) → IsOfGiven L (Some v) → IsOrdered (array ts) → IsOrdered v
    → IsLawful (push_kind K L) false arguments (value (pushed (array ts) v))
pushed_lawful ts v None L arguments first second of fits ordered in_order = absurd of
pushed_lawful ts v (Some K) None arguments first second of fits ordered in_order = absurd fits
pushed_lawful ts v (Some K) (Some L) arguments first second of fits ordered in_order =
    array_answered (push_kind (Some K) (Some L)) false arguments _ (pushed_allowed ts v K L of fits)
    (each_joined (IsLawfulPart everything arguments) (trees_in ts) (v ∷ [])
    (each_list (IsLawfulPart everything arguments) ts
    (each_item_so (IsLawfulPart (array_parts_at (Some K)) arguments) (IsLawfulPart everything arguments) ts
    (λ u part. any_part _ arguments u part) (given_items (Some K) 0 ts arguments first of ordered)))
    (given_part 1 v arguments second in_order, tt))

pub push_present : (K L : Option KindTree) → push_kind K L [] tag.Absent ≡ false
push_present None L = refl
push_present (Some K) None = refl
push_present (Some (kind s no_list o)) (Some L) = refl
push_present (Some (kind s (list_part ps r) o)) (Some L) = choice_absent (is_known ps r)
    (tags_at (array_kind (then_places ps (known_place L no_places)) nothing))
    (placed (widened ps r (tags_at L))) refl refl

pub push-law : KeepsLaw push_row
push-law = record {
  present = λ givens sources given below. push_present (kind_at 0 givens) (kind_at 1 givens);
  lawful = λ givens arguments setting given fit instances below.
      let K = kind_at 0 givens in let L = kind_at 1 givens in
      arrays_only (λ a. argument_at 0 arguments ≡ a → IsOfGiven K a → IfSome a IsOrdered
      → IsLawful (push_kind K L) false arguments
      (value (pushed (value_or null a) (value_or null (argument_at 1 arguments)))))
      (argument_at 0 arguments) fit.0.there fit.0.allowed
      (λ ts first of ordered.
      some_only (λ b. argument_at 1 arguments ≡ b → IsOfGiven L b → IfSome b IsOrdered
      → IsLawful (push_kind K L) false arguments (value (pushed (array ts) (value_or null b))))
      (argument_at 1 arguments) fit.1.0.there
      (λ v second fits in_order. pushed_lawful ts v K L arguments first second of fits ordered in_order)
      refl (instances.kinds 1) (instances.ordered 1))
      refl (instances.kinds 0) (instances.ordered 0);
}
