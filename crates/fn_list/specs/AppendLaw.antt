-- `append` keeps the law.
use Rattle.std.specs.Prelude.{◌≡◌, false, ◌&&◌, List, [], ◌∷◌, Option, Some, None, IfSome, refl}
use Rattle.std.proofs.Common.{subst, sym}
use Rattle.std.proofs.lemmas.Bool.{and_parts}
use Rattle.vrl_value.specs.Look.{place}
use Rattle.vrl_value.specs.Tree.{Tree, null, array, Items, IsOrdered}
use Rattle.vrl_value.specs.declared.value.Tag.TheVariants as tag
use Rattle.vrl_kind.specs.Canonical.{list_tree}
use Rattle.vrl_kind.specs.KindTree.{KindTree, kind, no_list, list_part, nothing}
use Rattle.vrl_kind.specs.Kinds.{tags_at, Inhabits}
use Rattle.vrl_kind.specs.Make.{array_kind}
use Rattle.vrl_kind.specs.Sets.{Sets, IsAllowed}
use Rattle.vrl_builtin.specs.Law.{KeepsLaw, IsLawful, IsOfGiven}
use Rattle.vrl_builtin.specs.Rows.{value, argument_at, kind_at, value_or}
use Rattle.vrl_builtin.proofs.Containers.{each_item_so, EachItem, IsLawfulPart}
use Rattle.vrl_builtin.specs.PartKinds.{array_parts_at}
use Rattle.fn_list.specs.Append.{append_kind, append_row, appended, appended_at}
use Rattle.vrl_builtin.proofs.AnswerParts.{array_answered, any_part, everything}
use Rattle.vrl_builtin.proofs.GivenTags.{arrays_only, no}
use Rattle.vrl_builtin.proofs.Listed.{each_joined, each_list, listed_again}
use Rattle.vrl_builtin.proofs.PartKinds.{given_items}
use Rattle.vrl_builtin.specs.Listed.{trees_in}
use Rattle.fn_list.specs.Placing.{choice_absent, choice_allowed, exactly_allowed, join_fit, known_sure, nothing_known, widely_allowed, FitPlaces}
use Rattle.fn_list.specs.Sure.{is_known, placed, then_places, widened}

appended_allowed : (ts us : Items) (K L : KindTree) (A : Sets) → Inhabits (array ts) K → Inhabits (array us) L
    → EachItem (λ v. IsAllowed v A) us →
    IsAllowed (appended (array ts) (array us)) (appended_at (list_tree K) (list_tree L) A)
appended_allowed ts us (kind s no_list o) L A first second each = no (first [])
appended_allowed ts us (kind s (list_part ps r) o) (kind u no_list q) A first second each = no (second [])
appended_allowed ts us (kind s (list_part ps r) o) (kind u (list_part qs m) q) A first second each =
    choice_allowed (appended (array ts) (array us)) (is_known ps r && is_known qs m)
    (tags_at (array_kind (then_places ps qs) nothing)) (placed (widened ps r A))
    (λ known.
    exactly_allowed _ _
    (join_fit ts (trees_in us) ps qs nothing (known_sure ps r (and_parts (is_known ps r) (is_known qs m) known).0)
    (nothing_known ts ps r (and_parts (is_known ps r) (is_known qs m) known).0 (λ i p. first (place i ∷ p)))
    (subst (λ (vs : Items). FitPlaces vs qs nothing) (sym (listed_again us))
    (nothing_known us qs m (and_parts (is_known ps r) (is_known qs m) known).1 (λ i p. second (place i ∷ p))))))
    (λ other. widely_allowed ts (trees_in us) ps r A (λ i p. first (place i ∷ p))
    (each_list (λ v. IsAllowed v A) us each))

appended_lawful : (ts us : Items) (K L : Option KindTree) (arguments : List (Option Tree))
    → argument_at 0 arguments ≡ Some (array ts) → argument_at 1 arguments ≡ Some (array us) →
    IsOfGiven K (Some (array ts)) → IsOfGiven L (Some (array us)) → IsOrdered (array ts) → IsOrdered (array us)
    → IsLawful (append_kind K L) false arguments (value (appended (array ts) (array us)))
appended_lawful ts us None L arguments first second of fits ordered in_order = absurd of
appended_lawful ts us (Some K) None arguments first second of fits ordered in_order = absurd fits
appended_lawful ts us (Some K) (Some L) arguments first second of fits ordered in_order =
    let A = array_parts_at (Some K) in let B = array_parts_at (Some L) in let P = IsLawfulPart everything arguments in
    let ones = given_items (Some K) 0 ts arguments first of ordered in let others = given_items
    (Some L) 1 us arguments second fits in_order in
    array_answered (append_kind (Some K) (Some L)) false arguments _
    (appended_allowed ts us K L B of fits
    (each_item_so (IsLawfulPart B arguments) (λ v. IsAllowed v B) us (λ u part. part.allowed) others))
    (each_joined P (trees_in ts) (trees_in us)
    (each_list P ts (each_item_so (IsLawfulPart A arguments) P ts (λ u part. any_part A arguments u part) ones))
    (each_list P us (each_item_so (IsLawfulPart B arguments) P us (λ u part. any_part B arguments u part) others)))

never_absent : (K L : KindTree) (A : Sets) → appended_at (list_tree K) (list_tree L) A [] tag.Absent ≡ false
never_absent (kind s no_list o) L A = refl
never_absent (kind s (list_part ps r) o) (kind u no_list q) A = refl
never_absent (kind s (list_part ps r) o) (kind u (list_part qs m) q) A = choice_absent (is_known ps r && is_known qs m)
    (tags_at (array_kind (then_places ps qs) nothing)) (placed (widened ps r A)) refl refl

pub append_present : (K L : Option KindTree) → append_kind K L [] tag.Absent ≡ false
append_present None L = refl
append_present (Some K) None = refl
append_present (Some K) (Some L) = never_absent K L (array_parts_at (Some L))

pub append-law : KeepsLaw append_row
append-law = record {
  present = λ givens sources given below. append_present (kind_at 0 givens) (kind_at 1 givens);
  lawful = λ givens arguments setting given fit instances below.
      let K = kind_at 0 givens in let L = kind_at 1 givens in
      arrays_only (λ a. argument_at 0 arguments ≡ a → IsOfGiven K a → IfSome a IsOrdered
      → IsLawful (append_kind K L) false arguments
      (value (appended (value_or null a) (value_or null (argument_at 1 arguments)))))
      (argument_at 0 arguments) fit.0.there fit.0.allowed
      (λ ts first of ordered.
      arrays_only (λ b. argument_at 1 arguments ≡ b → IsOfGiven L b → IfSome b IsOrdered
      → IsLawful (append_kind K L) false arguments (value (appended (array ts) (value_or null b))))
      (argument_at 1 arguments) fit.1.0.there fit.1.0.allowed
      (λ us second fits in_order. appended_lawful ts us K L arguments first second of fits ordered in_order)
      refl (instances.kinds 1) (instances.ordered 1))
      refl (instances.kinds 0) (instances.ordered 0);
}
