-- `get` keeps the law.
use Rattle.std.specs.Prelude.{◌≡◌, ℕ, Bool, false, List, [], ◌∷◌, Option, Some, None, codes, unwrap_or, IsTrue, IfSome, refl}
use Rattle.vrl_value.specs.Look.{Found, there, missing, no_place, found_behind, item_at, raw_at, tag_found, IfThere}
use Rattle.vrl_value.specs.Tree.{Tree, null, array, object, Items, find, IsOrdered}
use Rattle.vrl_value.specs.declared.value.Tag.{Tag}
use Rattle.vrl_kind.specs.Kinds.{any_at}
use Rattle.vrl_kind.specs.Sets.{IsAllowed}
use Rattle.vrl_kind.proofs.Inhabiting.{any_inhabits}
use Rattle.vrl_kind.proofs.Known.{any_tags}
use Rattle.std.proofs.Common.{subst}
use Rattle.vrl_path.specs.Read.{item_if, place_of, signed_part_at, signed_raw_at, tree_found}
use Rattle.vrl_path.specs.declared.path.Step.{Step as CodeStep}
use Rattle.vrl_path.specs.declared.path.Step.TheVariants.{Field, Place}
use Rattle.vrl_value.specs.Parts.{count_of}
use Rattle.vrl_builtin.specs.Law.{KeepsLaw, IsLawful, IsOfGiven}
use Rattle.vrl_builtin.specs.Rows.{named, argument_at, kind_at, value_or}
use Rattle.vrl_builtin.specs.Words.{first_other}
use Rattle.vrl_builtin.proofs.Containers.{each_at, each_found, plain_part, EachItem}
use Rattle.fn_object.specs.Get.{get_row, got}
use Rattle.vrl_builtin.proofs.GivenTags.{arrays_only, some_only}
use Rattle.vrl_builtin.specs.Listed.{trees_in}
use Rattle.vrl_builtin.proofs.AnswerParts.{answered, member_parts, everything, given_part, item_parts, IsPart}
use Rattle.vrl_builtin.proofs.OtherParts.{other_given}
use Rattle.fn_object.specs.PathLaw.{there_if}
use Rattle.fn_object.specs.Paths.{path_answer, step_tags, steps_of}
use Rattle.vrl_builtin.specs.PartKinds.{part_allows_other}

any_allowed : (v : Tree) → IsAllowed v any_at
any_allowed v p = subst (λ (T : Tag → Bool). IfSome (tag_found (raw_at v p)) (λ t. IsTrue (T t))) (any_tags p)
    (any_inhabits false v p)

item_is : (arguments : List (Option Tree)) (o : Option ℕ) (ts : Items) → EachItem (IsPart arguments) ts
    → IfThere (item_if o ts) (IsPart arguments)
item_is arguments None ts each = tt
item_is arguments (Some i) ts each = there_if (IsPart arguments) (item_at i ts) (each_at (IsPart arguments) ts i each)

part_is : (arguments : List (Option Tree)) (t : Tree) (s : CodeStep) → IsPart arguments t
    → IfThere (signed_part_at t s) (IsPart arguments)
part_is arguments (object ms) (Field k) part =
    there_if (IsPart arguments) (find k ms) (each_found (IsPart arguments) k ms (member_parts arguments ms part).each)
part_is arguments (array ts) (Place i) part =
    item_is arguments (place_of (count_of ts) i) ts (item_parts arguments ts part)
part_is arguments t s part = tt

behind_is : (arguments : List (Option Tree)) (F : Found) (p : List CodeStep) (look : Tree → Found)
    → IfThere F (IsPart arguments) → ((u : Tree) → IsPart arguments u → IfThere (look u) (IsPart arguments)) →
    IfThere (found_behind F p look) (IsPart arguments)
behind_is arguments (there u) p look found so = so u found
behind_is arguments missing [] look found so = tt
behind_is arguments missing (s ∷ p) look found so = tt
behind_is arguments no_place p look found so = tt

found_is : (arguments : List (Option Tree)) (t : Tree) (p : List CodeStep) → IsPart arguments t
    → IfThere (signed_raw_at t p) (IsPart arguments)
found_is arguments t [] part = part
found_is arguments t (s ∷ p) part = behind_is arguments (signed_part_at t s) p (λ u. signed_raw_at u p)
    (part_is arguments t s part) (λ u inside. found_is arguments u p inside)

read_is : (arguments : List (Option Tree)) (F : Found) → IfThere F (IsPart arguments)
    → IsPart arguments (unwrap_or (tree_found F) null)
read_is arguments (there u) found = found
read_is arguments missing found = plain_part everything arguments null tt refl
read_is arguments no_place found = plain_part everything arguments null tt refl

got_lawful : (o : Option (ℕ × Tag)) (fails : Bool) (arguments : List (Option Tree)) (v : Tree)
    → IfSome o (λ other. IsTrue fails) → IsPart arguments v
    → IsLawful any_at fails arguments (named (codes "get") (path_answer o None v))
got_lawful (Some other) fails arguments v fail part = fail
got_lawful None fails arguments v fail part = answered any_at fails arguments v (any_allowed v) part

pub get-law : KeepsLaw get_row
get-law = record {
  present = λ givens sources given below. refl;
  lawful = λ givens arguments setting given fit instances below.
      let K = kind_at 1 givens in
      some_only (λ a. argument_at 0 arguments ≡ a → IfSome a IsOrdered
      → IsLawful any_at (part_allows_other step_tags K) arguments
      (named (codes "get") (got (value_or null a) (value_or null (argument_at 1 arguments)))))
      (argument_at 0 arguments) fit.0.there
      (λ v first ordered.
      arrays_only (λ b. argument_at 1 arguments ≡ b → IsOfGiven K b → IfSome b IsOrdered
      → IsLawful any_at (part_allows_other step_tags K) arguments (named (codes "get") (got v (value_or null b))))
      (argument_at 1 arguments) fit.1.0.there fit.1.0.allowed
      (λ ts second of in_order.
      got_lawful (first_other step_tags ts) (part_allows_other step_tags K) arguments _
      (other_given K step_tags 1 ts arguments second of in_order)
      (read_is arguments (signed_raw_at v (steps_of (trees_in ts)))
      (found_is arguments v (steps_of (trees_in ts)) (given_part 0 v arguments first ordered))))
      refl (instances.kinds 1) (instances.ordered 1))
      refl (instances.ordered 0);
}
