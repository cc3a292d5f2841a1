-- `unflatten` keeps the law.
use Rattle.std.specs.Prelude.{◌≡◌, ℕ, zero, suc, Bool, true, false, List, [], ◌∷◌, map, length, ◌||◌, nat_lt, codes, Option, Some, None, IfSome, refl, if◌then◌else◌}
use Rattle.std.proofs.Common.{ap}
use Rattle.vrl_value.specs.Look.{field}
use Rattle.vrl_value.specs.Tag.{tag_of}
use Rattle.vrl_value.specs.Tree.{Tree, null, object, Members, no_members, member, IsOrdered}
use Rattle.vrl_value.specs.declared.value.Tag.TheVariants as tag
use Rattle.vrl_path.specs.Parts.{part_or_null}
use Rattle.vrl_path.specs.Trees.{set_tree}
use Rattle.vrl_path.specs.declared.path.Step.TheVariants.{Field}
use Rattle.vrl_builtin.specs.Law.{KeepsLaw, IsLawful}
use Rattle.vrl_builtin.specs.Rows.{value, argument_at, text_at, value_or}
use Rattle.vrl_builtin.specs.TagSets.{allows, objects}
use Rattle.vrl_builtin.proofs.Containers.{EachMember}
use Rattle.vrl_builtin.proofs.GivenTags.{objects_only}
use Rattle.vrl_builtin.specs.AnyParts.{any_of}
use Rattle.vrl_builtin.proofs.AnswerParts.{answered, given_part, member_parts, object_part, IsPart}
use Rattle.vrl_builtin.proofs.AnyParts.{loosely_allowed}
use Rattle.fn_object.specs.PathLaw.{field_tag, set_is}
use Rattle.fn_object.specs.Unflatten.{cut_at, cut_key, first_place, is_nothing, path_of, put_paths, unflatten_row, unflattened}

-- there is always a piece, so what is written into is an object
set_into : (v : Tree) (k : List ℕ) (ks : List (List ℕ)) (t : Tree)
    → tag_of (set_tree v (map Field (k ∷ ks)) t) ≡ tag.Object
set_into v k ks t = field_tag k (set_tree (part_or_null v (field k)) (map Field ks) t) v

by_place : (separator s : List ℕ) (others : List ℕ → List (List ℕ)) (o : Option ℕ) (P : List (List ℕ) → Type 0)
    → ((k : List ℕ) (ks : List (List ℕ)) → P (k ∷ ks)) → P (cut_at separator s others o)
by_place separator s others None P so = so s []
by_place separator s others (Some i) P so = so _ _

some_pieces : (most : ℕ) (separator s : List ℕ) (P : List (List ℕ) → Type 0)
    → ((k : List ℕ) (ks : List (List ℕ)) → P (k ∷ ks)) → P (cut_key most separator s)
some_pieces zero separator s P so = so s []
some_pieces (suc most) separator s P so = by_place separator s (cut_key most separator) (first_place separator s) P so

by_test : (b : Bool) (k : List ℕ) (ks : List (List ℕ)) (P : List (List ℕ) → Type 0) → P (k ∷ []) → P ks
    → P (if b then k ∷ [] else ks)
by_test true k ks P whole cut = whole
by_test false k ks P whole cut = cut

still_object : (separator k : List ℕ) (v t : Tree)
    → tag_of (set_tree v (path_of separator k) t) ≡ tag.Object
still_object separator k v t =
    by_test (is_nothing separator || nat_lt 64 (length (cut_key (length k) separator k))) k
    (cut_key (length k) separator k) (λ ks. tag_of (set_tree v (map Field ks) t) ≡ tag.Object)
    (set_into v k [] t)
    (some_pieces (length k) separator k (λ ks. tag_of (set_tree v (map Field ks) t) ≡ tag.Object)
    (λ l ls. set_into v l ls t))

all_object : (separator : List ℕ) (ms : Members) (v : Tree) → tag_of v ≡ tag.Object
    → tag_of (put_paths separator ms v) ≡ tag.Object
all_object separator no_members v is = is
all_object separator (member k t ms) v is =
    all_object separator ms (set_tree v (path_of separator k) t) (still_object separator k v t)

all_parts : (arguments : List (Option Tree)) (separator : List ℕ) (ms : Members) (v : Tree)
    → EachMember (IsPart arguments) ms → IsPart arguments v → IsPart arguments (put_paths separator ms v)
all_parts arguments separator no_members v each part = part
all_parts arguments separator (member k t ms) v each part = all_parts arguments separator ms
    (set_tree v (path_of separator k) t) each.1 (set_is arguments v (path_of separator k) t part each.0)

pub unflatten-law : KeepsLaw unflatten_row
unflatten-law = record {
  present = λ givens sources given below. refl;
  lawful = λ givens arguments setting given fit instances below.
      let separator = text_at 1 (codes ".") arguments in
      objects_only (λ a. argument_at 0 arguments ≡ a → IfSome a IsOrdered
      → IsLawful (any_of objects) false arguments (value (unflattened separator (value_or null a))))
      (argument_at 0 arguments) fit.0.there fit.0.allowed
      (λ ms first ordered.
      answered (any_of objects) false arguments (put_paths separator ms (object no_members))
      (loosely_allowed objects (put_paths separator ms (object no_members))
      (ap (allows objects) (all_object separator ms (object no_members) refl)))
      (all_parts arguments separator ms (object no_members)
      (member_parts arguments ms (given_part 0 (object ms) arguments first ordered)).each
      (object_part arguments no_members (record { each = tt; ordered = tt }))))
      refl (instances.ordered 0);
}
