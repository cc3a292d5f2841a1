-- `object_from_array` keeps the law.
use Rattle.std.specs.Prelude.{◌≡◌, ℕ, true, List, Option, Some, None, codes, IfSome, refl}
use Rattle.vrl_value.specs.Tree.{Tree, string, integer, boolean, null, timestamp, regex, array, object, Items, no_items, item, Members, no_members, IsOrdered}
use Rattle.vrl_value.proofs.Order.{put_ordered}
use Rattle.vrl_builtin.specs.Law.{KeepsLaw, IsLawful}
use Rattle.vrl_builtin.specs.Rows.{named, argument_at, value_or}
use Rattle.vrl_builtin.specs.TagSets.{objects}
use Rattle.vrl_builtin.proofs.Containers.{each_put, EachItem}
use Rattle.vrl_builtin.proofs.GivenTags.{arrays_only}
use Rattle.vrl_builtin.specs.Listed.{items_in, trees_in}
use Rattle.vrl_builtin.specs.AnyParts.{any_of}
use Rattle.fn_object.specs.ObjectFromArray.{entry_of, first_unfit, made_of, object_from_array_row, put_entries, put_entry, unless_unfit}
use Rattle.vrl_builtin.proofs.AnswerParts.{answered, given_part, item_parts, object_part, AreParts, IsPart}
use Rattle.vrl_builtin.proofs.AnyParts.{loosely_allowed}

put_one : (arguments : List (Option Tree)) (k : List ℕ) (v : Tree) (ms : Members) → IsPart arguments v
    → AreParts arguments ms → AreParts arguments (put_entry (Some (k, v)) ms)
put_one arguments k v ms part are = record {
  each = each_put
      (IsPart arguments) k v ms part are.each;
  ordered = put_ordered k v ms part.ordered are.ordered;
}

put_pair : (arguments : List (Option Tree)) (ts : Items) (ms : Members) → EachItem (IsPart arguments) ts
    → AreParts arguments ms → AreParts arguments (put_entry (entry_of (array ts)) ms)
put_pair arguments (item (string k) (item v no_items)) ms each are = put_one arguments k v ms each.1.0 are
put_pair arguments ts ms each are = are

put_element : (arguments : List (Option Tree)) (t : Tree) (ms : Members) → IsPart arguments t → AreParts arguments ms
    → AreParts arguments (put_entry (entry_of t) ms)
put_element arguments (array ts) ms part are = put_pair arguments ts ms (item_parts arguments ts part) are
put_element arguments (string s) ms part are = are
put_element arguments (integer n) ms part are = are
put_element arguments (boolean b) ms part are = are
put_element arguments null ms part are = are
put_element arguments (timestamp n) ms part are = are
put_element arguments (regex n) ms part are = are
put_element arguments (object ns) ms part are = are

put_all : (arguments : List (Option Tree)) (ts : Items) (ms : Members) → EachItem (IsPart arguments) ts
    → AreParts arguments ms → AreParts arguments (put_entries (trees_in ts) ms)
put_all arguments no_items ms each are = are
put_all arguments (item t ts) ms each are =
    put_all arguments ts (put_entry (entry_of t) ms) each.1 (put_element arguments t ms each.0 are)

made_lawful : (o : Option ℕ) (arguments : List (Option Tree)) (ms : Members) → AreParts arguments ms
    → IsLawful (any_of objects) true arguments (named (codes "object_from_array") (unless_unfit o (object ms)))
made_lawful (Some n) arguments ms are = refl
made_lawful None arguments ms are = answered (any_of objects) true arguments (object ms)
    (loosely_allowed objects (object ms) refl) (object_part arguments ms are)

pub object_from_array-law : KeepsLaw object_from_array_row
object_from_array-law = record {
  present = λ givens sources given below. refl;
  lawful = λ givens arguments setting given fit instances below.
      arrays_only (λ a. argument_at 0 arguments ≡ a → IfSome a IsOrdered
      → IsLawful (any_of objects) true arguments
      (named (codes "object_from_array") (made_of (trees_in (items_in (value_or null a))))))
      (argument_at 0 arguments) fit.0.there fit.0.allowed
      (λ ts is ordered.
      made_lawful (first_unfit 0 (trees_in ts)) arguments (put_entries (trees_in ts) no_members)
      (put_all arguments ts no_members (item_parts arguments ts (given_part 0 (array ts) arguments is ordered))
      (record { each = tt; ordered = tt })))
      refl (instances.ordered 0);
}
