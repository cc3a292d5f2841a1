-- `parse_json` and `encode_json` keep the law.
use Rattle.std.specs.Prelude.{◌≡◌, ℕ, true, List, [], ◌∷◌, Option, codes, refl}
use Rattle.std.proofs.lemmas.Bool.{and_parts}
use Rattle.vrl_value.specs.Look.{field, place}
use Rattle.vrl_value.specs.Tree.{Tree, string, integer, boolean, null, timestamp, regex, array, object, Items, no_items, item, Members, no_members, member, is_json, items_are_json, members_are_json, IsOrdered, ItemsAreOrdered, MembersAreOrdered}
use Rattle.vrl_kind.specs.Kinds.{json_at}
use Rattle.vrl_kind.specs.Sets.{IsAllowed}
use Rattle.vrl_json.proofs.Lines.{line_is_json}
use Rattle.vrl_json.proofs.Ordered.{line_is_ordered}
use Rattle.vrl_json.specs.Line.{Reading, not_json, not_whole, whole, reading_of}
use Rattle.vrl_builtin.specs.Containers.{array_of, object_of}
use Rattle.vrl_builtin.specs.Law.{IsLawful, KeepsLaw}
use Rattle.vrl_builtin.specs.OneTag.{KeepsOneTag}
use Rattle.vrl_builtin.specs.Rows.{named, text_at}
use Rattle.vrl_builtin.proofs.Containers.{array_is_lawful, object_is_lawful, plain_part, EachItem, EachMember, IsLawfulPart}
use Rattle.vrl_builtin.proofs.GivenTags.{no}
use Rattle.fn_parse.specs.Json.{answer_to, encode_json_row, parse_json_row}

pub encode_json-law : KeepsOneTag encode_json_row
encode_json-law = record { present = refl; lawful = λ givens arguments setting fit instances. (tt, refl) }

-- ---- what JSON holds is of its kind

array_allowed : (ts : Items) → IsAllowed (array ts) (array_of json_at) → IsAllowed (array ts) json_at
array_allowed ts of [] = refl
array_allowed ts of (place i ∷ p) = of (place i ∷ p)
array_allowed ts of (field n ∷ p) = tt

object_allowed : (ms : Members) → IsAllowed (object ms) (object_of json_at) → IsAllowed (object ms) json_at
object_allowed ms of [] = refl
object_allowed ms of (field n ∷ p) = of (field n ∷ p)
object_allowed ms of (place i ∷ p) = tt

mutual
  json_part : (arguments : List (Option Tree)) (t : Tree) → is_json t ≡ true → IsOrdered t
      → IsLawfulPart json_at arguments t
  json_part arguments (string s) json ordered = plain_part json_at arguments (string s) tt refl
  json_part arguments (integer n) json ordered = plain_part json_at arguments (integer n) tt refl
  json_part arguments (boolean b) json ordered = plain_part json_at arguments (boolean b) tt refl
  json_part arguments null json ordered = plain_part json_at arguments null tt refl
  json_part arguments (timestamp n) json ordered = no json
  json_part arguments (regex n) json ordered = no json
  json_part arguments (array ts) json ordered =
      let all = array_is_lawful json_at true arguments ts (json_items arguments ts json ordered) in
      record { allowed = array_allowed ts all.0; ordered = all.1; regexes = all.2 }
  json_part arguments (object ms) json ordered =
      let all = object_is_lawful json_at true arguments ms (json_members arguments ms json ordered) ordered in
      record { allowed = object_allowed ms all.0; ordered = all.1; regexes = all.2 }

  json_items : (arguments : List (Option Tree)) (ts : Items) → items_are_json ts ≡ true → ItemsAreOrdered ts
      → EachItem (IsLawfulPart json_at arguments) ts
  json_items arguments no_items json ordered = tt
  json_items arguments (item t ts) json ordered =
      (json_part arguments t (and_parts _ _ json).0 ordered.0, json_items arguments ts (and_parts _ _ json).1 ordered.1)

  json_members : (arguments : List (Option Tree)) (ms : Members) → members_are_json ms ≡ true → MembersAreOrdered ms
      → EachMember (IsLawfulPart json_at arguments) ms
  json_members arguments no_members json ordered = tt
  json_members arguments (member k t ms) json ordered = (
    json_part arguments t (and_parts _ _ json).0 ordered.1,
    json_members arguments ms
        (and_parts _ _ json).1 ordered.2,
  )

answer_lawful : (arguments : List (Option Tree)) (s : List ℕ) (r : Reading) → reading_of s ≡ r
    → IsLawful json_at true arguments (named (codes "parse_json") (answer_to r))
answer_lawful arguments s not_json is = refl
answer_lawful arguments s not_whole is = refl
answer_lawful arguments s (whole t) is = let part = json_part arguments t (line_is_json s t is)
    (line_is_ordered s t is) in (part.allowed, part.ordered, part.regexes)

pub parse_json-law : KeepsLaw parse_json_row
parse_json-law = record {
  present = λ givens sources given below. refl;
  lawful = λ givens arguments setting given fit instances below. answer_lawful arguments (text_at 0 [] arguments)
      (reading_of (text_at 0 [] arguments)) refl;
}
