-- Values that may be answered by their parts: each is in order, and each regex in it stands in an argument.
use Rattle.std.specs.Prelude.{◌≡◌, ℕ, Bool, true, false, List, ◌∷◌, Option, Some, None, IsTrue, IfSome, refl}
use Rattle.std.proofs.Common.{◌∙◌}
use Rattle.vrl_value.specs.Look.{field, place, item_at, raw_at, tag_found}
use Rattle.vrl_value.specs.Tree.{Tree, array, object, Items, Members, find, IsOrdered, MembersAreOrdered}
use Rattle.vrl_value.specs.declared.value.Tag.{Tag}
use Rattle.vrl_kind.specs.Sets.{Sets, IsAllowed}
use Rattle.vrl_builtin.specs.Law.{IsLawful}
use Rattle.vrl_builtin.specs.Rows.{value, argument_at}
use Rattle.vrl_builtin.proofs.Containers.{array_is_lawful, each_at, each_found, each_member_of, each_member_ordered, each_of, each_ordered, found_in, object_is_lawful, some_of, some_so, EachItem, EachMember, IsLawfulPart}

-- every value
abbrev pub everything : Sets
everything p t = true

abbrev pub IsPart : List (Option Tree) → Tree → Type 0
IsPart arguments v = IsLawfulPart everything arguments v

-- the members of an object that may be answered
pub record AreParts (arguments : List (Option Tree)) (ms : Members) : Type 0 where
  pub each : EachMember (IsPart arguments) ms
  pub ordered : MembersAreOrdered ms

if_any : (o : Option Tag) → IfSome o (λ t. IsTrue true)
if_any None = tt
if_any (Some t) = refl

all_allowed : (v : Tree) → IsAllowed v everything
all_allowed v p = if_any (tag_found (raw_at v p))

-- ---- parts

pub given_part : (at : ℕ) (v : Tree) (arguments : List (Option Tree)) → argument_at at arguments ≡ Some v → IsOrdered v → IsPart arguments v
given_part at v arguments is ordered = record { allowed = all_allowed v; ordered = ordered; regexes = λ n holds. (at, rw is holds) }

pub any_part : (A : Sets) (arguments : List (Option Tree)) (v : Tree) → IsLawfulPart A arguments v → IsPart arguments v
any_part A arguments v part = record { allowed = all_allowed v; ordered = part.ordered; regexes = part.regexes }

pub array_part : (arguments : List (Option Tree)) (ts : Items) → EachItem (IsPart arguments) ts → IsPart arguments (array ts)
array_part arguments ts each = let lawful = array_is_lawful everything false arguments ts each in record { allowed = all_allowed (array ts); ordered = lawful.1; regexes = lawful.2 }

pub object_part : (arguments : List (Option Tree)) (ms : Members) → AreParts arguments ms → IsPart arguments (object ms)
object_part arguments ms are = let lawful = object_is_lawful everything false arguments ms are.each are.ordered in record { allowed = all_allowed (object ms); ordered = lawful.1; regexes = lawful.2 }

pub item_parts : (arguments : List (Option Tree)) (ts : Items) → IsPart arguments (array ts) → EachItem (IsPart arguments) ts
item_parts arguments ts part =
    each_of (IsPart arguments) ts (λ i. some_of (IsPart arguments) (item_at i ts) (λ v found. record {
      allowed = all_allowed v;
      ordered = some_so IsOrdered (item_at i ts) v (each_at IsOrdered ts i (each_ordered ts part.ordered)) found;
      regexes = λ n inside. part.regexes n (place i ∷ inside.0, found_in (item_at i ts) v inside.0 found ∙ inside.1);
    }))

pub member_parts : (arguments : List (Option Tree)) (ms : Members) → IsPart arguments (object ms) → AreParts arguments ms
member_parts arguments ms part = record {
  each = each_member_of (IsPart arguments) ms part.ordered (λ k v found. record {
    allowed = all_allowed v;
    ordered = some_so IsOrdered (find k ms) v (each_found IsOrdered k ms (each_member_ordered ms part.ordered)) found;
    regexes = λ n inside. part.regexes n (field k ∷ inside.0, found_in (find k ms) v inside.0 found ∙ inside.1);
  });
  ordered = part.ordered;
}

-- ---- answers

pub answered : (A : Sets) (fails : Bool) (arguments : List (Option Tree)) (v : Tree) → IsAllowed v A → IsPart arguments v → IsLawful A fails arguments (value v)
answered A fails arguments v allowed part = (allowed, part.ordered, part.regexes)

pub array_answered : (A : Sets) (fails : Bool) (arguments : List (Option Tree)) (ts : Items) → IsAllowed (array ts) A → EachItem (IsPart arguments) ts → IsLawful A fails arguments (value (array ts))
array_answered A fails arguments ts allowed each = answered A fails arguments (array ts) allowed (array_part arguments ts each)
