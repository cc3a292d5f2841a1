-- `compact` keeps the law.
use Rattle.std.specs.Prelude.{◌≡◌, ℕ, Bool, true, false, List, Option, IfSome, refl, if◌then◌else◌}
use Rattle.vrl_value.specs.Tag.{tag_of}
use Rattle.vrl_value.specs.Tree.{Tree, null, array, object, Items, no_items, item, Members, no_members, member, IsBefore, IsOrdered, MembersAreOrdered}
use Rattle.vrl_builtin.specs.Law.{KeepsLaw, IsLawful, IsOfGiven}
use Rattle.vrl_builtin.specs.Rows.{value, argument_at, kind_at, value_or}
use Rattle.vrl_builtin.proofs.Containers.{EachItem, EachMember}
use Rattle.fn_list.specs.Compact.{compact_items, compact_members, compact_row, compacted, is_hollow}
use Rattle.vrl_builtin.specs.AnyParts.{any_of, containers_in}
use Rattle.vrl_builtin.proofs.AnswerParts.{array_part, given_part, item_parts, member_parts, object_part, AreParts, IsPart}
use Rattle.vrl_builtin.proofs.AnyParts.{container_lawful}
use Rattle.vrl_builtin.proofs.GivenTags.{container_only}

item_unless : (P : Tree → Type 0) (b : Bool) (t : Tree) (ts : Items) → P t → EachItem P ts
    → EachItem P (if b then ts else item t ts)
item_unless P true t ts one each = each
item_unless P false t ts one each = (one, each)

before_unless : (b : Bool) (j k : List ℕ) (t : Tree) (ms : Members) → IsBefore j (member k t ms)
    → IsBefore j (if b then ms else member k t ms)
before_unless true j k t ms before = before.1
before_unless false j k t ms before = before

-- a name before all others is before those that stay
stays_before : (j : List ℕ) (ms : Members) → IsBefore j ms → IsBefore j (compact_members ms)
stays_before j no_members before = tt
stays_before j (member k t ms) before = before_unless (is_hollow (compacted t)) j k (compacted t) (compact_members ms)
    (before.0, stays_before j ms before.1)

member_unless : (arguments : List (Option Tree)) (b : Bool) (k : List ℕ) (t : Tree) (ms : Members) → IsPart arguments t
    → IsBefore k ms → AreParts arguments ms → AreParts arguments (if b then ms else member k t ms)
member_unless arguments true k t ms part before are = are
member_unless arguments false k t ms part before are =
    record { each = (part, are.each); ordered = (before, part.ordered, are.ordered) }

mutual
  compact_part : (arguments : List (Option Tree)) (v : Tree) → IsPart arguments v → IsPart arguments (compacted v)
  compact_part arguments (array ts) part =
      array_part arguments (compact_items ts) (compact_each arguments ts (item_parts arguments ts part))
  compact_part arguments (object ms) part = let are = member_parts arguments ms part in object_part arguments
      (compact_members ms) (compact_parts arguments ms are.each are.ordered)
  compact_part arguments v part = part

  compact_each : (arguments : List (Option Tree)) (ts : Items) → EachItem (IsPart arguments) ts
      → EachItem (IsPart arguments) (compact_items ts)
  compact_each arguments no_items each = tt
  compact_each arguments (item t ts) each = item_unless (IsPart arguments) (is_hollow (compacted t)) (compacted t)
      (compact_items ts) (compact_part arguments t each.0) (compact_each arguments ts each.1)

  compact_parts : (arguments : List (Option Tree)) (ms : Members) → EachMember (IsPart arguments) ms
      → MembersAreOrdered ms → AreParts arguments (compact_members ms)
  compact_parts arguments no_members each ordered = record { each = tt; ordered = tt }
  compact_parts arguments (member k t ms) each ordered =
      member_unless arguments (is_hollow (compacted t)) k (compacted t) (compact_members ms)
      (compact_part arguments t each.0) (stays_before k ms ordered.0) (compact_parts arguments ms each.1 ordered.2)

same_tag : (v : Tree) → tag_of (compacted v) ≡ tag_of v
same_tag (array ts) = refl
same_tag (object ms) = refl
same_tag v = refl

pub compact-law : KeepsLaw compact_row
compact-law = record {
  present = λ givens sources given below. refl;
  lawful = λ givens arguments setting given fit instances below.
      let K = kind_at 0 givens in
      container_only
      (λ a. argument_at 0 arguments ≡ a → IsOfGiven K a → IfSome a IsOrdered
      → IsLawful (any_of (containers_in K)) false arguments (value (compacted (value_or null a))))
      (argument_at 0 arguments) fit.0.there fit.0.allowed
      (λ v allowed first of ordered. container_lawful K false arguments v (compacted v) allowed of (same_tag v)
      (compact_part arguments v (given_part 0 v arguments first ordered)))
      refl (instances.kinds 0) (instances.ordered 0);
}
