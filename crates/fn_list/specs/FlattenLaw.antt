-- `flatten` keeps the law.
use Rattle.std.specs.Prelude.{◌≡◌, ℕ, false, List, [], ◌∷◌, ◌++◌, map, codes, Option, IfSome, refl, ⊤}
use Rattle.vrl_value.specs.Tag.{tag_of}
use Rattle.vrl_value.specs.Tree.{Tree, null, array, object, Items, no_items, item, Members, no_members, member, put, IsOrdered}
use Rattle.vrl_value.specs.View.{items_of_trees}
use Rattle.vrl_value.proofs.Order.{put_ordered}
use Rattle.vrl_builtin.specs.Law.{KeepsLaw, IsLawful, IsOfGiven}
use Rattle.vrl_builtin.specs.Rows.{value, argument_at, kind_at, text_at, value_or}
use Rattle.vrl_builtin.proofs.Containers.{each_put, EachItem, EachMember}
use Rattle.fn_list.specs.Flatten.{flatten_row, flattened, leaves, leaves_at, opened, opened_part, path_text, put_leaves, under, Leaf}
use Rattle.vrl_builtin.proofs.Listed.{each_joined}
use Rattle.vrl_builtin.specs.AnyParts.{any_of, containers_in}
use Rattle.vrl_builtin.proofs.AnswerParts.{array_part, given_part, item_parts, member_parts, object_part, AreParts, IsPart}
use Rattle.vrl_builtin.proofs.AnyParts.{container_lawful}
use Rattle.vrl_builtin.proofs.GivenTags.{container_only}

mutual
  opened_parts : (arguments : List (Option Tree)) (ts : Items) → EachItem (IsPart arguments) ts
      → EachItem (IsPart arguments) (items_of_trees (opened ts))
  opened_parts arguments no_items each = tt
  opened_parts arguments (item t ts) each = each_joined (IsPart arguments) (opened_part t) (opened ts)
      (opened_one arguments t each.0) (opened_parts arguments ts each.1)

  opened_one : (arguments : List (Option Tree)) (t : Tree) → IsPart arguments t
      → EachItem (IsPart arguments) (items_of_trees (opened_part t))
  opened_one arguments (array ts) part = opened_parts arguments ts (item_parts arguments ts part)
  opened_one arguments t part = (part, tt)

-- each leaf may be answered
abbrev EachLeaf : List (Option Tree) → List Leaf → Type 0
EachLeaf arguments [] = ⊤
EachLeaf arguments (leaf ∷ others) = IsPart arguments leaf.held × EachLeaf arguments others

both_leaves : (arguments : List (Option Tree)) (ls others : List Leaf) → EachLeaf arguments ls
    → EachLeaf arguments others → EachLeaf arguments (ls ++ others)
both_leaves arguments [] others first second = second
both_leaves arguments (l ∷ ls) others first second = (first.0, both_leaves arguments ls others first.1 second)

leaves_under : (arguments : List (Option Tree)) (k : List ℕ) (ls : List Leaf) → EachLeaf arguments ls
    → EachLeaf arguments (map (under k) ls)
leaves_under arguments k [] each = tt
leaves_under arguments k (l ∷ ls) each = (each.0, leaves_under arguments k ls each.1)

mutual
  leaf_parts : (arguments : List (Option Tree)) (ms : Members) → EachMember (IsPart arguments) ms
      → EachLeaf arguments (leaves ms)
  leaf_parts arguments no_members each = tt
  leaf_parts arguments (member k t ms) each = both_leaves arguments (leaves_at k t) (leaves ms)
      (leaf_part arguments k t each.0) (leaf_parts arguments ms each.1)

  leaf_part : (arguments : List (Option Tree)) (k : List ℕ) (t : Tree) → IsPart arguments t
      → EachLeaf arguments (leaves_at k t)
  leaf_part arguments k (object (member l t ms)) part = leaves_under arguments k (leaves (member l t ms))
      (leaf_parts arguments (member l t ms) (member_parts arguments (member l t ms) part).each)
  leaf_part arguments k t part = (part, tt)

put_parts : (arguments : List (Option Tree)) (start separator : List ℕ) (ls : List Leaf) (ms : Members)
    → EachLeaf arguments ls → AreParts arguments ms → AreParts arguments (put_leaves start separator ls ms)
put_parts arguments start separator [] ms each are = are
put_parts arguments start separator (l ∷ ls) ms each are =
    let k = start ++ path_text separator l.first l.others in
    put_parts arguments start separator ls (put k l.held ms) each.1
    (record {
      each = each_put
          (IsPart arguments) k l.held ms each.0 are.each;
      ordered = put_ordered k l.held ms each.0.ordered are.ordered;
    })

flattened_part : (arguments : List (Option Tree)) (separator : List ℕ) (v : Tree) → IsPart arguments v
    → IsPart arguments (flattened separator v)
flattened_part arguments separator (array ts) part =
    array_part arguments _ (opened_parts arguments ts (item_parts arguments ts part))
flattened_part arguments separator (object ms) part =
    object_part arguments _
    (put_parts arguments [] separator (leaves ms) no_members
    (leaf_parts arguments ms (member_parts arguments ms part).each) (record { each = tt; ordered = tt }))
flattened_part arguments separator v part = part

same_tag : (separator : List ℕ) (v : Tree) → tag_of (flattened separator v) ≡ tag_of v
same_tag separator (array ts) = refl
same_tag separator (object ms) = refl
same_tag separator v = refl

pub flatten-law : KeepsLaw flatten_row
flatten-law = record {
  present = λ givens sources given below. refl;
  lawful = λ givens arguments setting given fit instances below.
      let K = kind_at 0 givens in let separator = text_at 1 (codes ".") arguments in
      container_only
      (λ a. argument_at 0 arguments ≡ a → IsOfGiven K a → IfSome a IsOrdered
      → IsLawful (any_of (containers_in K)) false arguments (value (flattened separator (value_or null a))))
      (argument_at 0 arguments) fit.0.there fit.0.allowed
      (λ v allowed first of ordered. container_lawful K false arguments v (flattened separator v) allowed of
      (same_tag separator v) (flattened_part arguments separator v (given_part 0 v arguments first ordered)))
      refl (instances.kinds 0) (instances.ordered 0);
}
