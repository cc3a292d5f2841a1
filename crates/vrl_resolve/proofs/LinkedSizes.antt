-- How large a linked expression is, for the measures of the walk.
use Rattle.std.proofs.Common.{◌≡◌, ℕ, ◌+◌, ◌<◌, ◌≤◌, List, [], ◌∷◌, ◌++◌, drop, get_or, length, map, take, sym, ap, ◌∙◌, subst, arith}
use Rattle.vrl_resolve.specs.Linked.{ArmTree, Linked, arm_of, arms_view, linked_of, pairs_view, parts_of_list, parts_view, literal, array, object, read, query, block, conditional, negation, binary, assign, merge, both, call, iterate, return_of, abort_with, Parts, no_parts, parts, Pairs, no_pairs, pair, Arms, no_arms, arm, Else, no_else, else_block, Message, no_message, message}
use Rattle.vrl_resolve.specs.declared.node.Arm.{Arm}
use Rattle.vrl_resolve.specs.declared.node.Node.{Node}
use Rattle.vrl_resolve.proofs.WalkArms.{next_arm}
use Rattle.vrl_resolve.proofs.WalkCalls.{cut}
use Rattle.vrl_resolve.proofs.Walks.{last_part, next_pair, next_part}

abbrev mutual
  pub linked_size : Linked → ℕ
  linked_size (literal v) = 1
  linked_size (array ns) = parts_size ns + 1
  linked_size (object ps) = pairs_size ps + 1
  linked_size (read place) = 1
  linked_size (query n path) = linked_size n + 1
  linked_size (block ns) = parts_size ns + 1
  linked_size (conditional as_ otherwise) = arms_size as_ + else_size otherwise + 1
  linked_size (negation n) = linked_size n + 1
  linked_size (binary o l r) = linked_size l + linked_size r + 1
  linked_size (assign t n) = linked_size n + 1
  linked_size (merge t n) = linked_size n + 1
  linked_size (both t u tag n) = linked_size n + 1
  linked_size (call c bang ns) = parts_size ns + 1
  linked_size (iterate f bang ns body) = parts_size ns + parts_size body + 1
  linked_size (return_of n) = linked_size n + 1
  linked_size (abort_with m) = message_size m + 1

  pub parts_size : Parts → ℕ
  parts_size no_parts = 0
  parts_size (parts n ns) = linked_size n + parts_size ns

  pub pairs_size : Pairs → ℕ
  pairs_size no_pairs = 0
  pairs_size (pair key n ps) = linked_size n + pairs_size ps

  pub arms_size : Arms → ℕ
  arms_size no_arms = 0
  arms_size (arm predicate ns as_) = linked_size predicate + parts_size ns + arms_size as_

  pub else_size : Else → ℕ
  else_size no_else = 0
  else_size (else_block ns) = parts_size ns

  pub message_size : Message → ℕ
  message_size no_message = 0
  message_size (message n) = linked_size n

-- ---- of what is left in a list

pub parts_fewer : (all : List Node) (i : ℕ) (n : Node) → i < length all → n ≡ get_or all i n → parts_size (parts_view (drop i all)) ≡ linked_size (linked_of n) + parts_size (parts_view (drop (i + 1) all))
parts_fewer all i n below here = ap (λ ns. parts_size (parts_of_list ns)) (next_part all i n below here)

pub pairs_fewer : (all : List (List ℕ × Node)) (i : ℕ) (p : List ℕ × Node) → i < length all → p ≡ get_or all i p → pairs_size (pairs_view (drop i all)) ≡ linked_size (linked_of p.1) + pairs_size (pairs_view (drop (i + 1) all))
pairs_fewer all i p below here = ap pairs_size (next_pair all i p below here)

pub arms_fewer : (all : List Arm) (i : ℕ) (a : Arm) (p : Linked) (body : Parts) → i < length all → a ≡ get_or all i a → ◌≡◌ {A = ArmTree} (arm_of a) (p, body)
    → arms_size (arms_view (drop i all)) ≡ linked_size p + parts_size body + arms_size (arms_view (drop (i + 1) all))
arms_fewer all i a p body below here is = ap arms_size (next_arm all i a p body below here is)

last_size : (ns : List Linked) (last : Linked) → parts_size (parts_of_list (ns ++ last ∷ [])) ≡ parts_size (parts_of_list ns) + linked_size last
last_size [] last = omega arith
last_size (n ∷ ns) last = let rest = last_size ns last in omega arith

-- the last one, and those before it
pub last_fewer : (all others : List Node) (last : Node) → all ≡ others ++ last ∷ [] → parts_size (parts_view all) ≡ parts_size (parts_view others) + linked_size (linked_of last)
last_fewer all others last is = ap parts_size (last_part all others last is) ∙ last_size (map linked_of others) (linked_of last)

front_size : (ns more : List Linked) → parts_size (parts_of_list ns) ≤ parts_size (parts_of_list (ns ++ more))
front_size [] more = omega arith
front_size (n ∷ ns) more = let rest = front_size ns more in omega arith

pub first_size : (count : ℕ) (args : List Node) → parts_size (parts_view (take count args)) ≤ parts_size (parts_view args)
first_size count args = subst (λ ns. parts_size (parts_view (take count args)) ≤ parts_size (parts_of_list ns)) (sym (cut count args)) (front_size (map linked_of (take count args)) (map linked_of (drop count args)))
