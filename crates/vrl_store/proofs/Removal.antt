-- What is left of a value from which a part was taken out is no deeper, and what is taken out is what look-up finds.
use Rattle.std.proofs.Common.{◌≡◌, ℕ, zero, suc, ◌≤◌, List, [], ◌∷◌, max, Option, Some, None, unwrap_or, Ordering, Less, Equal, Greater, nat_cmp, refl, arith}
use Rattle.std.specs.Cmp.Lexicographic.{slice_cmp}
use Rattle.std.specs.Ordering.{match_ordering}
use Rattle.vrl_value.specs.Depth.{depth_of, items_depth, members_depth}
use Rattle.vrl_value.specs.Look.{Step, field, place, Found, there, missing, no_place, found_if, item_at}
use Rattle.vrl_value.specs.Parts.{count_of, replace, replace_item, without, without_item}
use Rattle.vrl_value.specs.Tree.{Tree, array, object, Items, no_items, item, Members, no_members, member, find}
use Rattle.vrl_path.specs.FromEnd.{step_in}
use Rattle.vrl_path.specs.Parts.{replace_part, without_part}
use Rattle.vrl_path.specs.Read.{item_if, place_of, signed_part_at}
use Rattle.vrl_path.specs.Trees.{if_there, remove_tree}
use Rattle.vrl_path.specs.declared.path.Step.{Step as CodeStep}
use Rattle.vrl_path.specs.declared.path.Step.TheVariants.{Field, Place}

-- ---- what is found is below what it is found in

abbrev IsFoundIn : Option Tree → ℕ → Type 0
IsFoundIn None d = Unit {0}
IsFoundIn (Some u) d = depth_of u ≤ d

found_more : (o : Option Tree) (d e : ℕ) → d ≤ e → IsFoundIn o d → IsFoundIn o e
found_more None d e more is = tt
found_more (Some u) d e more is = omega arith

found_member_at : (o : Ordering) (u : Tree) (found : Option Tree) (d : ℕ) → IsFoundIn found d → IsFoundIn (match_ordering o found (Some u) found) (max (depth_of u) d)
found_member_at Less u found d later = found_more found d (max (depth_of u) d) (omega arith) later
found_member_at Equal u found d later = omega arith
found_member_at Greater u found d later = found_more found d (max (depth_of u) d) (omega arith) later

found_member : (k : List ℕ) (ms : Members) → IsFoundIn (find k ms) (members_depth ms)
found_member k no_members = tt
found_member k (member l u ms) = found_member_at (slice_cmp nat_cmp k l) u (find k ms) (members_depth ms) (found_member k ms)

found_item : (i : ℕ) (ts : Items) → IsFoundIn (item_at i ts) (items_depth ts)
found_item i no_items = tt
found_item zero (item u ts) = omega arith
found_item (suc i) (item u ts) = found_more (item_at i ts) (items_depth ts) (max (depth_of u) (items_depth ts)) (omega arith) (found_item i ts)

-- ---- one part in place of another that was found, or without one

-- a part is replaced by one that is no deeper than a bound on the whole
replaced_member : (k : List ℕ) (t : Tree) (ms : Members) (d : ℕ) → depth_of t ≤ d → members_depth ms ≤ d → members_depth (replace k t ms) ≤ d
replaced_member k t no_members d one all = all
replaced_member k t (member l u ms) d one all = chosen (slice_cmp nat_cmp k l) (replaced_member k t ms d one (omega arith)) where
  chosen : (o : Ordering) → members_depth (replace k t ms) ≤ d → members_depth (match_ordering o (member l u (replace k t ms)) (member l t ms) (member l u (replace k t ms))) ≤ d
  chosen Less later = omega arith
  chosen Equal later = omega arith
  chosen Greater later = omega arith

replaced_item : (i : ℕ) (t : Tree) (ts : Items) (d : ℕ) → depth_of t ≤ d → items_depth ts ≤ d → items_depth (replace_item i t ts) ≤ d
replaced_item i t no_items d one all = all
replaced_item zero t (item u ts) d one all = omega arith
replaced_item (suc i) t (item u ts) d one all = let h = replaced_item i t ts d one (omega arith) in omega arith

left_member : (k : List ℕ) (ms : Members) → members_depth (without k ms) ≤ members_depth ms
left_member k no_members = omega arith
left_member k (member l u ms) = chosen (slice_cmp nat_cmp k l) (left_member k ms) where
  chosen : (o : Ordering) → members_depth (without k ms) ≤ members_depth ms
      → members_depth (match_ordering o (member l u (without k ms)) (without k ms) (member l u (without k ms))) ≤ max (depth_of u) (members_depth ms)
  chosen Less later = omega arith
  chosen Equal later = omega arith
  chosen Greater later = omega arith

left_item : (i : ℕ) (ts : Items) → items_depth (without_item i ts) ≤ items_depth ts
left_item i no_items = omega arith
left_item zero (item u ts) = omega arith
left_item (suc i) (item u ts) = let h = left_item i ts in omega arith

left_part : (s : Step) (v : Tree) → depth_of (without_part s v) ≤ depth_of v
left_part (field k) (object ms) = let h = left_member k ms in omega arith
left_part (place i) (array ts) = let h = left_item i ts in omega arith
left_part s v = omega arith

-- a part that was found is replaced by one that is no deeper
kept_member : (k : List ℕ) (o : Option Tree) (ms : Members) (f : Tree → Tree) → find k ms ≡ o → ((u : Tree) → depth_of (f u) ≤ depth_of u) → IsFoundIn o (members_depth ms)
    → depth_of (if_there (found_if o) (λ u. object (replace k (f u) ms)) (object ms)) ≤ suc (members_depth ms)
kept_member k None ms f is less found = omega arith
kept_member k (Some u) ms f is less found = let h = replaced_member k (f u) ms (members_depth ms) (let l = less u in omega arith) (omega arith) in omega arith

kept_item : (i : ℕ) (o : Option Tree) (ts : Items) (f : Tree → Tree) → item_at i ts ≡ o → ((u : Tree) → depth_of (f u) ≤ depth_of u) → IsFoundIn o (items_depth ts)
    → depth_of (if_there (found_if o) (λ u. array (replace_item i (f u) ts)) (array ts)) ≤ suc (items_depth ts)
kept_item i None ts f is less found = omega arith
kept_item i (Some u) ts f is less found = let h = replaced_item i (f u) ts (items_depth ts) (let l = less u in omega arith) (omega arith) in omega arith

kept_place : (o : Option ℕ) (ts : Items) (f : Tree → Tree) → ((u : Tree) → depth_of (f u) ≤ depth_of u)
    → depth_of (if_there (item_if o ts) (λ u. replace_part (place (unwrap_or o 0)) (f u) (array ts)) (array ts)) ≤ suc (items_depth ts)
kept_place None ts f less = omega arith
kept_place (Some i) ts f less = kept_item i (item_at i ts) ts f refl less (found_item i ts)

kept_part : (s : CodeStep) (v : Tree) (f : Tree → Tree) → ((u : Tree) → depth_of (f u) ≤ depth_of u) → depth_of (if_there (signed_part_at v s) (λ u. replace_part (step_in v s) (f u) v) v) ≤ depth_of v
kept_part (Field k) (object ms) f less = kept_member k (find k ms) ms f refl less (found_member k ms)
kept_part (Place z) (array ts) f less = kept_place (place_of (count_of ts) z) ts f less
kept_part s v f less = omega arith

left_if : (f : Found) (v w : Tree) → depth_of w ≤ depth_of v → depth_of (if_there f (λ u. w) v) ≤ depth_of v
left_if (there u) v w less = less
left_if missing v w less = omega arith
left_if no_place v w less = omega arith

pub removed_depth : (v : Tree) (p : List CodeStep) → depth_of (remove_tree v p) ≤ depth_of v
removed_depth v [] = omega arith
removed_depth v (s ∷ []) = left_if (signed_part_at v s) v (without_part (step_in v s) v) (left_part (step_in v s) v)
removed_depth v (s ∷ r ∷ p) = kept_part s v (λ u. remove_tree u (r ∷ p)) (λ u. removed_depth u (r ∷ p))
