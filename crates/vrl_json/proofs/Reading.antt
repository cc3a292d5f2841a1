-- The parts of an array or an object that were read, beside the tree of them with a stand-in for each number that isn't whole.
use Rattle.std.proofs.Common.{◌≡◌, ℕ, ℤ, List, [], ◌∷◌, ◌++◌, Bool, true, false, ◌&&◌, IsTrue, cond, Option, Some, None, option_map, option_and_then, Ordering, Less, Equal, Greater, nat_cmp, refl, sym, ap, ◌∙◌, true≢false}
use Rattle.std.specs.Cmp.Lexicographic.{slice_cmp}
use Rattle.std.specs.Ordering.{match_ordering}
use Rattle.json.specs.Token.{Token}
use Rattle.json.specs.Json.{parse_map, value}
use Rattle.json.proofs.Grammar.{value_is}
use Rattle.serde_json.specs.Data as json
use Rattle.serde_json.specs.Read.{converted, number_of, of_json}
use Rattle.vrl_value.specs.Tree.{Tree, integer, array, object, item, member, put, is_json, items_are_json, members_are_json}
use Rattle.vrl_value.specs.View.{tree_of, items_view}
use Rattle.vrl_value.specs.declared.value.Value.{Value}
use Rattle.vrl_json.specs.Line.{whole_number, whole_tree, whole_items, whole_members, reading_of_tree, whole, not_whole}
use Rattle.vrl_json.specs.Drafts.{draft, draft_tree, draft_items, draft_members, TellsStandIns}
use Rattle.vrl_json.proofs.Lines.{map_inverse}

-- ---- an array that grows at its end

-- the second parts behind the first
abbrev pub joined : json.Items → json.Items → json.Items
joined json.no_items later = later
joined (json.item d ds) later = json.item d (joined ds later)

pub joined-no_items : (ds : json.Items) → joined ds json.no_items ≡ ds
joined-no_items json.no_items = refl
joined-no_items (json.item d ds) = ap (json.item d) (joined-no_items ds)

joined-item : (ds : json.Items) (d : json.Data) (later : json.Items) → joined ds (json.item d later) ≡ joined (joined ds (json.item d json.no_items)) later
joined-item json.no_items d later = refl
joined-item (json.item e ds) d later = ap (json.item e) (joined-item ds d later)

pub none_yet : (left : Option (json.Items × List Token)) → left ≡ parse_map (joined json.no_items) left
none_yet None = refl
none_yet (Some p) = refl

pub one_more : (ds : json.Items) (d : json.Data) (left : Option (json.Items × List Token)) → parse_map (joined ds) (parse_map (json.item d) left) ≡ parse_map (joined (joined ds (json.item d json.no_items))) left
one_more ds d None = refl
one_more ds d (Some p) = ap (λ all. Some (all, p.1)) (joined-item ds d p.0)

pub draft_items-pushed : (ds : json.Items) (d : json.Data) (vs : List Value) (v : Value) → items_view vs ≡ draft_items ds → tree_of v ≡ draft_tree d
    → items_view (vs ++ v ∷ []) ≡ draft_items (joined ds (json.item d json.no_items))
draft_items-pushed json.no_items d [] v same last = rw last refl
draft_items-pushed json.no_items d (w ∷ vs) v same last = absurd (cc)
draft_items-pushed (json.item e ds) d [] v same last = absurd (cc)
draft_items-pushed (json.item e ds) d (w ∷ vs) v same last =
    let first : tree_of w ≡ draft_tree e = cc in
    rw (first, draft_items-pushed ds d vs v (cc) last) refl

-- ---- an object in which a name comes again

draft_put_at : (o : Ordering) (k l : List ℕ) (d e : json.Data) (ms : json.Members) → draft_members (json.put k d ms) ≡ put k (draft_tree d) (draft_members ms)
    → draft_members (match_ordering o (json.member k d (json.member l e ms)) (json.member l d ms) (json.member l e (json.put k d ms)))
    ≡ match_ordering o (member k (draft_tree d) (member l (draft_tree e) (draft_members ms))) (member l (draft_tree d) (draft_members ms)) (member l (draft_tree e) (put k (draft_tree d) (draft_members ms)))
draft_put_at Less k l d e ms later = refl
draft_put_at Equal k l d e ms later = refl
draft_put_at Greater k l d e ms later = ap (member l (draft_tree e)) later

pub draft_members-put : (k : List ℕ) (d : json.Data) (ms : json.Members) → draft_members (json.put k d ms) ≡ put k (draft_tree d) (draft_members ms)
draft_members-put k d json.no_members = refl
draft_members-put k d (json.member l e ms) = draft_put_at (slice_cmp nat_cmp k l) k l d e ms (draft_members-put k d ms)

-- ---- whether a stand-in was made

and_both : (a b : Bool) → IsTrue (a && b) → IsTrue a × IsTrue b
and_both true b both = (refl, both)
and_both false b both = absurd (true≢false (sym both))

pub joined_json : (ds : json.Items) (d : json.Data) → IsTrue (is_json (draft_tree d))
    → IsTrue (items_are_json (draft_items ds)) → IsTrue (items_are_json (draft_items (joined ds (json.item d json.no_items))))
joined_json json.no_items d last all = rw last refl
joined_json (json.item e ds) d last all =
    let parts = and_both (is_json (draft_tree e)) (items_are_json (draft_items ds)) all in
    rw (parts.0, joined_json ds d last parts.1) refl

-- one part more, beside those that were read
pub told_more : (before between after part parts all : Bool) → (IsTrue part → IsTrue parts → IsTrue all)
    → TellsStandIns before between parts → TellsStandIns between after part → TellsStandIns before after all
told_more before between after part parts all stays so_far last none =
    let last_none = last none in
    let none_yet = so_far last_none.0 in
    (none_yet.0, stays last_none.1 none_yet.1)

-- ---- a tree without a stand-in is that of the JSON

map_if : {A B : Type 0} (f : A → B) (b : Bool) (a : A) → option_map f (cond b (Some a) None) ≡ cond b (Some (f a)) None
map_if f true a = refl
map_if f false a = refl

both_if : {A B : Type 0} (join : Tree → A → B) (b c : Bool) (t : Tree) (a : A) → option_and_then (λ t. option_map (join t) (cond c (Some a) None)) (cond b (Some t) None) ≡ cond (b && c) (Some (join t a)) None
both_if join true true t a = refl
both_if join true false t a = refl
both_if join false true t a = refl
both_if join false false t a = refl

number_is_whole : (n : Option ℤ) → option_map integer n ≡ cond (is_json (draft n)) (Some (draft n)) None
number_is_whole None = refl
number_is_whole (Some n) = refl

mutual
  tree_is_whole : (d : json.Data) → whole_tree d ≡ cond (is_json (draft_tree d)) (Some (draft_tree d)) None
  tree_is_whole json.null = refl
  tree_is_whole (json.boolean b) = refl
  tree_is_whole (json.number n) = number_is_whole (whole_number n)
  tree_is_whole (json.string s) = refl
  tree_is_whole (json.array ds) = ap (option_map array) (draft_items_whole ds) ∙ map_if array (items_are_json (draft_items ds)) (draft_items ds)
  tree_is_whole (json.object ms) = ap (option_map object) (members_are_whole ms) ∙ map_if object (members_are_json (draft_members ms)) (draft_members ms)

  draft_items_whole : (ds : json.Items) → whole_items ds ≡ cond (items_are_json (draft_items ds)) (Some (draft_items ds)) None
  draft_items_whole json.no_items = refl
  draft_items_whole (json.item d ds) = rw (tree_is_whole d, draft_items_whole ds) (both_if item (is_json (draft_tree d)) (items_are_json (draft_items ds)) (draft_tree d) (draft_items ds))

  members_are_whole : (ms : json.Members) → whole_members ms ≡ cond (members_are_json (draft_members ms)) (Some (draft_members ms)) None
  members_are_whole json.no_members = refl
  members_are_whole (json.member k d ms) = rw (tree_is_whole d, members_are_whole ms) (both_if (member k) (is_json (draft_tree d)) (members_are_json (draft_members ms)) (draft_tree d) (draft_members ms))

pub reading-whole : (d : json.Data) (t : Tree) → t ≡ draft_tree d → is_json t ≡ true → reading_of_tree (whole_tree d) ≡ whole t
reading-whole d t same json = rw (tree_is_whole d, ← same, json) refl

pub reading-partial : (d : json.Data) (t : Tree) → t ≡ draft_tree d → is_json t ≡ false → reading_of_tree (whole_tree d) ≡ not_whole
reading-partial d t same json = rw (tree_is_whole d, ← same, json) refl

-- ---- a number that was read

pub number_read : (depth : ℕ) (s : List ℕ) (later : List Token) (n : Option ℤ) → option_map whole_number (number_of s) ≡ Some n
    → (d : json.Data) × (converted of_json (value depth (Token.number s ∷ later)) ≡ Some (d, later)) × (draft n ≡ draft_tree d)
number_read depth s later n read =
    let number = map_inverse whole_number (number_of s) n read in
    (json.number number.0, ap (converted of_json) (value_is depth (Token.number s ∷ later)) ∙ ap (λ o. option_map (λ d. (d, later)) (option_map json.number o)) number.1, ap draft number.2)

none_mapped : {A B : Type 0} (f : A → B) (o : Option A) → option_map f o ≡ None → o ≡ None
none_mapped f None none = refl
none_mapped f (Some a) none = absurd (cc)

pub number_refused : (depth : ℕ) (s : List ℕ) (later : List Token) → option_map whole_number (number_of s) ≡ None → converted of_json (value depth (Token.number s ∷ later)) ≡ None
number_refused depth s later none = ap (converted of_json) (value_is depth (Token.number s ∷ later)) ∙ rw (none_mapped whole_number (number_of s) none)
