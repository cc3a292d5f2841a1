-- The parts of a JSON array or object beside those of the tree, one by one.
use Rattle.std.proofs.Common.{◌≡◌, ℕ, List, [], ◌∷◌, ◌++◌, length, map, Option, Some, None, option_map, option_and_then, Ordering, Less, Equal, Greater, string_bytes, nat_cmp, refl, sym, ap, ◌∙◌, arith}
use Rattle.std.proofs.lemmas.List.{map-append}
use Rattle.std.specs.Cmp.Lexicographic.{slice_cmp}
use Rattle.std.specs.Ordering.{match_ordering}
use Rattle.serde_json.specs.Data as json
use Rattle.serde_json.specs.View.{view, items_view as json_items_view, members_view as json_members_view}
use Rattle.serde_json.specs.declared.value.Value.{Value as JsonValue}
use Rattle.serde_json.proofs.Views.{Entry as JsonEntry}
use Rattle.vrl_value.specs.Tree.{Tree, item, Members, no_members, member, put}
use Rattle.vrl_value.specs.View.{tree_of, items_view}
use Rattle.vrl_value.specs.declared.value.Value.{Value}
use Rattle.vrl_json.specs.Line.{whole_tree, whole_items, whole_members}

-- where a part and the rest have trees, what these are
pub parts_of : {A : Type 0} (join : Tree → A → A) (part : Option Tree) (rest : Option A) (all : A) → option_and_then (λ t. option_map (join t) rest) part ≡ Some all
    → (t : Tree) × (others : A) × (part ≡ Some t) × (rest ≡ Some others) × (all ≡ join t others)
parts_of join None rest all e = absurd (cc)
parts_of join (Some t) None all e = absurd (cc)
parts_of join (Some t) (Some others) all e = (t, others, refl, refl, cc)

whole_members-put_at : (o : Ordering) (k l : List ℕ) (d e : json.Data) (t u : Tree) (ms : json.Members) (ns : Members) → whole_tree d ≡ Some t → whole_tree e ≡ Some u → whole_members ms ≡ Some ns
    → whole_members (json.put k d ms) ≡ Some (put k t ns)
    → whole_members (match_ordering o (json.member k d (json.member l e ms)) (json.member l d ms) (json.member l e (json.put k d ms))) ≡ Some (match_ordering o (member k t (member l u ns)) (member l t ns) (member l u (put k t ns)))
whole_members-put_at Less k l d e t u ms ns part other rest later = rw (part, other, rest)
whole_members-put_at Equal k l d e t u ms ns part other rest later = rw (part, rest)
whole_members-put_at Greater k l d e t u ms ns part other rest later = rw (other, later)

-- the same member put into both
pub whole_members-put : (k : List ℕ) (d : json.Data) (t : Tree) (ms : json.Members) (ns : Members) → whole_tree d ≡ Some t → whole_members ms ≡ Some ns → whole_members (json.put k d ms) ≡ Some (put k t ns)
whole_members-put k d t json.no_members ns part rest =
    let none : no_members ≡ ns = cc in
    rw (part) (ap (λ n. Some (put k t n)) none)
whole_members-put k d t (json.member l e ms) ns part rest =
    let p = parts_of (member l) (whole_tree e) (whole_members ms) ns rest in
    rw (p.4) (whole_members-put_at (slice_cmp nat_cmp k l) k l d e t p.0 ms p.1 part p.2 p.3 (whole_members-put k d t ms p.1 part p.3))

none_behind : {A : Type 0} (join : Tree → A → A) (part : Option Tree) → option_and_then (λ t. option_map (join t) None) part ≡ None
none_behind join None = refl
none_behind join (Some t) = refl

-- an object has no tree where a part of it has none
pub whole_members-refused : (done : List JsonEntry) (e : JsonEntry) (left : List JsonEntry) → whole_tree (view e.1) ≡ None → whole_members (json_members_view (done ++ e ∷ left)) ≡ None
whole_members-refused [] e left none = rw none
whole_members-refused (first ∷ done) e left none = rw (whole_members-refused done e left none) (none_behind (member (string_bytes first.0)) (whole_tree (view first.1)))

-- nor has an array
pub whole_items-refused : (done : List JsonValue) (v : JsonValue) (left : List JsonValue) → whole_tree (view v) ≡ None → whole_items (json_items_view (done ++ v ∷ left)) ≡ None
whole_items-refused [] v left none = rw none
whole_items-refused (first ∷ done) v left none = rw (whole_items-refused done v left none) (none_behind item (whole_tree (view first)))

-- and where each part of it has one, it has these
pub whole_items-each : (vs : List JsonValue) (ws : List Value) → map (λ v. whole_tree (view v)) vs ≡ map (λ w. Some (tree_of w)) ws → whole_items (json_items_view vs) ≡ Some (items_view ws)
whole_items-each [] [] each = refl
whole_items-each [] (w ∷ ws) each = absurd (cc)
whole_items-each (v ∷ vs) [] each = absurd (cc)
whole_items-each (v ∷ vs) (w ∷ ws) each =
    let first : whole_tree (view v) ≡ Some (tree_of w) = cc in
    rw (first, whole_items-each vs ws (cc)) refl

-- one part more in both
pub each-pushed : (vs : List JsonValue) (v : JsonValue) (ws : List Value) (w : Value) → map (λ v. whole_tree (view v)) vs ≡ map (λ w. Some (tree_of w)) ws → whole_tree (view v) ≡ Some (tree_of w)
    → map (λ v. whole_tree (view v)) (vs ++ v ∷ []) ≡ map (λ w. Some (tree_of w)) (ws ++ w ∷ [])
each-pushed vs v ws w each last = map-append _ vs (v ∷ []) ∙ rw (each, last) (sym (map-append _ ws (w ∷ [])))

pub nothing_left : {A : Type 0} (l : List A) → length l ≡ 0 → l ≡ []
nothing_left [] none = refl
nothing_left (x ∷ xs) none = absurd (omega arith)
