-- What a line stands for is in order, since the JSON in it is: each member is put into its place there.
use Rattle.std.proofs.Common.{◌≡◌, ℕ, List, Option, Some, None, IfSome, option_map, option_and_then, Ordering, Less, Equal, Greater, nat_cmp, refl, sym, ap, ◌∙◌, subst}
use Rattle.std.proofs.lemmas.Cmp.{nat_list_cmp_total}
use Rattle.std.specs.Prelude.{⊤}
use Rattle.std.specs.Cmp.Lexicographic.{slice_cmp}
use Rattle.std.specs.Ordering.{match_ordering, ordering_reverse}
use Rattle.json.specs.Lex.{tokens}
use Rattle.json.specs.Json as text
use Rattle.serde_json.specs.Data as json
use Rattle.serde_json.specs.Read.{number_of, of_json, of_items, of_members, max_depth, read}
use Rattle.vrl_value.specs.Tree as tree
use Rattle.vrl_json.specs.Line.{whole_number, whole_tree, whole_items, whole_members, reading_of, whole}
use Rattle.vrl_json.proofs.Lines.{line_read, map_inverse}
use Rattle.vrl_json.proofs.Members.{parts_of}

-- the key is before each of the members of the JSON object
abbrev IsBefore : List ℕ → json.Members → Type 0
IsBefore k json.no_members = ⊤
IsBefore k (json.member l d ms) = (slice_cmp nat_cmp k l ≡ Less) × IsBefore k ms

-- and the members of each object in the JSON stand in the order of their keys' bytes, each key once
abbrev mutual
  IsOrdered : json.Data → Type 0
  IsOrdered json.null = ⊤
  IsOrdered (json.boolean b) = ⊤
  IsOrdered (json.number n) = ⊤
  IsOrdered (json.string s) = ⊤
  IsOrdered (json.array ds) = ItemsAreOrdered ds
  IsOrdered (json.object ms) = MembersAreOrdered ms

  ItemsAreOrdered : json.Items → Type 0
  ItemsAreOrdered json.no_items = ⊤
  ItemsAreOrdered (json.item d ds) = IsOrdered d × ItemsAreOrdered ds

  MembersAreOrdered : json.Members → Type 0
  MembersAreOrdered json.no_members = ⊤
  MembersAreOrdered (json.member k d ms) = IsBefore k ms × IsOrdered d × MembersAreOrdered ms

-- ---- members stay in order where one is put into its place

-- what is before a key is before what that key is before
before_all : (j k : List ℕ) (ms : json.Members) → slice_cmp nat_cmp j k ≡ Less → IsBefore k ms → IsBefore j ms
before_all j k json.no_members less rest = tt
before_all j k (json.member l e ms) less rest = (nat_list_cmp_total.trans j k l less rest.0, before_all j k ms less rest.1)

before-put_at : (o : Ordering) (j k l : List ℕ) (d e : json.Data) (ms : json.Members) → slice_cmp nat_cmp j k ≡ Less → IsBefore j (json.member l e ms) → IsBefore j (json.put k d ms)
    → IsBefore j (match_ordering o (json.member k d (json.member l e ms)) (json.member l d ms) (json.member l e (json.put k d ms)))
before-put_at Less j k l d e ms less rest later = (less, rest)
before-put_at Equal j k l d e ms less rest later = rest
before-put_at Greater j k l d e ms less rest later = (rest.0, later)

before-put : (j k : List ℕ) (d : json.Data) (ms : json.Members) → slice_cmp nat_cmp j k ≡ Less → IsBefore j ms → IsBefore j (json.put k d ms)
before-put j k d json.no_members less rest = (less, tt)
before-put j k d (json.member l e ms) less rest = before-put_at (slice_cmp nat_cmp k l) j k l d e ms less rest (before-put j k d ms less rest.1)

ordered-put_at : (o : Ordering) (k l : List ℕ) (d e : json.Data) (ms : json.Members) → slice_cmp nat_cmp k l ≡ o → IsOrdered d → MembersAreOrdered (json.member l e ms) → MembersAreOrdered (json.put k d ms)
    → MembersAreOrdered (match_ordering o (json.member k d (json.member l e ms)) (json.member l d ms) (json.member l e (json.put k d ms)))
ordered-put_at Less k l d e ms is new old later = ((is, before_all k l ms is old.0), new, old)
ordered-put_at Equal k l d e ms is new old later = (old.0, new, old.2)
ordered-put_at Greater k l d e ms is new old later =
    (before-put l k d ms (nat_list_cmp_total.antisymm l k ∙ ap ordering_reverse is) old.0, old.1, later)

ordered-put : (k : List ℕ) (d : json.Data) (ms : json.Members) → IsOrdered d → MembersAreOrdered ms → MembersAreOrdered (json.put k d ms)
ordered-put k d json.no_members new old = (tt, new, tt)
ordered-put k d (json.member l e ms) new old = ordered-put_at (slice_cmp nat_cmp k l) k l d e ms refl new old (ordered-put k d ms new old.2)

-- ---- so what is read is in order

kept-map : {A B : Type 0} (P : A → Type 0) (Q : B → Type 0) (f : A → B) → ((a : A) → P a → Q (f a)) → (o : Option A) → IfSome o P → IfSome (option_map f o) Q
kept-map P Q f keeps None p = tt
kept-map P Q f keeps (Some a) p = keeps a p

kept-and_then : {A B : Type 0} (P : A → Type 0) (Q : B → Type 0) (f : A → Option B) → ((a : A) → P a → IfSome (f a) Q) → (o : Option A) → IfSome o P → IfSome (option_and_then f o) Q
kept-and_then P Q f keeps None p = tt
kept-and_then P Q f keeps (Some a) p = keeps a p

-- nothing is asked of a part that has no order
any : {A : Type 0} (o : Option A) → IfSome o (λ _. ⊤)
any None = tt
any (Some a) = tt

mutual
  ordered-of_json : (j : text.Json) → IfSome (of_json j) IsOrdered
  ordered-of_json text.null = tt
  ordered-of_json (text.boolean b) = tt
  ordered-of_json (text.number s) = kept-map (λ _. ⊤) IsOrdered json.number (λ n any. tt) (number_of s) (any (number_of s))
  ordered-of_json (text.string s) = tt
  ordered-of_json (text.array js) = kept-map ItemsAreOrdered IsOrdered json.array (λ ds ordered. ordered) (of_items js) (ordered-of_items js)
  ordered-of_json (text.object ms) = kept-map MembersAreOrdered IsOrdered json.object (λ ns ordered. ordered) (of_members ms json.no_members) (ordered-of_members ms json.no_members tt)

  ordered-of_items : (js : text.Items) → IfSome (of_items js) ItemsAreOrdered
  ordered-of_items text.no_items = tt
  ordered-of_items (text.item j js) =
      kept-and_then IsOrdered ItemsAreOrdered _ (λ d first. kept-map ItemsAreOrdered ItemsAreOrdered (json.item d) (λ ds rest. (first, rest)) (of_items js) (ordered-of_items js)) (of_json j) (ordered-of_json j)

  ordered-of_members : (ms : text.Members) (found : json.Members) → MembersAreOrdered found → IfSome (of_members ms found) MembersAreOrdered
  ordered-of_members text.no_members found ordered = ordered
  ordered-of_members (text.member k j ms) found ordered =
      kept-and_then IsOrdered MembersAreOrdered _ (λ d first. ordered-of_members ms (json.put k d found) (ordered-put k d found first ordered)) (of_json j) (ordered-of_json j)

ordered-read : (bytes : List ℕ) (d : json.Data) → read bytes ≡ Some d → IsOrdered d
ordered-read bytes d e =
    let parsed = option_and_then (λ p. text.if_last p.0 p.1) (text.value max_depth (tokens bytes)) in
    subst (λ o. IfSome o IsOrdered) e (kept-and_then (λ _. ⊤) IsOrdered of_json (λ j any. ordered-of_json j) parsed (any parsed))

-- ---- and its tree has the same members

before-whole : (k : List ℕ) (ms : json.Members) (ts : tree.Members) → IsBefore k ms → whole_members ms ≡ Some ts → tree.IsBefore k ts
before-whole k json.no_members ts before e = let same : tree.no_members ≡ ts = cc in subst (tree.IsBefore k) same tt
before-whole k (json.member l d ms) ts before e =
    let p = parts_of (tree.member l) (whole_tree d) (whole_members ms) ts e in
    subst (tree.IsBefore k) (sym p.4) (before.0, before-whole k ms p.1 before.1 p.3)

mutual
  ordered-whole : (d : json.Data) (t : tree.Tree) → IsOrdered d → whole_tree d ≡ Some t → tree.IsOrdered t
  ordered-whole json.null t ordered e = let same : tree.null ≡ t = cc in subst tree.IsOrdered same tt
  ordered-whole (json.boolean b) t ordered e = let same : tree.boolean b ≡ t = cc in subst tree.IsOrdered same tt
  ordered-whole (json.number n) t ordered e = subst tree.IsOrdered (sym (map_inverse tree.integer (whole_number n) t e).2) tt
  ordered-whole (json.string s) t ordered e = let same : tree.string s ≡ t = cc in subst tree.IsOrdered same tt
  ordered-whole (json.array ds) t ordered e =
      let p = map_inverse tree.array (whole_items ds) t e in
      subst tree.IsOrdered (sym p.2) (items_ordered-whole ds p.0 ordered p.1)
  ordered-whole (json.object ms) t ordered e =
      let p = map_inverse tree.object (whole_members ms) t e in
      subst tree.IsOrdered (sym p.2) (members_ordered-whole ms p.0 ordered p.1)

  items_ordered-whole : (ds : json.Items) (ts : tree.Items) → ItemsAreOrdered ds → whole_items ds ≡ Some ts → tree.ItemsAreOrdered ts
  items_ordered-whole json.no_items ts ordered e = let same : tree.no_items ≡ ts = cc in subst tree.ItemsAreOrdered same tt
  items_ordered-whole (json.item d ds) ts ordered e =
      let p = parts_of tree.item (whole_tree d) (whole_items ds) ts e in
      subst tree.ItemsAreOrdered (sym p.4) (ordered-whole d p.0 ordered.0 p.2, items_ordered-whole ds p.1 ordered.1 p.3)

  members_ordered-whole : (ms : json.Members) (ts : tree.Members) → MembersAreOrdered ms → whole_members ms ≡ Some ts → tree.MembersAreOrdered ts
  members_ordered-whole json.no_members ts ordered e = let same : tree.no_members ≡ ts = cc in subst tree.MembersAreOrdered same tt
  members_ordered-whole (json.member k d ms) ts ordered e =
      let p = parts_of (tree.member k) (whole_tree d) (whole_members ms) ts e in
      subst tree.MembersAreOrdered (sym p.4) (before-whole k ms p.1 ordered.0 p.3, ordered-whole d p.0 ordered.1 p.2, members_ordered-whole ms p.1 ordered.2 p.3)

pub line_is_ordered : (bytes : List ℕ) (t : tree.Tree) → reading_of bytes ≡ whole t → tree.IsOrdered t
line_is_ordered bytes t e =
    let found = line_read bytes t e in
    ordered-whole found.0 t (ordered-read bytes found.0 found.1) found.2
