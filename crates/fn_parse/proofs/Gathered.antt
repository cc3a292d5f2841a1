-- Pairs that are added one after the other come to the values of each name.
use Rattle.std.proofs.Common.{◌≡◌, ◌++◌, ℕ, Bool, true, false, List, [], ◌∷◌, map, Option, Some, None, IfSome, bytes_eq, refl, sym, ap, ◌∙◌, subst, append_assoc, if◌then◌else◌}
use Rattle.std.proofs.lemmas.List.{append-nil}
use Rattle.std.proofs.lemmas.Slice.Eq.{bytes_eq-Decides}
use Rattle.vrl_value.specs.Laws.{MembersAreMaps}
use Rattle.vrl_value.specs.Parts.{without}
use Rattle.vrl_value.specs.Tree.{Tree, string, integer, boolean, null, timestamp, regex, array, object, Items, no_items, item, Members, no_members, find, put, IsOrdered, ItemsAreOrdered, MembersAreOrdered}
use Rattle.vrl_value.specs.View.{items_of_trees, items_view, tree_of}
use Rattle.vrl_value.specs.declared.value.Value.{Value}
use Rattle.vrl_value.proofs.Members.{find-put, find-put_other, find-without_other}
use Rattle.vrl_value.proofs.Order.{find_ordered, put_ordered, without_ordered}
use Rattle.vrl_builtin.proofs.GivenTags.{no}
use Rattle.fn_parse.specs.Gathering.{add_pair, add_pairs, behind, one_more}
use Rattle.fn_parse.specs.QueryString.{grouped, tree_of_values, values_of}

-- what stands at a name with these values
abbrev told : List (List ℕ) → Option Tree
told [] = None
told (s ∷ ss) = Some (tree_of_values (s ∷ ss))

behind_is : (ss : List (List ℕ)) (s : List ℕ) → behind (items_of_trees (map string ss)) s ≡ items_of_trees (map string (ss ++ s ∷ []))
behind_is [] s = refl
behind_is (t ∷ ss) s = ap (item (string t)) (behind_is ss s)

one_more_told : (ss : List (List ℕ)) (s : List ℕ) → Some (one_more (told ss) s) ≡ told (ss ++ s ∷ [])
one_more_told [] s = refl
one_more_told (t ∷ []) s = refl
one_more_told (t ∷ u ∷ ss) s = ap (λ ts. Some (array ts)) (behind_is (t ∷ u ∷ ss) s)

apart : (k j : List ℕ) → bytes_eq k j ≡ false → ¬ (k ≡ j)
apart k j is same = no (sym is ∙ (bytes_eq-Decides k j).1 same)

-- a text behind the values of an array
pub behind_pushed : (vs : List Value) (v : Value) (s : List ℕ) → tree_of v ≡ string s → items_view (vs ++ v ∷ []) ≡ behind (items_view vs) s
behind_pushed [] v s is = ap (λ t. item t no_items) is
behind_pushed (w ∷ vs) v s is = ap (item (tree_of w)) (behind_pushed vs v s is)

-- ---- one after the other

added : (b : Bool) (k j s : List ℕ) (ss : List (List ℕ)) (ms : Members) → bytes_eq k j ≡ b → find k ms ≡ told ss → find k (add_pair (j, s) ms) ≡ told (if b then ss ++ s ∷ [] else ss)
added true k j s ss ms is found =
    let same : k ≡ j = (bytes_eq-Decides k j).0 is in
    subst (λ (l : List ℕ). find k (add_pair (l, s) ms) ≡ told (ss ++ s ∷ [])) same
    (find-put k (one_more (find k ms) s) (without k ms) ∙ ap (λ o. Some (one_more o s)) found ∙ one_more_told ss s)
added false k j s ss ms is found =
    find-put_other k j (one_more (find j ms) s) (without j ms) (apart k j is) ∙ find-without_other k j ms (apart k j is) ∙ found

more_values : (b : Bool) (ss ts : List (List ℕ)) (s : List ℕ) → (if b then ss ++ s ∷ [] else ss) ++ ts ≡ ss ++ (if b then s ∷ ts else ts)
more_values true ss ts s = append_assoc ss (s ∷ []) ts
more_values false ss ts s = refl

all_added : (k : List ℕ) (ps : List (List ℕ × List ℕ)) (ss : List (List ℕ)) (ms : Members) → find k ms ≡ told ss → find k (add_pairs ps ms) ≡ told (ss ++ values_of k ps)
all_added k [] ss ms found = found ∙ ap told (sym (append-nil ss))
all_added k (p ∷ ps) ss ms found =
    all_added k ps (if bytes_eq k p.0 then ss ++ p.1 ∷ [] else ss) (add_pair p ms) (added (bytes_eq k p.0) k p.0 p.1 ss ms refl found)
    ∙ ap told (more_values (bytes_eq k p.0) ss (values_of k ps) p.1)

-- ---- each with its values

abbrev told_of : List (List ℕ) → List (List ℕ) → Option Tree
told_of [] all = None
told_of (s ∷ ss) all = Some (tree_of_values all)

placed : (b : Bool) (k j s : List ℕ) (all : List (List ℕ × List ℕ)) (ss : List (List ℕ)) (ms : Members) → bytes_eq k j ≡ b → find k ms ≡ told_of ss (values_of k all) →
    find k (put j (tree_of_values (values_of j all)) ms) ≡ told_of (if b then s ∷ ss else ss) (values_of k all)
placed true k j s all ss ms is found =
    let same : k ≡ j = (bytes_eq-Decides k j).0 is in
    subst (λ (l : List ℕ). find k (put l (tree_of_values (values_of l all)) ms) ≡ Some (tree_of_values (values_of k all))) same (find-put k (tree_of_values (values_of k all)) ms)
placed false k j s all ss ms is found = find-put_other k j (tree_of_values (values_of j all)) ms (apart k j is) ∙ found

all_placed : (k : List ℕ) (all ps : List (List ℕ × List ℕ)) → find k (grouped all ps) ≡ told_of (values_of k ps) (values_of k all)
all_placed k all [] = refl
all_placed k all (p ∷ ps) = placed (bytes_eq k p.0) k p.0 p.1 all (values_of k ps) (grouped all ps) refl (all_placed k all ps)

own_values : (ss : List (List ℕ)) → told ss ≡ told_of ss ss
own_values [] = refl
own_values (s ∷ ss) = refl

-- ---- both are in order

behind_ordered : (ts : Items) (s : List ℕ) → ItemsAreOrdered ts → ItemsAreOrdered (behind ts s)
behind_ordered no_items s ordered = (tt, tt)
behind_ordered (item t ts) s ordered = (ordered.0, behind_ordered ts s ordered.1)

one_more_ordered : (o : Option Tree) (s : List ℕ) → IfSome o IsOrdered → IsOrdered (one_more o s)
one_more_ordered None s ordered = tt
one_more_ordered (Some (array ts)) s ordered = behind_ordered ts s ordered
one_more_ordered (Some (string u)) s ordered = (ordered, (tt, tt))
one_more_ordered (Some (integer n)) s ordered = (ordered, (tt, tt))
one_more_ordered (Some (boolean b)) s ordered = (ordered, (tt, tt))
one_more_ordered (Some null) s ordered = (ordered, (tt, tt))
one_more_ordered (Some (timestamp n)) s ordered = (ordered, (tt, tt))
one_more_ordered (Some (regex n)) s ordered = (ordered, (tt, tt))
one_more_ordered (Some (object ms)) s ordered = (ordered, (tt, tt))

added_ordered : (ps : List (List ℕ × List ℕ)) (ms : Members) → MembersAreOrdered ms → MembersAreOrdered (add_pairs ps ms)
added_ordered [] ms ordered = ordered
added_ordered (p ∷ ps) ms ordered =
    added_ordered ps (add_pair p ms) (put_ordered p.0 (one_more (find p.0 ms) p.1) (without p.0 ms) (one_more_ordered (find p.0 ms) p.1 (find_ordered p.0 ms ordered)) (without_ordered p.0 ms ordered))

texts_ordered : (ss : List (List ℕ)) → ItemsAreOrdered (items_of_trees (map string ss))
texts_ordered [] = tt
texts_ordered (s ∷ ss) = (tt, texts_ordered ss)

values_ordered : (ss : List (List ℕ)) → IsOrdered (tree_of_values ss)
values_ordered [] = tt
values_ordered (s ∷ []) = tt
values_ordered (s ∷ t ∷ ss) = texts_ordered (s ∷ t ∷ ss)

grouped_ordered : (all ps : List (List ℕ × List ℕ)) → MembersAreOrdered (grouped all ps)
grouped_ordered all [] = tt
grouped_ordered all (p ∷ ps) = put_ordered p.0 (tree_of_values (values_of p.0 all)) (grouped all ps) (values_ordered (values_of p.0 all)) (grouped_ordered all ps)

pub gathered_is : MembersAreMaps → (ps : List (List ℕ × List ℕ)) → add_pairs ps no_members ≡ grouped ps ps
gathered_is maps ps =
    maps.one_map (add_pairs ps no_members) (grouped ps ps) (added_ordered ps no_members tt) (grouped_ordered ps ps)
    (λ k. all_added k ps [] no_members refl ∙ own_values (values_of k ps) ∙ sym (all_placed k ps ps))
