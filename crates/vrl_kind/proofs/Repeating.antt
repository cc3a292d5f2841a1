-- Kinds with longer arrays, part by part.
use Rattle.std.proofs.Common.{◌≡◌, ℕ, zero, suc, ◌+◌, ◌*◌, ◌<◌, ◌≤◌, min, List, [], ◌∷◌, ◌++◌, Ordering, Less, Equal, Greater, length, map, take, get_or, replicate, refl, sym, ap, ◌∙◌, arith}
use Rattle.std.proofs.Math.Nat.{mul-suc}
use Rattle.std.proofs.lemmas.Cmp.{ranked}
use Rattle.std.proofs.lemmas.List.{append_assoc, map_more, replicate_more, take_all}
use Rattle.std.specs.Ordering.{nat_cmp}
use Rattle.vrl_kind.specs.Count.{nodes, places_nodes, fields_nodes}
use Rattle.vrl_kind.specs.KindTree.{KindTree, known_place, known_field}
use Rattle.vrl_kind.specs.Stretch.{more_from, repeated, stretched, stretched_each, stretched_fields, stretched_from}
use Rattle.vrl_kind.specs.View.{places_view, fields_view}
use Rattle.vrl_kind.specs.declared.kind.KindField.{KindField}
use Rattle.vrl_kind.specs.declared.stretch.Stretch.{Stretch}
use Rattle.vrl_kind.proofs.Sameness.{one_field}

-- ---- at which places the same stands

pub more_here : (n more i : ℕ) → i ≡ n → more_from n more i ≡ more
more_here zero more zero is = refl
more_here zero more (suc i) is = absurd (omega (arith, is))
more_here (suc n) more zero is = absurd (omega (arith, is))
more_here (suc n) more (suc i) is = more_here n more i (omega (arith, is))

pub none_elsewhere : (n more i : ℕ) → (i ≡ n → ⊥) → more_from n more i ≡ 0
none_elsewhere zero more zero other = absurd (other refl)
none_elsewhere zero more (suc i) other = refl
none_elsewhere (suc n) more zero other = refl
none_elsewhere (suc n) more (suc i) other = none_elsewhere n more i (λ is. other (ap suc is))

-- ---- the places as a list

abbrev pub list_from : ℕ → ℕ → List Stretch → List KindTree → List KindTree
list_from n m zs [] = []
list_from zero m zs (k ∷ ks) = replicate m (stretched zs k) ++ (stretched zs k ∷ map (stretched zs) ks)
list_from (suc n) m zs (k ∷ ks) = stretched zs k ∷ list_from n m zs ks

each_list : (zs : List Stretch) (ks : List KindTree) → stretched_each zs (places_view ks) ≡ places_view (map (stretched zs) ks)
each_list zs [] = refl
each_list zs (k ∷ ks) = ap (λ ps. known_place (stretched zs k) ps) (each_list zs ks)

repeated_list : (m : ℕ) (k : KindTree) (ks : List KindTree) → repeated m k (places_view ks) ≡ places_view (replicate m k ++ ks)
repeated_list zero k ks = refl
repeated_list (suc m) k ks = ap (λ ps. known_place k ps) (repeated_list m k ks)

pub from_list : (n m : ℕ) (zs : List Stretch) (ks : List KindTree) → stretched_from n m zs (places_view ks) ≡ places_view (list_from n m zs ks)
from_list n m zs [] = refl
from_list zero m zs (k ∷ ks) =
    ap (λ ps. repeated m (stretched zs k) (known_place (stretched zs k) ps)) (each_list zs ks) ∙ repeated_list m (stretched zs k) (stretched zs k ∷ map (stretched zs) ks)
from_list (suc n) m zs (k ∷ ks) = ap (λ ps. known_place (stretched zs k) ps) (from_list n m zs ks)

map_next : {X Y : Type 0} (f : X → Y) (xs : List X) (i : ℕ) (x : X) → i < length xs → x ≡ get_or xs i x → map f (take (suc i) xs) ≡ map f (take i xs) ++ f x ∷ []
map_next f xs i x below is =
    let next : suc i ≡ i + 1 = omega arith in
    ap (λ n. map f (take n xs)) next ∙ map_more f xs i x below ∙ ap (λ y. map f (take i xs) ++ f y ∷ []) (sym is)

-- so often what stands at a place
abbrev copies : ℕ → ℕ → ℕ → KindTree → List KindTree
copies n m i k = replicate (more_from n m i) k ++ k ∷ []

from_next : (n m : ℕ) (zs : List Stretch) (ks : List KindTree) (i : ℕ) (k : KindTree) → i < length ks → k ≡ get_or ks i k
    → list_from n m zs (take (suc i) ks) ≡ list_from n m zs (take i ks) ++ copies n m i (stretched zs k)
from_next n m zs [] i k below is = absurd (omega (arith, below))
from_next zero m zs (x ∷ ks) zero k below is = ap (λ j. copies zero m zero (stretched zs j)) (sym is)
from_next zero m zs (x ∷ ks) (suc i) k below is =
    ap (λ ls. replicate m (stretched zs x) ++ (stretched zs x ∷ ls)) (map_next (stretched zs) ks i k (omega (arith, below)) is)
    ∙ sym (append_assoc (replicate m (stretched zs x)) (stretched zs x ∷ map (stretched zs) (take i ks)) (stretched zs k ∷ []))
from_next (suc n) m zs (x ∷ ks) zero k below is = ap (λ j. stretched zs j ∷ []) (sym is)
from_next (suc n) m zs (x ∷ ks) (suc i) k below is = ap (λ ls. stretched zs x ∷ ls) (from_next n m zs ks i k (omega (arith, below)) is)

-- the copies of a place put behind those of the places before it
pub copies_on : (n m : ℕ) (zs : List Stretch) (ks before repeated after : List KindTree) (i next : ℕ) (k copy : KindTree) (more : ℕ) → next ≡ suc i → i < length ks → k ≡ get_or ks i k
    → copy ≡ stretched zs k → more ≡ more_from n m i → repeated ≡ before ++ replicate more copy → after ≡ repeated ++ copy ∷ []
    → before ≡ list_from n m zs (take i ks) → after ≡ list_from n m zs (take next ks)
copies_on n m zs ks before repeated after i next k copy more e below is copied more_is first second done =
    second
    ∙ ap (λ ls. ls ++ copy ∷ []) first
    ∙ append_assoc before (replicate more copy) (copy ∷ [])
    ∙ ap (λ ls. ls ++ (replicate more copy ++ copy ∷ [])) done
    ∙ ap (λ j. list_from n m zs (take i ks) ++ (replicate j copy ++ copy ∷ [])) more_is
    ∙ ap (λ j. list_from n m zs (take i ks) ++ copies n m i j) copied
    ∙ sym (from_next n m zs ks i k below is)
    ∙ ap (λ j. list_from n m zs (take j ks)) (sym e)

-- all of them
pub copies_all : (n m : ℕ) (zs : List Stretch) (ks all : List KindTree) (i : ℕ) → length ks ≤ i → all ≡ list_from n m zs (take i ks) → places_view all ≡ stretched_from n m zs (places_view ks)
copies_all n m zs ks all i above done = ap places_view (done ∙ ap (list_from n m zs) (take_all i ks above)) ∙ sym (from_list n m zs ks)

-- ---- the fields as a list

abbrev pub field_stretched : List Stretch → KindField → KindField
field_stretched zs f = record { name = f.name; kind = stretched zs f.kind }

fields_list : (zs : List Stretch) (fs : List KindField) → stretched_fields zs (fields_view fs) ≡ fields_view (map (field_stretched zs) fs)
fields_list zs [] = refl
fields_list zs (f ∷ fs) = ap (λ gs. known_field f.name (stretched zs f.kind) gs) (fields_list zs fs)

pub fields_on : (zs : List Stretch) (fs before after : List KindField) (i next : ℕ) (f copy : KindField) → next ≡ suc i → i < length fs → f ≡ get_or fs i f → copy.name ≡ f.name → copy.kind ≡ stretched zs f.kind
    → after ≡ before ++ copy ∷ [] → before ≡ map (field_stretched zs) (take i fs) → after ≡ map (field_stretched zs) (take next fs)
fields_on zs fs before after i next f copy e below is names kinds pushed done =
    pushed
    ∙ ap (λ gs. gs ++ copy ∷ []) done
    ∙ ap (λ g. map (field_stretched zs) (take i fs) ++ g ∷ []) (one_field copy (field_stretched zs f) names kinds)
    ∙ sym (map_next (field_stretched zs) fs i f below is)
    ∙ ap (λ j. map (field_stretched zs) (take j fs)) (sym e)

pub fields_all : (zs : List Stretch) (fs all : List KindField) (i : ℕ) → length fs ≤ i → all ≡ map (field_stretched zs) (take i fs) → fields_view all ≡ stretched_fields zs (fields_view fs)
fields_all zs fs all i above done = ap fields_view (done ∙ ap (map (field_stretched zs)) (take_all i fs above)) ∙ sym (fields_list zs fs)

-- one more copy of a kind
pub one_more : (start before after : List KindTree) (n next : ℕ) (k copy : KindTree) → next ≡ n + 1 → copy ≡ k → after ≡ before ++ copy ∷ [] → before ≡ start ++ replicate n k → after ≡ start ++ replicate next k
one_more start before after n next k copy e same pushed done =
    pushed
    ∙ ap (λ ks. ks ++ copy ∷ []) done
    ∙ append_assoc start (replicate n k) (copy ∷ [])
    ∙ ap (λ j. start ++ (replicate n k ++ j ∷ [])) same
    ∙ ap (λ ks. start ++ ks) (replicate_more n k)
    ∙ ap (λ m. start ++ replicate m k) (sym e)

pub copies_done : (start all : List KindTree) (n m : ℕ) (k : KindTree) → n ≤ m → m ≤ n → all ≡ start ++ replicate n k → all ≡ start ++ replicate m k
copies_done start all n m k less more done = let same : n ≡ m = omega (arith, less, more) in done ∙ ap (λ j. start ++ replicate j k) same

-- ---- nodes

nodes_both : (ks ls : List KindTree) → places_nodes (places_view (ks ++ ls)) ≡ places_nodes (places_view ks) + places_nodes (places_view ls)
nodes_both [] ls = omega arith
nodes_both (k ∷ ks) ls = omega (arith, nodes_both ks ls)

nodes_times : (m : ℕ) (k : KindTree) → places_nodes (places_view (replicate m k)) ≡ nodes k * m
nodes_times zero k = omega arith
nodes_times (suc m) k = omega (arith, nodes_times m k, mul-suc (nodes k) m)

nodes_next : (n m : ℕ) (zs : List Stretch) (ks : List KindTree) (i : ℕ) (k : KindTree) → i < length ks → k ≡ get_or ks i k
    → places_nodes (stretched_from n m zs (places_view (take (suc i) ks)))
    ≡ places_nodes (stretched_from n m zs (places_view (take i ks))) + (nodes (stretched zs k) * more_from n m i + nodes (stretched zs k))
nodes_next n m zs ks i k below is =
    let before = list_from n m zs (take i ks) in
    let one = stretched zs k in
    let more = more_from n m i in
    ap places_nodes (from_list n m zs (take (suc i) ks))
    ∙ ap (λ ls. places_nodes (places_view ls)) (from_next n m zs ks i k below is)
    ∙ nodes_both before (copies n m i one)
    ∙ ap (λ j. j + places_nodes (places_view (copies n m i one))) (sym (ap places_nodes (from_list n m zs (take i ks))))
    ∙ ap (λ j. places_nodes (stretched_from n m zs (places_view (take i ks))) + j) (nodes_both (replicate more one) (one ∷ []) ∙ ap (λ j. j + places_nodes (places_view (one ∷ []))) (nodes_times more one) ∙ ap (λ j. nodes one * more + j) (omega arith))

-- sums and products that stay at their most stay so together
counted : (S s N e r p t M : ℕ) → s ≡ min S M → e ≡ min N M → p ≡ min (e * r) M → t ≡ min (min (s + e) M + p) M → t ≡ min (S + (N * r + N)) M
counted S s N e r p t M a b c d = by_order (nat_cmp N M) refl
  where
    within : N ≤ M → t ≡ min (S + (N * r + N)) M
    within few = let same : e ≡ N = omega (arith, b, few) in omega (arith, a, c, d, same, ap (λ n. n * r) same)

    by_order : (o : Ordering) → nat_cmp N M ≡ o → t ≡ min (S + (N * r + N)) M
    by_order Less o = let less : N < M = ranked N M Less (sym o) in within (omega (arith, less))
    by_order Equal o = let same : N ≡ M = ranked N M Equal (sym o) in within (omega (arith, same))
    by_order Greater o = let more : M < N = ranked N M Greater (sym o) in omega (arith, a, b, d, more)

pub nodes_on : (n m : ℕ) (zs : List Stretch) (ks : List KindTree) (i next : ℕ) (k : KindTree) (s e r p t M : ℕ) → next ≡ suc i → i < length ks → k ≡ get_or ks i k
    → e ≡ min (nodes (stretched zs k)) M → r ≡ more_from n m i → p ≡ min (e * r) M → t ≡ min (min (s + e) M + p) M
    → s ≡ min (places_nodes (stretched_from n m zs (places_view (take i ks)))) M → t ≡ min (places_nodes (stretched_from n m zs (places_view (take next ks)))) M
nodes_on n m zs ks i next k s e r p t M next_is below is each more product sum before =
    counted _ s (nodes (stretched zs k)) e (more_from n m i) p t M before each (product ∙ ap (λ j. min (e * j) M) more) sum
    ∙ ap (λ j. min j M) (sym (nodes_next n m zs ks i k below is))
    ∙ ap (λ j. min (places_nodes (stretched_from n m zs (places_view (take j ks)))) M) (sym next_is)

pub fields_nodes_on : (zs : List Stretch) (fs : List KindField) (i next : ℕ) (f : KindField) → next ≡ suc i → i < length fs → f ≡ get_or fs i f
    → fields_nodes (stretched_fields zs (fields_view (take next fs))) ≡ fields_nodes (stretched_fields zs (fields_view (take i fs))) + nodes (stretched zs f.kind)
fields_nodes_on zs [] i next f e below is = absurd (omega (arith, below))
fields_nodes_on zs (x ∷ fs) zero next f e below is = rw e (omega (arith, ap (λ g. nodes (stretched zs g.kind)) is))
fields_nodes_on zs (x ∷ fs) (suc i) next f e below is = rw e (omega (arith, fields_nodes_on zs fs i (suc i) f refl (omega (arith, below)) is))
