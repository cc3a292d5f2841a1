-- Entries in the order of their names, cut at one of them.
use Rattle.std.proofs.Common.{◌≡◌, ℕ, Bool, true, false, cond, not, T, ◌&&◌, List, [], ◌∷◌, ◌++◌, Some, None, Ordering, Less, Equal, Greater, nat_cmp, is_lt, is_eq, refl, sym, ap, ◌∙◌, subst, append_assoc}
use Rattle.std.proofs.lemmas.Cmp.{nat_list_cmp_total}
use Rattle.std.specs.Cmp.Lexicographic.{slice_cmp}
use Rattle.std.specs.FinMap.{nat_cmp-IsAntisymmetric, slice_cmp-IsAntisymmetric}
use Rattle.std.specs.FinMap.Entries.{below_all, by_order, is_sorted-put, is_sorted-where_key}
use Rattle.std.specs.Ordering.{eq_by_cmp, ordering_reverse}
use Rattle.std.specs.Prelude.{⊤}
use Rattle.vrl_state.specs.Ordered.{found, put_entry, without_name, Entry, IsSorted}

abbrev pub name_cmp : List ℕ → List ℕ → Ordering
name_cmp = slice_cmp nat_cmp

both : (a b : Bool) → T a → T b → T (a && b)
both true b p q = q
both false b p q = p

first : (a b : Bool) → T (a && b) → T a
first true b p = tt
first false b p = p

second : (a b : Bool) → T (a && b) → T b
second true b p = p
second false b p = absurd p

less : (o : Ordering) → T (is_lt o) → o ≡ Less
less Less p = refl
less Equal p = absurd p
less Greater p = absurd p

-- each name is below x
abbrev pub AllBelow : List ℕ → List Entry → Type 0
AllBelow x [] = ⊤
AllBelow x (d ∷ ds) = (name_cmp d.0 x ≡ Less) × AllBelow x ds

-- each name is above x
abbrev pub AllAbove : List ℕ → List Entry → Type 0
AllAbove x [] = ⊤
AllAbove x (d ∷ ds) = (name_cmp x d.0 ≡ Less) × AllAbove x ds

pub above : (d x : List ℕ) → name_cmp d x ≡ Less → name_cmp x d ≡ Greater
above d x h = nat_list_cmp_total.antisymm x d ∙ ap ordering_reverse h

pub below : (d x : List ℕ) → name_cmp d x ≡ Greater → name_cmp x d ≡ Less
below d x h = nat_list_cmp_total.antisymm x d ∙ ap ordering_reverse h

pub same_name : (x y : List ℕ) → name_cmp x y ≡ Equal → x ≡ y
same_name x y h = slice_cmp-IsAntisymmetric nat_cmp-IsAntisymmetric x y h

-- ---- cuts

above_from : (x : List ℕ) (es : List Entry) → T (below_all name_cmp x es) → AllAbove x es
above_from x [] h = tt
above_from x (e ∷ es) h = (less _ (first _ _ h), above_from x es (second _ _ h))

below_back : (x : List ℕ) (l m : List Entry) → T (below_all name_cmp x (l ++ m)) → T (below_all name_cmp x m)
below_back x [] m h = h
below_back x (d ∷ l) m h = below_back x l m (second _ _ h)

below_front : (x : List ℕ) (l m : List Entry) → T (below_all name_cmp x (l ++ m)) → T (below_all name_cmp x l)
below_front x [] m h = tt
below_front x (d ∷ l) m h = both _ _ (first _ _ h) (below_front x l m (second _ _ h))

pub sorted_front : (l m : List Entry) → IsSorted (l ++ m) → IsSorted l
sorted_front [] m h = tt
sorted_front (d ∷ l) m h = both _ _ (below_front d.0 l m (first _ _ h)) (sorted_front l m (second _ _ h))

pub sorted_back : (l m : List Entry) → IsSorted (l ++ m) → IsSorted m
sorted_back [] m h = h
sorted_back (d ∷ l) m h = sorted_back l m (second _ _ h)

below_from : (l : List Entry) (e : Entry) (r : List Entry) → IsSorted (l ++ e ∷ r) → AllBelow e.0 l
below_from [] e r h = tt
below_from (d ∷ l) e r h = (less _ (first _ _ (below_back d.0 l (e ∷ r) (first _ _ h))), below_from l e r (second _ _ h))

-- what stands around an entry of a list in order
pub record IsCut (l : List Entry) (e : Entry) (r : List Entry) : Type 0 where
  pub left : IsSorted l
  pub right : IsSorted r
  pub below : AllBelow e.0 l
  pub above : AllAbove e.0 r

pub cut_at : (l : List Entry) (e : Entry) (r : List Entry) → IsSorted (l ++ e ∷ r) → IsCut l e r
cut_at l e r h =
    let back = sorted_back l (e ∷ r) h in
    record { left = sorted_front l (e ∷ r) h; right = second _ _ back; below = below_from l e r h; above = above_from e.0 r (first _ _ back) }

pub below_more : (x y : List ℕ) (l : List Entry) → name_cmp x y ≡ Less → AllBelow x l → AllBelow y l
below_more x y [] p h = tt
below_more x y (d ∷ l) p h = (nat_list_cmp_total.trans d.0 x y h.0 p, below_more x y l p h.1)

pub above_more : (x y : List ℕ) (r : List Entry) → name_cmp x y ≡ Less → AllAbove y r → AllAbove x r
above_more x y [] p h = tt
above_more x y (d ∷ r) p h = (nat_list_cmp_total.trans x y d.0 p h.0, above_more x y r p h.1)

-- ---- look-up

find_past : (x : List ℕ) (l m : List Entry) → AllBelow x l → found x (l ++ m) ≡ found x m
find_past x [] m h = refl
find_past x (d ∷ l) m h = ap (λ o. cond (is_eq o) (Some d.1) (found x (l ++ m))) (above d.0 x h.0) ∙ find_past x l m h.1

pub find_none : (x : List ℕ) (m : List Entry) → AllAbove x m → found x m ≡ None
find_none x [] h = refl
find_none x (d ∷ m) h = ap (λ o. cond (is_eq o) (Some d.1) (found x m)) h.0 ∙ find_none x m h.1

pub find_absent : (x : List ℕ) (l : List Entry) → AllBelow x l → found x l ≡ None
find_absent x [] h = refl
find_absent x (d ∷ l) h = ap (λ o. cond (is_eq o) (Some d.1) (found x l)) (above d.0 x h.0) ∙ find_absent x l h.1

find_before : (x : List ℕ) (l m : List Entry) → AllAbove x m → found x (l ++ m) ≡ found x l
find_before x [] m h = find_none x m h
find_before x (d ∷ l) m h = ap (cond (eq_by_cmp name_cmp x d.0) (Some d.1)) (find_before x l m h)

pub find_left : (x : List ℕ) (l : List Entry) (e : Entry) (r : List Entry) → IsSorted (l ++ e ∷ r) → name_cmp x e.0 ≡ Less → found x (l ++ e ∷ r) ≡ found x l
find_left x l e r s p = find_before x l (e ∷ r) (p, above_more x e.0 r p (cut_at l e r s).above)

pub find_here : (x : List ℕ) (l : List Entry) (e : Entry) (r : List Entry) → IsSorted (l ++ e ∷ r) → name_cmp x e.0 ≡ Equal → found x (l ++ e ∷ r) ≡ Some e.1
find_here x l e r s p =
    find_past x l (e ∷ r) (subst (λ y. AllBelow y l) (sym (same_name x e.0 p)) (cut_at l e r s).below)
    ∙ ap (λ o. cond (is_eq o) (Some e.1) (found x r)) p

pub find_right : (x : List ℕ) (l : List Entry) (e : Entry) (r : List Entry) → IsSorted (l ++ e ∷ r) → name_cmp x e.0 ≡ Greater → found x (l ++ e ∷ r) ≡ found x r
find_right x l e r s p =
    find_past x l (e ∷ r) (below_more e.0 x l (below x e.0 p) (cut_at l e r s).below)
    ∙ ap (λ o. cond (is_eq o) (Some e.1) (found x r)) p

-- ---- an entry in its place

put_past : (f : Entry) (l m : List Entry) → AllBelow f.0 l → put_entry f (l ++ m) ≡ l ++ put_entry f m
put_past f [] m h = refl
put_past f (d ∷ l) m h =
    ap (λ o. by_order o (f ∷ d ∷ (l ++ m)) ((d.0, f.1) ∷ (l ++ m)) (d ∷ put_entry f (l ++ m))) (above d.0 f.0 h.0)
    ∙ ap (λ es. d ∷ es) (put_past f l m h.1)

pub put_left : (f : Entry) (l : List Entry) (e : Entry) (r : List Entry) → name_cmp f.0 e.0 ≡ Less → put_entry f (l ++ e ∷ r) ≡ put_entry f l ++ e ∷ r
put_left f [] e r p = ap (λ o. by_order o (f ∷ e ∷ r) ((e.0, f.1) ∷ r) (e ∷ put_entry f r)) p
put_left f (d ∷ l) e r p =
    elim (name_cmp f.0 d.0) as (λ o. by_order o (f ∷ d ∷ (l ++ e ∷ r)) ((d.0, f.1) ∷ (l ++ e ∷ r)) (d ∷ put_entry f (l ++ e ∷ r)) ≡ by_order o (f ∷ d ∷ l) ((d.0, f.1) ∷ l) (d ∷ put_entry f l) ++ e ∷ r) [
      | Less ↦ refl
      | Equal ↦ refl
      | Greater ↦ ap (λ es. d ∷ es) (put_left f l e r p)
    ]

pub put_here : (f : Entry) (l : List Entry) (e : Entry) (r : List Entry) → IsSorted (l ++ e ∷ r) → name_cmp f.0 e.0 ≡ Equal → put_entry f (l ++ e ∷ r) ≡ l ++ f ∷ r
put_here f l e r s p =
    let same = same_name f.0 e.0 p in
    put_past f l (e ∷ r) (subst (λ y. AllBelow y l) (sym same) (cut_at l e r s).below)
    ∙ ap (λ o. l ++ by_order o (f ∷ e ∷ r) ((e.0, f.1) ∷ r) (e ∷ put_entry f r)) p
    ∙ ap (λ y. l ++ (y, f.1) ∷ r) (sym same)

pub put_right : (f : Entry) (l : List Entry) (e : Entry) (r : List Entry) → IsSorted (l ++ e ∷ r) → name_cmp f.0 e.0 ≡ Greater → put_entry f (l ++ e ∷ r) ≡ l ++ e ∷ put_entry f r
put_right f l e r s p =
    put_past f l (e ∷ r) (below_more e.0 f.0 l (below f.0 e.0 p) (cut_at l e r s).below)
    ∙ ap (λ o. l ++ by_order o (f ∷ e ∷ r) ((e.0, f.1) ∷ r) (e ∷ put_entry f r)) p

pub sorted_put : (f : Entry) (es : List Entry) → IsSorted es → IsSorted (put_entry f es)
sorted_put f es s = is_sorted-put name_cmp nat_list_cmp_total f.0 f.1 es s

pub sorted_put_left : (f : Entry) (l : List Entry) (e : Entry) (r : List Entry) → IsSorted (l ++ e ∷ r) → name_cmp f.0 e.0 ≡ Less → IsSorted (put_entry f l ++ e ∷ r)
sorted_put_left f l e r s p = subst IsSorted (put_left f l e r p) (sorted_put f (l ++ e ∷ r) s)

pub sorted_put_here : (f : Entry) (l : List Entry) (e : Entry) (r : List Entry) → IsSorted (l ++ e ∷ r) → name_cmp f.0 e.0 ≡ Equal → IsSorted (l ++ f ∷ r)
sorted_put_here f l e r s p = subst IsSorted (put_here f l e r s p) (sorted_put f (l ++ e ∷ r) s)

pub sorted_put_right : (f : Entry) (l : List Entry) (e : Entry) (r : List Entry) → IsSorted (l ++ e ∷ r) → name_cmp f.0 e.0 ≡ Greater → IsSorted (l ++ e ∷ put_entry f r)
sorted_put_right f l e r s p = subst IsSorted (put_right f l e r s p) (sorted_put f (l ++ e ∷ r) s)

-- ---- without a name

keep_past : (x : List ℕ) (l m : List Entry) → AllBelow x l → without_name x (l ++ m) ≡ l ++ without_name x m
keep_past x [] m h = refl
keep_past x (d ∷ l) m h =
    ap (λ o. cond (not (is_eq o)) (d ∷ without_name x (l ++ m)) (without_name x (l ++ m))) (above d.0 x h.0)
    ∙ ap (λ es. d ∷ es) (keep_past x l m h.1)

keep_all : (x : List ℕ) (m : List Entry) → AllAbove x m → without_name x m ≡ m
keep_all x [] h = refl
keep_all x (d ∷ m) h =
    ap (λ o. cond (not (is_eq o)) (d ∷ without_name x m) (without_name x m)) h.0
    ∙ ap (λ es. d ∷ es) (keep_all x m h.1)

keep_before : (x : List ℕ) (l m : List Entry) → AllAbove x m → without_name x (l ++ m) ≡ without_name x l ++ m
keep_before x [] m h = keep_all x m h
keep_before x (d ∷ l) m h =
    elim (eq_by_cmp name_cmp x d.0) as (λ b. cond (not b) (d ∷ without_name x (l ++ m)) (without_name x (l ++ m)) ≡ cond (not b) (d ∷ without_name x l) (without_name x l) ++ m) [
      | true ↦ keep_before x l m h
      | false ↦ ap (λ es. d ∷ es) (keep_before x l m h)
    ]

pub keep_left : (x : List ℕ) (l : List Entry) (e : Entry) (r : List Entry) → IsSorted (l ++ e ∷ r) → name_cmp x e.0 ≡ Less → without_name x (l ++ e ∷ r) ≡ without_name x l ++ e ∷ r
keep_left x l e r s p = keep_before x l (e ∷ r) (p, above_more x e.0 r p (cut_at l e r s).above)

pub keep_here : (x : List ℕ) (l : List Entry) (e : Entry) (r : List Entry) → IsSorted (l ++ e ∷ r) → name_cmp x e.0 ≡ Equal → without_name x (l ++ e ∷ r) ≡ l ++ r
keep_here x l e r s p =
    let same = sym (same_name x e.0 p) in
    let cut = cut_at l e r s in
    keep_past x l (e ∷ r) (subst (λ y. AllBelow y l) same cut.below)
    ∙ ap (λ o. l ++ cond (not (is_eq o)) (e ∷ without_name x r) (without_name x r)) p
    ∙ ap (λ es. l ++ es) (keep_all x r (subst (λ y. AllAbove y r) same cut.above))

pub keep_right : (x : List ℕ) (l : List Entry) (e : Entry) (r : List Entry) → IsSorted (l ++ e ∷ r) → name_cmp x e.0 ≡ Greater → without_name x (l ++ e ∷ r) ≡ l ++ e ∷ without_name x r
keep_right x l e r s p =
    keep_past x l (e ∷ r) (below_more e.0 x l (below x e.0 p) (cut_at l e r s).below)
    ∙ ap (λ o. l ++ cond (not (is_eq o)) (e ∷ without_name x r) (without_name x r)) p

pub sorted_without : (x : List ℕ) (es : List Entry) → IsSorted es → IsSorted (without_name x es)
sorted_without x es s = is_sorted-where_key name_cmp _ es s

pub sorted_keep_left : (x : List ℕ) (l : List Entry) (e : Entry) (r : List Entry) → IsSorted (l ++ e ∷ r) → name_cmp x e.0 ≡ Less → IsSorted (without_name x l ++ e ∷ r)
sorted_keep_left x l e r s p = subst IsSorted (keep_left x l e r s p) (sorted_without x (l ++ e ∷ r) s)

pub sorted_keep_here : (x : List ℕ) (l : List Entry) (e : Entry) (r : List Entry) → IsSorted (l ++ e ∷ r) → name_cmp x e.0 ≡ Equal → IsSorted (l ++ r)
sorted_keep_here x l e r s p = subst IsSorted (keep_here x l e r s p) (sorted_without x (l ++ e ∷ r) s)

pub sorted_keep_right : (x : List ℕ) (l : List Entry) (e : Entry) (r : List Entry) → IsSorted (l ++ e ∷ r) → name_cmp x e.0 ≡ Greater → IsSorted (l ++ e ∷ without_name x r)
sorted_keep_right x l e r s p = subst IsSorted (keep_right x l e r s p) (sorted_without x (l ++ e ∷ r) s)

-- ---- sides that were cut further

-- what stands behind an entry of the left side
pub sorted_behind : (a : List Entry) (u : Entry) (b m : List Entry) → IsSorted ((a ++ u ∷ b) ++ m) → IsSorted (b ++ m)
sorted_behind a u b m s = second _ _ (sorted_back a (u ∷ (b ++ m)) (subst IsSorted (append_assoc a (u ∷ b) m) s))

-- what stands before an entry of the right side
pub sorted_upto : (a : List Entry) (e : Entry) (b : List Entry) (u : Entry) (r : List Entry) → IsSorted (a ++ e ∷ (b ++ u ∷ r)) → IsSorted (a ++ e ∷ b)
sorted_upto a e b u r s = sorted_front (a ++ e ∷ b) (u ∷ r) (subst IsSorted (sym (append_assoc a (e ∷ b) (u ∷ r))) s)

-- ---- two sides that share what stands between them

pub shared : (a : List Entry) (u : Entry) (b m left right : List Entry) → left ≡ a ++ u ∷ b → right ≡ b ++ m → left ++ m ≡ a ++ u ∷ right
shared a u b m left right p q = ap (λ es. es ++ m) p ∙ append_assoc a (u ∷ b) m ∙ ap (λ es. a ++ u ∷ es) (sym q)

pub shared_twice : (a : List Entry) (u : Entry) (l : List Entry) (v : Entry) (r m left right : List Entry) → left ≡ a ++ u ∷ l → right ≡ r ++ m → left ++ v ∷ right ≡ a ++ u ∷ ((l ++ v ∷ r) ++ m)
shared_twice a u l v r m left right p q = shared a u l (v ∷ right) left _ p (shared l v r m _ right refl q)
