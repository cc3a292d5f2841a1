-- Variables by their numbers, and by their names.
use Rattle.std.proofs.Common.{◌≡◌, ℕ, zero, suc, ◌<◌, Bool, true, false, cond, ◌||◌, List, [], ◌∷◌, length, set, Option, Some, None, slice_get, unwrap_or, Ordering, Less, Equal, Greater, is_eq, refl, sym, ap, ◌∙◌, subst, arith}
use Rattle.std.proofs.lemmas.Bool.{or_parts}
use Rattle.std.proofs.lemmas.Cmp.{nat_list_cmp_total, tied_itself}
use Rattle.std.specs.Cmp.{eq_by_cmp_equiv}
use Rattle.std.specs.Cmp.Lexicographic.{slice_cmp}
use Rattle.std.specs.FinMap as finite
use Rattle.std.specs.FinMap.{IsAntisymmetric, nat_cmp-IsAntisymmetric, slice_cmp-IsAntisymmetric}
use Rattle.std.specs.Ordering.{eq_by_cmp, nat_cmp}
use Rattle.vrl_value.specs.Tree.{Tree}
use Rattle.vrl_store.specs.StoreView.{Names, Variables, is_among, name_at, variables_of, with_variable, AreDistinct}

abbrev pub tied : List ℕ → List ℕ → Bool
tied = eq_by_cmp (slice_cmp nat_cmp)

pub one_name : IsAntisymmetric (slice_cmp nat_cmp)
one_name = slice_cmp-IsAntisymmetric nat_cmp-IsAntisymmetric

is_equal : (o : Ordering) → is_eq o ≡ true → o ≡ Equal
is_equal Less same = cc
is_equal Equal same = refl
is_equal Greater same = cc

pub named_so : (x y : List ℕ) → tied x y ≡ true → x ≡ y
named_so x y is = one_name x y (is_equal (slice_cmp nat_cmp x y) is)

pub tied_swapped : (x y : List ℕ) → tied x y ≡ tied y x
tied_swapped x y = (eq_by_cmp_equiv nat_list_cmp_total).symm x y

pub itself : (x : List ℕ) → tied x x ≡ true
itself x = ap is_eq (tied_itself nat_list_cmp_total x)

-- ---- maps with one value more

pub inserted : (m : Variables) (y : List ℕ) (v : Tree) (x : List ℕ) → finite.get (finite.insert m y v) x ≡ cond (tied x y) (Some v) (finite.get m x)
inserted m y v x = finite.get-insert nat_list_cmp_total m y v x

pub one_map : (m n : Variables) → ((x : List ℕ) → finite.get m x ≡ finite.get n x) → m ≡ n
one_map m n is = finite.same_map nat_list_cmp_total one_name m n is

twice : (b : Bool) (v w : Tree) (found : Option Tree) → cond b (Some v) (cond b (Some w) found) ≡ cond b (Some v) found
twice true v w found = refl
twice false v w found = refl

-- what is put a second time at a name stands there
pub insert_twice : (m : Variables) (x : List ℕ) (v w : Tree) → finite.insert (finite.insert m x w) x v ≡ finite.insert m x v
insert_twice m x v w = one_map _ _ (λ y. inserted (finite.insert m x w) x v y ∙ ap (cond (tied y x) (Some v)) (inserted m x w y) ∙ twice (tied y x) v w (finite.get m y) ∙ sym (inserted m x v y))

not_both : (x y z : List ℕ) → tied x y ≡ false → tied z x ≡ true → tied z y ≡ true → true ≡ false
not_both x y z other first second = sym (subst (λ a. tied a y ≡ true) (named_so z x first) second) ∙ other

swapped : (b c : Bool) (v w : Tree) (found : Option Tree) → (b ≡ true → c ≡ true → true ≡ false) → cond b (Some v) (cond c (Some w) found) ≡ cond c (Some w) (cond b (Some v) found)
swapped true true v w found apart = let wrong : true ≡ false = apart refl refl in cc
swapped true false v w found apart = refl
swapped false true v w found apart = refl
swapped false false v w found apart = refl

-- values at two names stand there whichever is put first
pub insert_swapped : (m : Variables) (x y : List ℕ) (v w : Tree) → tied x y ≡ false → finite.insert (finite.insert m y w) x v ≡ finite.insert (finite.insert m x v) y w
insert_swapped m x y v w other = one_map _ _ (λ z.
    inserted (finite.insert m y w) x v z ∙ ap (cond (tied z x) (Some v)) (inserted m y w z)
    ∙ swapped (tied z x) (tied z y) v w (finite.get m z) (not_both x y z other)
    ∙ sym (inserted (finite.insert m x v) y w z ∙ ap (cond (tied z y) (Some w)) (inserted m x v z)))

pub with_swapped : (m : Variables) (x y : List ℕ) (v : Option Tree) (w : Tree) → tied x y ≡ false → with_variable x v (finite.insert m y w) ≡ finite.insert (with_variable x v m) y w
with_swapped m x y None w other = refl
with_swapped m x y (Some v) w other = insert_swapped m x y v w other

with_twice : (m : Variables) (x : List ℕ) (w : Option Tree) (v : Tree) → finite.insert m x v ≡ finite.insert (with_variable x w m) x v
with_twice m x None v = refl
with_twice m x (Some w) v = sym (insert_twice m x v w)

-- ---- names

-- a name that isn't among others isn't any of them
pub apart_at : (x : List ℕ) (names : Names) (i : ℕ) → is_among x names ≡ false → i < length names → tied x (name_at names i) ≡ false
apart_at x [] i none within = absurd (omega arith)
apart_at x (y ∷ names) zero none within = (or_parts (tied x y) (is_among x names) none).0
apart_at x (y ∷ names) (suc i) none within = apart_at x names i (or_parts (tied x y) (is_among x names) none).1 (omega arith)

-- ---- a variable that gets a value
pub variables_set : (names : Names) (vs : List (Option Tree)) (i : ℕ) (v : Tree) → AreDistinct names → i < length names → i < length vs
    → variables_of names (set vs i (Some v)) ≡ finite.insert (variables_of names vs) (name_at names i) v
variables_set [] vs i v distinct named within = absurd (omega arith)
variables_set (x ∷ names) [] i v distinct named within = absurd (omega arith)
variables_set (x ∷ names) (w ∷ vs) zero v distinct named within = with_twice (variables_of names vs) x w v
variables_set (x ∷ names) (w ∷ vs) (suc i) v distinct named within =
    ap (with_variable x w) (variables_set names vs i v distinct.1 (omega arith) (omega arith))
    ∙ with_swapped (variables_of names vs) x (name_at names i) w v (apart_at x names i distinct.0 (omega arith))

-- ---- a variable that is read

abbrev pub found_at : List (Option Tree) → ℕ → Option Tree
found_at vs i = unwrap_or (slice_get vs i) None

none_behind : (x y : List ℕ) (v : Option Tree) (m : Variables) (others : Bool) (b : Bool) → tied x y ≡ b → (b || others) ≡ false → (others ≡ false → finite.get m x ≡ None) → finite.get (with_variable y v m) x ≡ None
none_behind x y v m others true is out later = cc
none_behind x y None m others false is out later = later out
none_behind x y (Some w) m others false is out later = inserted m y w x ∙ ap (λ b. cond b (Some w) (finite.get m x)) is ∙ later out

pub none_among : (x : List ℕ) (names : Names) (vs : List (Option Tree)) → is_among x names ≡ false → finite.get (variables_of names vs) x ≡ None
none_among x [] vs none = finite.get-empty (slice_cmp nat_cmp) x
none_among x (y ∷ names) [] none = finite.get-empty (slice_cmp nat_cmp) x
none_among x (y ∷ names) (v ∷ vs) none = none_behind x y v (variables_of names vs) (is_among x names) (tied x y) refl none (λ out. none_among x names vs out)

pub variable_at : (names : Names) (vs : List (Option Tree)) (i : ℕ) → AreDistinct names → i < length names → i < length vs
    → finite.get (variables_of names vs) (name_at names i) ≡ found_at vs i
variable_at [] vs i distinct named within = absurd (omega arith)
variable_at (x ∷ names) [] i distinct named within = absurd (omega arith)
variable_at (x ∷ names) (None ∷ vs) zero distinct named within = none_among x names vs distinct.0
variable_at (x ∷ names) (Some w ∷ vs) zero distinct named within = inserted (variables_of names vs) x w x ∙ ap (λ b. cond b (Some w) (finite.get (variables_of names vs) x)) (itself x)
variable_at (x ∷ names) (None ∷ vs) (suc i) distinct named within = variable_at names vs i distinct.1 (omega arith) (omega arith)
variable_at (x ∷ names) (Some w ∷ vs) (suc i) distinct named within =
    inserted (variables_of names vs) x w (name_at names i)
    ∙ ap (λ b. cond b (Some w) (finite.get (variables_of names vs) (name_at names i))) (tied_swapped (name_at names i) x ∙ apart_at x names i distinct.0 (omega arith))
    ∙ variable_at names vs i distinct.1 (omega arith) (omega arith)
