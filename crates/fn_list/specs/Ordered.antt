-- The order of values is a total one, and ties those that are equal.
use Rattle.std.specs.Prelude.{◌≡◌, ℕ, ℤ, pos, Bool, true, false, ◌&&◌, List, [], ◌∷◌, ◌++◌, bytes_eq, refl}
use Rattle.std.proofs.Common.{ap, ◌∙◌, subst, append_assoc}
use Rattle.std.specs.Cmp.{both_tied, int_cmp_total, nat_cmp_total, on_total, then_total, unsigned_ties, IsTotalOrder}
use Rattle.std.specs.Cmp.Lexicographic.{slice_cmp, lists_total, lists_ties, nat_list_cmp_total}
use Rattle.std.specs.Ordering.{int_cmp, is_eq, nat_cmp, on, ordering_then, then_cmp}
use Rattle.std.specs.declared.cmp.Ordering.{Ordering}
use Rattle.std.specs.declared.cmp.Ordering.TheVariants.{Less, Equal, Greater}
use Rattle.vrl_value.specs.Tree.{Tree, string, integer, boolean, null, timestamp, regex, array, object, Items, no_items, item, Members, no_members, member}
use Rattle.fn_list.specs.Order.{order, order_items, order_members}
use Rattle.fn_list.specs.Same.{same, same_items, same_members}

-- ---- a value as a list of signs, each with its rank, a text and a number

abbrev Sign : Type 0
Sign = ℕ × (List ℕ × ℤ)

abbrev sign_cmp : Sign → Sign → Ordering
sign_cmp = then_cmp (on (λ s. s.0) nat_cmp) (then_cmp (on (λ s. s.1.0) (slice_cmp nat_cmp)) (on (λ s. s.1.1) int_cmp))

sign_cmp_total : IsTotalOrder sign_cmp
sign_cmp_total = then_total (on_total (λ s. s.0) nat_cmp_total)
    (then_total (on_total (λ s. s.1.0) nat_list_cmp_total) (on_total (λ s. s.1.1) int_cmp_total))

abbrev bare : ℕ → Sign
bare n = (n, ([], pos 0))

abbrev truth : Bool → ℤ
truth false = pos 0
truth true = pos 1

abbrev mutual
  signs : Tree → List Sign
  signs null = bare 1 ∷ []
  signs (boolean b) = (2, ([], truth b)) ∷ []
  signs (integer n) = (3, ([], n)) ∷ []
  signs (timestamp n) = (4, ([], n)) ∷ []
  signs (regex n) = (5, (n ∷ [], pos 0)) ∷ []
  signs (string s) = (6, (s, pos 0)) ∷ []
  signs (array ts) = bare 7 ∷ item_signs ts
  signs (object ms) = bare 8 ∷ member_signs ms

  item_signs : Items → List Sign
  item_signs no_items = bare 0 ∷ []
  item_signs (item t ts) = signs t ++ item_signs ts

  member_signs : Members → List Sign
  member_signs no_members = bare 0 ∷ []
  member_signs (member k t ms) = (9, (k, pos 0)) ∷ signs t ++ member_signs ms

then_assoc : (a b c : Ordering) → ordering_then a (ordering_then b c) ≡ ordering_then (ordering_then a b) c
then_assoc Less b c = refl
then_assoc Equal b c = refl
then_assoc Greater b c = refl

then_equal : (a : Ordering) → ordering_then a Equal ≡ a
then_equal Less = refl
then_equal Equal = refl
then_equal Greater = refl

-- the end stands before each value
before : (u : Tree) (x y z : List Sign) → slice_cmp sign_cmp (bare 0 ∷ x) ((signs u ++ y) ++ z) ≡ Less
before null x y z = refl
before (boolean b) x y z = refl
before (integer n) x y z = refl
before (timestamp n) x y z = refl
before (regex n) x y z = refl
before (string s) x y z = refl
before (array ts) x y z = refl
before (object ms) x y z = refl

behind : (u : Tree) (x y z : List Sign) → slice_cmp sign_cmp ((signs u ++ y) ++ z) (bare 0 ∷ x) ≡ Greater
behind null x y z = refl
behind (boolean b) x y z = refl
behind (integer n) x y z = refl
behind (timestamp n) x y z = refl
behind (regex n) x y z = refl
behind (string s) x y z = refl
behind (array ts) x y z = refl
behind (object ms) x y z = refl

-- values first, and then what follows their signs
mutual
  at : (v w : Tree) (x y : List Sign)
      → slice_cmp sign_cmp (signs v ++ x) (signs w ++ y) ≡ ordering_then (order v w) (slice_cmp sign_cmp x y)
  at null null x y = refl
  at (boolean true) (boolean true) x y = refl
  at (boolean true) (boolean false) x y = refl
  at (boolean false) (boolean true) x y = refl
  at (boolean false) (boolean false) x y = refl
  at (integer m) (integer n) x y = refl
  at (timestamp m) (timestamp n) x y = refl
  at (regex m) (regex n) x y = ap (λ o. ordering_then o (slice_cmp sign_cmp x y))
      (then_equal (ordering_then (nat_cmp m n) Equal) ∙ then_equal (nat_cmp m n))
  at (string s) (string t) x y = ap (λ o. ordering_then o (slice_cmp sign_cmp x y)) (then_equal (slice_cmp nat_cmp s t))
  at (array ts) (array us) x y = at_items ts us x y
  at (object ms) (object ns) x y = at_members ms ns x y
  at v w x y = refl

  at_items : (ts us : Items) (x y : List Sign)
      → slice_cmp sign_cmp (item_signs ts ++ x) (item_signs us ++ y) ≡ ordering_then (order_items ts us)
      (slice_cmp sign_cmp x y)
  at_items no_items no_items x y = refl
  at_items no_items (item u us) x y = before u x (item_signs us) y
  at_items (item t ts) no_items x y = behind t y (item_signs ts) x
  at_items (item t ts) (item u us) x y =
      ap (λ zs. slice_cmp sign_cmp zs ((signs u ++ item_signs us) ++ y)) (append_assoc (signs t) (item_signs ts) x)
      ∙ ap (slice_cmp sign_cmp (signs t ++ (item_signs ts ++ x))) (append_assoc (signs u) (item_signs us) y)
      ∙ at t u (item_signs ts ++ x) (item_signs us ++ y) ∙ ap (ordering_then (order t u)) (at_items ts us x y)
      ∙ then_assoc (order t u) (order_items ts us) (slice_cmp sign_cmp x y)

  at_members : (ms ns : Members) (x y : List Sign)
      → slice_cmp sign_cmp (member_signs ms ++ x) (member_signs ns ++ y) ≡ ordering_then (order_members ms ns)
      (slice_cmp sign_cmp x y)
  at_members no_members no_members x y = refl
  at_members no_members (member l u ns) x y = refl
  at_members (member k t ms) no_members x y = refl
  at_members (member k t ms) (member l u ns) x y =
      ap (λ o. ordering_then o
      (slice_cmp sign_cmp ((signs t ++ member_signs ms) ++ x) ((signs u ++ member_signs ns) ++ y)))
      (then_equal (slice_cmp nat_cmp k l))
      ∙ ap (λ zs. ordering_then (slice_cmp nat_cmp k l) (slice_cmp sign_cmp zs ((signs u ++ member_signs ns) ++ y)))
      (append_assoc (signs t) (member_signs ms) x)
      ∙ ap (λ zs. ordering_then (slice_cmp nat_cmp k l) (slice_cmp sign_cmp (signs t ++ (member_signs ms ++ x)) zs))
      (append_assoc (signs u) (member_signs ns) y)
      ∙ ap (ordering_then (slice_cmp nat_cmp k l))
      (at t u (member_signs ms ++ x) (member_signs ns ++ y) ∙ ap (ordering_then (order t u)) (at_members ms ns x y))
      ∙ ap (ordering_then (slice_cmp nat_cmp k l))
      (then_assoc (order t u) (order_members ms ns) (slice_cmp sign_cmp x y))
      ∙ then_assoc (slice_cmp nat_cmp k l) (ordering_then (order t u) (order_members ms ns)) (slice_cmp sign_cmp x y)

by_signs : (v w : Tree) → on (λ u. signs u ++ []) (slice_cmp sign_cmp) v w ≡ order v w
by_signs v w = at v w [] [] ∙ then_equal (order v w)

pub order_total : IsTotalOrder order
order_total = subst IsTotalOrder (λ i v w. by_signs v w i) (on_total (λ u. signs u ++ []) (lists_total sign_cmp_total))

-- ---- ties

texts_tied : (s t : List ℕ) → bytes_eq s t ≡ is_eq (slice_cmp nat_cmp s t)
texts_tied s t = lists_ties nat_cmp unsigned_ties s t

mutual
  pub tied : (v w : Tree) → same v w ≡ is_eq (order v w)
  tied null null = refl
  tied (boolean true) (boolean true) = refl
  tied (boolean true) (boolean false) = refl
  tied (boolean false) (boolean true) = refl
  tied (boolean false) (boolean false) = refl
  tied (integer m) (integer n) = refl
  tied (timestamp m) (timestamp n) = refl
  tied (regex m) (regex n) = unsigned_ties m n
  tied (string s) (string t) = texts_tied s t
  tied (array ts) (array us) = tied_items ts us
  tied (object ms) (object ns) = tied_members ms ns
  tied v w = refl

  tied_items : (ts us : Items) → same_items ts us ≡ is_eq (order_items ts us)
  tied_items no_items no_items = refl
  tied_items no_items (item u us) = refl
  tied_items (item t ts) no_items = refl
  tied_items (item t ts) (item u us) =
      both_tied (same t u) (same_items ts us) (order t u) (order_items ts us) (tied t u) (tied_items ts us)

  tied_members : (ms ns : Members) → same_members ms ns ≡ is_eq (order_members ms ns)
  tied_members no_members no_members = refl
  tied_members no_members (member l u ns) = refl
  tied_members (member k t ms) no_members = refl
  tied_members (member k t ms) (member l u ns) =
      both_tied (bytes_eq k l) (same t u && same_members ms ns) (slice_cmp nat_cmp k l)
      (ordering_then (order t u) (order_members ms ns)) (texts_tied k l)
      (both_tied (same t u) (same_members ms ns) (order t u) (order_members ms ns) (tied t u) (tied_members ms ns))
