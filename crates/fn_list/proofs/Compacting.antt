-- Parts that aren't empty, gathered one after the other.
use Rattle.std.proofs.Common.{◌≡◌, ◌≤◌, ◌++◌, ℕ, Bool, true, false, List, [], ◌∷◌, String, Global, string_bytes, string_cmp, refl, sym, ap, ◌∙◌, arith, if◌then◌else◌}
use Rattle.std.proofs.lemmas.Cmp.{nat_list_cmp_total}
use Rattle.std.proofs.lemmas.List.{append-nil}
use Rattle.std.specs.Cmp.Lexicographic.{slice_cmp}
use Rattle.std.specs.List.{AllByRecursion}
use Rattle.std.specs.List.Sorted.{IsStrictlySortedBy}
use Rattle.std.specs.Map.{keys_of}
use Rattle.std.specs.Ordering.{nat_cmp, ordering_reverse}
use Rattle.std.specs.declared.cmp.Ordering.TheVariants.{Less, Greater}
use Rattle.std.specs.Prelude.{⊤}
use Rattle.vrl_value.specs.Tree.{Tree, Items, item, Members, no_members, member, put, IsBefore}
use Rattle.vrl_value.specs.View.{items_of_trees, items_view, members_view}
use Rattle.vrl_value.specs.declared.value.Value.{Value}
use Rattle.fn_list.specs.Compact.{compact_items, compact_members, compacted, is_hollow}
use Rattle.vrl_builtin.specs.Listed.{trees_in}
use Rattle.vrl_builtin.proofs.Listed.{listed_again}
use Rattle.vrl_builtin.proofs.Sizes.{members_size}

-- ---- items

pub by_item : (b : Bool) (t : Tree) (ts : Items) → trees_in (if b then ts else item t ts) ≡ (if b then [] else t ∷ []) ++ trees_in ts
by_item true t ts = refl
by_item false t ts = refl

-- ---- members

-- some members, and then others
abbrev pub then_members : Members → Members → Members
then_members no_members ns = ns
then_members (member k t ms) ns = member k t (then_members ms ns)

-- each name is before those behind it
abbrev pub AreSorted : Members → Type 0
AreSorted no_members = ⊤
AreSorted (member k t ms) = IsBefore k ms × AreSorted ms

before_middle : (j : List ℕ) (ms : Members) (k : List ℕ) (t : Tree) (ns : Members) → IsBefore j (then_members ms (member k t ns)) → slice_cmp nat_cmp j k ≡ Less
before_middle j no_members k t ns before = before.0
before_middle j (member l u ms) k t ns before = before_middle j ms k t ns before.1

-- what is put behind all others
put_behind : (ms : Members) (k : List ℕ) (t u : Tree) (ns : Members) → AreSorted (then_members ms (member k u ns)) → put k t ms ≡ then_members ms (member k t no_members)
put_behind no_members k t u ns sorted = refl
put_behind (member l v ms) k t u ns sorted =
    let after : slice_cmp nat_cmp k l ≡ Greater = nat_list_cmp_total.antisymm k l ∙ ap ordering_reverse (before_middle l ms k u ns sorted.0) in
    rw after (ap (member l v) (put_behind ms k t u ns sorted.1))

then_assoc : (ms ns os : Members) → then_members (then_members ms ns) os ≡ then_members ms (then_members ns os)
then_assoc no_members ns os = refl
then_assoc (member k t ms) ns os = ap (member k t) (then_assoc ms ns os)

-- another value in the middle, or one name fewer
before_other : (j : List ℕ) (ms : Members) (k : List ℕ) (t u : Tree) (ns : Members) → IsBefore j (then_members ms (member k u ns)) → IsBefore j (then_members ms (member k t ns))
before_other j no_members k t u ns before = before
before_other j (member l v ms) k t u ns before = (before.0, before_other j ms k t u ns before.1)

sorted_other : (ms : Members) (k : List ℕ) (t u : Tree) (ns : Members) → AreSorted (then_members ms (member k u ns)) → AreSorted (then_members ms (member k t ns))
sorted_other no_members k t u ns sorted = sorted
sorted_other (member l v ms) k t u ns sorted = (before_other l ms k t u ns sorted.0, sorted_other ms k t u ns sorted.1)

before_fewer : (j : List ℕ) (ms : Members) (k : List ℕ) (u : Tree) (ns : Members) → IsBefore j (then_members ms (member k u ns)) → IsBefore j (then_members ms ns)
before_fewer j no_members k u ns before = before.1
before_fewer j (member l v ms) k u ns before = (before.0, before_fewer j ms k u ns before.1)

sorted_fewer : (ms : Members) (k : List ℕ) (u : Tree) (ns : Members) → AreSorted (then_members ms (member k u ns)) → AreSorted (then_members ms ns)
sorted_fewer no_members k u ns sorted = sorted.1
sorted_fewer (member l v ms) k u ns sorted = (before_fewer l ms k u ns sorted.0, sorted_fewer ms k u ns sorted.1)

pub record IsPartway (kept left whole : Members) : Type 0 where
  pub sorted : AreSorted (then_members kept left)
  pub told : then_members kept (compact_members left) ≡ whole

step_at : (b : Bool) (kept later : Members) (k : List ℕ) (u t : Tree) (ns whole : Members) → later ≡ (if b then kept else put k t kept) → AreSorted (then_members kept (member k u ns)) →
    then_members kept (if b then compact_members ns else member k t (compact_members ns)) ≡ whole → IsPartway later ns whole
step_at true kept later k u t ns whole is sorted told = rw is record { sorted = sorted_fewer kept k u ns sorted; told = told }
step_at false kept later k u t ns whole is sorted told =
    let one : later ≡ then_members kept (member k t no_members) = is ∙ put_behind kept k t u ns sorted in
    rw one record {
      sorted = rw (then_assoc kept (member k t no_members) ns) (sorted_other kept k t u ns sorted);
      told = then_assoc kept (member k t no_members) (compact_members ns) ∙ told;
    }

pub step : (kept later : Members) (k : List ℕ) (u t : Tree) (ns whole : Members) → t ≡ compacted u → later ≡ (if is_hollow t then kept else put k t kept) → IsPartway kept (member k u ns) whole → IsPartway later ns whole
step kept later k u t ns whole is told before =
    step_at (is_hollow (compacted u)) kept later k u (compacted u) ns whole (told ∙ ap (λ v. if is_hollow v then kept else put k v kept) is) before.sorted before.told

then_none : (ms : Members) → then_members ms no_members ≡ ms
then_none no_members = refl
then_none (member k t ms) = ap (member k t) (then_none ms)

pub ended : (kept whole : Members) → IsPartway kept no_members whole → kept ≡ whole
ended kept whole before = sym (then_none kept) ∙ before.told

all_before : (k : String Global) (es : List (String Global × Value)) → AllByRecursion (λ key. string_cmp k key ≡ Less) (keys_of es) → IsBefore (string_bytes k) (members_view es)
all_before k [] all = tt
all_before k (e ∷ es) all = (all.0, all_before k es all.1)

pub sorted_entries : (es : List (String Global × Value)) → IsStrictlySortedBy string_cmp (keys_of es) → AreSorted (members_view es)
unfolding IsStrictlySortedBy
sorted_entries [] sorted = tt
sorted_entries (e ∷ es) sorted = (all_before e.0 es sorted.0, sorted_entries es sorted.1)

-- ---- at the start and at the end of the walks

pub begun : (kept : Members) (es : List (String Global × Value)) (whole : Members) → kept ≡ no_members → IsStrictlySortedBy string_cmp (keys_of es) → members_view es ≡ whole → IsPartway kept (members_view es) (compact_members whole)
begun kept es whole none sorted same = rw none record { sorted = sorted_entries es sorted; told = ap compact_members same }

pub no_more : (a b : Members) → a ≡ b → members_size a ≤ members_size b
no_more a b same = let sizes : members_size a ≡ members_size b = ap members_size same in omega (arith, sizes)

pub one_fewer : (es left : List (String Global × Value)) (e : String Global × Value) (most : ℕ) → es ≡ e ∷ left → members_size (members_view es) ≤ most → members_size (members_view left) ≤ most
one_fewer es left e most is few =
    let sizes : members_size (members_view es) ≡ members_size (members_view (e ∷ left)) = ap (λ fs. members_size (members_view fs)) is in omega (arith, sizes, few)

pub items_ended : (kept : List Tree) (left : List Value) (whole : Items) → left ≡ [] → kept ++ trees_in (compact_items (items_view left)) ≡ trees_in whole → items_of_trees kept ≡ whole
items_ended kept left whole none told =
    ap items_of_trees (sym (append-nil kept) ∙ ap (λ vs. kept ++ trees_in (compact_items (items_view vs))) (sym none) ∙ told) ∙ listed_again whole
