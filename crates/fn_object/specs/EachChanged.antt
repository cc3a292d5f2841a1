-- What holds of each part still holds where one is put, replaced or taken out.
use Rattle.std.specs.Prelude.{ℕ, zero, suc, List}
use Rattle.std.specs.Ordering.{match_ordering, nat_cmp}
use Rattle.std.specs.Cmp.Lexicographic.{slice_cmp}
use Rattle.std.specs.declared.cmp.Ordering.{Ordering}
use Rattle.std.specs.declared.cmp.Ordering.TheVariants.{Less, Equal, Greater}
use Rattle.vrl_value.specs.Parts.{put_item, replace, replace_item, without, without_item}
use Rattle.vrl_value.specs.Tree.{Tree, null, Items, no_items, item, Members, no_members, member}
use Rattle.vrl_builtin.proofs.Containers.{EachItem, EachMember}

replace_by : (P : Tree → Type 0) (o : Ordering) (l : List ℕ) (t v : Tree) (ms ns : Members) → P t → P v
    → EachMember P ms → EachMember P ns →
    EachMember P (match_ordering o (member l v ns) (member l t ms) (member l v ns))
replace_by P Less l t v ms ns new old each later = (old, later)
replace_by P Equal l t v ms ns new old each later = (new, each)
replace_by P Greater l t v ms ns new old each later = (old, later)

pub each_replaced : (P : Tree → Type 0) (k : List ℕ) (t : Tree) (ms : Members) → P t → EachMember P ms
    → EachMember P (replace k t ms)
each_replaced P k t no_members new each = tt
each_replaced P k t (member l v ms) new each =
    replace_by P (slice_cmp nat_cmp k l) l t v ms (replace k t ms) new each.0 each.1 (each_replaced P k t ms new each.1)

without_by : (P : Tree → Type 0) (o : Ordering) (l : List ℕ) (v : Tree) (ns : Members) → P v → EachMember P ns
    → EachMember P (match_ordering o (member l v ns) ns (member l v ns))
without_by P Less l v ns old later = (old, later)
without_by P Equal l v ns old later = later
without_by P Greater l v ns old later = (old, later)

pub each_without : (P : Tree → Type 0) (k : List ℕ) (ms : Members) → EachMember P ms → EachMember P (without k ms)
each_without P k no_members each = tt
each_without P k (member l v ms) each =
    without_by P (slice_cmp nat_cmp k l) l v (without k ms) each.0 (each_without P k ms each.1)

pub each_put_item : (P : Tree → Type 0) (i : ℕ) (t : Tree) (ts : Items) → P null → P t → EachItem P ts
    → EachItem P (put_item i t ts)
each_put_item P zero t no_items empty new each = (new, tt)
each_put_item P zero t (item u ts) empty new each = (new, each.1)
each_put_item P (suc i) t no_items empty new each = (empty, each_put_item P i t no_items empty new tt)
each_put_item P (suc i) t (item u ts) empty new each = (each.0, each_put_item P i t ts empty new each.1)

pub each_replaced_item : (P : Tree → Type 0) (i : ℕ) (t : Tree) (ts : Items) → P t → EachItem P ts
    → EachItem P (replace_item i t ts)
each_replaced_item P i t no_items new each = tt
each_replaced_item P zero t (item u ts) new each = (new, each.1)
each_replaced_item P (suc i) t (item u ts) new each = (each.0, each_replaced_item P i t ts new each.1)

pub each_without_item : (P : Tree → Type 0) (i : ℕ) (ts : Items) → EachItem P ts → EachItem P (without_item i ts)
each_without_item P i no_items each = tt
each_without_item P zero (item u ts) each = each.1
each_without_item P (suc i) (item u ts) each = (each.0, each_without_item P i ts each.1)
