-- The parts of an array in a range, and the kinds of what `slice` gives.
use Rattle.std.proofs.Common.{◌≡◌, ℕ, zero, suc, ◌-◌, ℤ, true, false, ◌&&◌, List, [], ◌∷◌, Option, Some, None, codes, length, take, drop, refl, sym, ap, ◌∙◌}
use Rattle.vrl_value.proofs.Places.{count_of-view}
use Rattle.vrl_value.specs.Parts.{count_of}
use Rattle.vrl_value.specs.Tree.{item}
use Rattle.vrl_value.specs.View.{items_view, tree_of}
use Rattle.vrl_value.specs.declared.value.Tag.TheVariants as tag
use Rattle.vrl_value.specs.declared.value.Value.{Value}
use Rattle.vrl_kind.specs.KindTree.{KindTree}
use Rattle.vrl_kind.specs.Kinds.{tags_at}
use Rattle.vrl_kind.specs.Sets.{SameSets}
use Rattle.vrl_builtin.specs.Containers.{array_of}
use Rattle.vrl_builtin.specs.PartKinds.{array_parts_at}
use Rattle.vrl_builtin.specs.Rows.{failed, named, told, value}
use Rattle.vrl_builtin.specs.View.{Applies}
use Rattle.vrl_builtin.specs.declared.failing.Applied.{Applied}
use Rattle.vrl_builtin.proofs.Containers.{array_so}
use Rattle.fn_string.specs.Slice.{array_between, array_kind, first_parts, parts_from, range_of}

-- ---- parts

view_of_first : (n : ℕ) (vs : List Value) → items_view (take n vs) ≡ first_parts n (items_view vs)
view_of_first zero vs = refl
view_of_first (suc n) [] = refl
view_of_first (suc n) (v ∷ vs) = ap (item (tree_of v)) (view_of_first n vs)

view_from : (n : ℕ) (vs : List Value) → items_view (drop n vs) ≡ parts_from n (items_view vs)
view_from zero vs = refl
view_from (suc n) [] = refl
view_from (suc n) (v ∷ vs) = view_from n vs

pub view_between : (start end : ℕ) (vs : List Value) → items_view (take (end - start) (drop start vs)) ≡ first_parts (end - start) (parts_from start (items_view vs))
view_between start end vs = view_of_first (end - start) (drop start vs) ∙ ap (first_parts (end - start)) (view_from start vs)

pub some_range : (vs : List Value) (start : ℤ) (end : Option ℤ) (range : ℕ × ℕ) (result : Applied) →
    Some range ≡ range_of (length vs) start end → Applies false (value (array_between (items_view vs) range)) result →
    Applies false (named (codes "slice") (told (array_between (items_view vs)) (codes "out of range") (range_of (count_of (items_view vs)) start end))) result
some_range vs start end range result is applied = rw (sym (count_of-view vs), sym is) applied

pub no_range : (vs : List Value) (start : ℤ) (end : Option ℤ) (result : Applied) →
    None ≡ range_of (length vs) start end → Applies false (failed (codes "slice") (codes "out of range")) result →
    Applies false (named (codes "slice") (told (array_between (items_view vs)) (codes "out of range") (range_of (count_of (items_view vs)) start end))) result
no_range vs start end result is applied = rw (sym (count_of-view vs), sym is) applied

-- ---- kinds

pub arrays_are_of : (K all arrays : KindTree) → tags_at K [] tag.List ≡ true → SameSets (tags_at all) (array_parts_at (Some K)) → SameSets (tags_at arrays) (array_of (tags_at all)) → SameSets (tags_at arrays) (array_kind K)
arrays_are_of K all arrays allowed parts same p t =
    let A = array_parts_at (Some K) in
    same p t ∙ array_so (tags_at all) A parts p t ∙ sym (ap (λ b. b && array_of A p t) allowed)
