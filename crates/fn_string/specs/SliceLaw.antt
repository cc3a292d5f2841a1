-- `slice` keeps the law: the parts of what it answers are parts of the array that was given.
use Rattle.std.specs.Prelude.{◌≡◌, ℕ, zero, suc, ◌-◌, ℤ, pos, Bool, true, false, ◌&&◌, ◌||◌, List, [], Option, Some, None, codes, IfSome, refl}
use Rattle.std.proofs.lemmas.Bool.{and_from, or_left, or_right}
use Rattle.vrl_value.specs.Look.{Step, raw_at, tag_found}
use Rattle.vrl_value.specs.Parts.{count_of}
use Rattle.vrl_value.specs.Tree.{Tree, string, null, array, Items, no_items, item, IsOrdered}
use Rattle.vrl_value.specs.declared.value.Tag.{Tag}
use Rattle.vrl_value.specs.declared.value.Tag.TheVariants as tag
use Rattle.vrl_kind.specs.KindTree.{KindTree}
use Rattle.vrl_kind.specs.Kinds.{tags_at, Inhabits}
use Rattle.vrl_kind.specs.Sets.{Sets}
use Rattle.vrl_builtin.specs.Containers.{array_of}
use Rattle.vrl_builtin.specs.Law.{IsLawful, IsOfGiven, KeepsLaw}
use Rattle.vrl_builtin.specs.OneTagLaw.{plain_is_lawful}
use Rattle.vrl_builtin.specs.PartKinds.{array_parts_at}
use Rattle.vrl_builtin.specs.Rows.{value, named, argument_at, integer_at, kind_at, optional_integer, value_or}
use Rattle.vrl_builtin.proofs.Containers.{array_is_lawful, EachItem, IsLawfulPart}
use Rattle.vrl_builtin.proofs.Lawful.{told_is_lawful}
use Rattle.vrl_builtin.proofs.PartKinds.{given_items}
use Rattle.fn_string.specs.Slice.{array_between, array_kind, first_parts, parts_from, range_of, slice_kind, slice_row, sliced, text_between, text_kind}
use Rattle.fn_string.specs.StrLen.{count_of_characters}

if_some_so : {A : Type 0} (P Q : A → Type 0) (o : Option A) → ((a : A) → P a → Q a) → IfSome o P → IfSome o Q
if_some_so P Q None so is = tt
if_some_so P Q (Some a) so is = so a is

no_absent : (a b : Bool) → (a && false || b && false) ≡ false
no_absent true true = refl
no_absent true false = refl
no_absent false true = refl
no_absent false false = refl

pub slice_present : (K : Option KindTree) → slice_kind K [] tag.Absent ≡ false
slice_present None = refl
slice_present (Some K) = no_absent (tags_at K [] tag.Text) (tags_at K [] tag.List)

each_from : (P : Tree → Type 0) (n : ℕ) (ts : Items) → EachItem P ts → EachItem P (parts_from n ts)
each_from P zero ts each = each
each_from P (suc n) no_items each = tt
each_from P (suc n) (item v ts) each = each_from P n ts each.1

each_first : (P : Tree → Type 0) (n : ℕ) (ts : Items) → EachItem P ts → EachItem P (first_parts n ts)
each_first P zero ts each = tt
each_first P (suc n) no_items each = tt
each_first P (suc n) (item v ts) each = (each.0, each_first P n ts each.1)

-- a value that may be answered where less is allowed may be where more is
wider_is_lawful : (A B : Sets) (fails : Bool) (arguments : List (Option Tree)) (v : Tree)
    → ((p : List Step) (t : Tag) → A p t ≡ true → B p t ≡ true) →
    IsLawful A fails arguments (value v) → IsLawful B fails arguments (value v)
wider_is_lawful A B fails arguments v wider lawful = (
  λ p. if_some_so (λ t. A p t ≡ true) (λ t. B p t ≡ true) (tag_found (raw_at v p)) (wider p) (lawful.0 p),
  lawful.1,
  lawful.2,
)

array_is_sliced : (K : KindTree) (ts : Items) (arguments : List (Option Tree)) (range : ℕ × ℕ)
    → argument_at 0 arguments ≡ Some (array ts) → Inhabits (array ts) K → IsOrdered (array ts) →
    IsLawful (slice_kind (Some K)) true arguments (value (array_between ts range))
array_is_sliced K ts arguments range is inhabits ordered =
    let A = array_parts_at (Some K) in let P = IsLawfulPart A arguments in let n = range.1 - range.0 in
    wider_is_lawful (array_of A) (slice_kind (Some K)) true arguments (array_between ts range)
    (λ p t allowed. or_right (text_kind K p t) (array_kind K p t)
    (and_from (tags_at K [] tag.List) (array_of A p t) (inhabits []) allowed))
    (array_is_lawful A true arguments (first_parts n (parts_from range.0 ts))
    (each_first P n (parts_from range.0 ts)
    (each_from P range.0 ts (given_items (Some K) 0 ts arguments is inhabits ordered))))

slice_is_lawful : (K : Option KindTree) (argument : Option Tree) (arguments : List (Option Tree)) (start : ℤ)
    (end : Option ℤ) → argument_at 0 arguments ≡ argument → IsOfGiven K argument → IfSome argument IsOrdered →
    IsLawful (slice_kind K) true arguments (named (codes "slice") (sliced (value_or null argument) start end))
slice_is_lawful None (Some v) arguments start end is of ordered = absurd of
slice_is_lawful K None arguments start end is of ordered = refl
slice_is_lawful (Some K) (Some (string s)) arguments start end is of ordered =
    told_is_lawful (text_between s) (codes "out of range") (codes "slice") (range_of (count_of_characters s) start end)
    (slice_kind (Some K)) arguments (λ range.
    plain_is_lawful (text_between s range) (slice_kind (Some K)) true arguments tt
    (or_left (tags_at K [] tag.Text && true) (tags_at K [] tag.List && false)
    (and_from (tags_at K [] tag.Text) true (of []) refl)))
slice_is_lawful (Some K) (Some (array ts)) arguments start end is of ordered =
    told_is_lawful (array_between ts) (codes "out of range") (codes "slice") (range_of (count_of ts) start end)
    (slice_kind (Some K)) arguments (λ range. array_is_sliced K ts arguments range is of ordered)
slice_is_lawful (Some K) (Some v) arguments start end is of ordered = refl

pub slice-law : KeepsLaw slice_row
slice-law = record {
  present = λ givens sources given below. slice_present (kind_at 0 givens);
  lawful = λ givens arguments setting given fit instances below.
      slice_is_lawful (kind_at 0 givens) (argument_at 0 arguments) arguments (integer_at 1 (pos 0) arguments)
      (optional_integer 2 arguments) refl (instances.kinds 0) (instances.ordered 0);
}
