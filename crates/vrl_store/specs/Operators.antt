-- Operators on values.
use Rattle.std.specs.Prelude.{ℕ, Bool, true, false, not, ◌&&◌, ◌==◌, List, [], ◌++◌, Option, Some, None, codes, bytes_eq}
use Rattle.std.specs.Int.{w64, int_wrapping_add, int_wrapping_sub, int_wrapping_mul}
use Rattle.std.specs.Ordering.{int_eq, is_lt, is_gt}
use Rattle.std.specs.declared.cmp.Ordering.{Ordering}
use Rattle.vrl_value.specs.Order.{order_of}
use Rattle.vrl_value.specs.Tag.{tag_of, word_of}
use Rattle.vrl_value.specs.Tree.{Tree, string, integer, boolean, null, timestamp, regex, array, object, Items, no_items, item, Members, no_members, member, put_all}
use Rattle.vrl_value.specs.declared.value.Tag.{Tag}
use Rattle.vrl_syntax.specs.declared.root.Op.{Op}
use Rattle.vrl_syntax.specs.declared.root.Op.TheVariants as op
use Rattle.vrl_store.specs.Outcomes.{Outcome, value, error}

-- as it is written
abbrev pub symbol_of : Op → List ℕ
symbol_of op.Coalesce = codes "??"
symbol_of op.Or = codes "||"
symbol_of op.And = codes "&&"
symbol_of op.Equal = codes "=="
symbol_of op.Unequal = codes "!="
symbol_of op.Less = codes "<"
symbol_of op.AtMost = codes "<="
symbol_of op.More = codes ">"
symbol_of op.AtLeast = codes ">="
symbol_of op.Merge = codes "|"
symbol_of op.Plus = codes "+"
symbol_of op.Minus = codes "-"
symbol_of op.Times = codes "*"

-- the text of the error that an operator doesn't take values of these tags
abbrev pub pair_text : Op → Tag → Tag → List ℕ
pair_text o t u =
    codes "cannot apply " ++ (symbol_of o ++ (codes " to " ++ (word_of t ++ (codes " and " ++ word_of u))))

abbrev pub cannot_apply : Op → Tree → Tree → Outcome
cannot_apply o v w = error (pair_text o (tag_of v) (tag_of w))

-- ---- sums, differences and products: whole numbers wrap at 64 bits, texts are joined, and a null
-- beside a text counts as empty

abbrev pub sum_of : Tree → Tree → Outcome
sum_of (integer m) (integer n) = value (integer (int_wrapping_add w64 m n))
sum_of (string s) (string t) = value (string (s ++ t))
sum_of (string s) null = value (string s)
sum_of null (string t) = value (string t)
sum_of v w = cannot_apply op.Plus v w

abbrev pub difference_of : Tree → Tree → Outcome
difference_of (integer m) (integer n) = value (integer (int_wrapping_sub w64 m n))
difference_of v w = cannot_apply op.Minus v w

abbrev pub product_of : Tree → Tree → Outcome
product_of (integer m) (integer n) = value (integer (int_wrapping_mul w64 m n))
product_of v w = cannot_apply op.Times v w

-- ---- comparisons

-- two values are equal; regexes are where their numbers are
abbrev mutual
  pub same : Tree → Tree → Bool
  same (string s) (string t) = bytes_eq s t
  same (integer m) (integer n) = int_eq m n
  same (boolean true) (boolean c) = c
  same (boolean false) (boolean c) = not c
  same null null = true
  same (timestamp m) (timestamp n) = int_eq m n
  same (regex m) (regex n) = m == n
  same (array ts) (array us) = same_items ts us
  same (object ms) (object ns) = same_members ms ns
  same v w = false

  pub same_items : Items → Items → Bool
  same_items no_items no_items = true
  same_items (item t ts) (item u us) = same t u && same_items ts us
  same_items ts us = false

  pub same_members : Members → Members → Bool
  same_members no_members no_members = true
  same_members (member k t ms) (member l u ns) = bytes_eq k l && (same t u && same_members ms ns)
  same_members ms ns = false

-- what `<` and its like say of the order of two values
abbrev pub holds : Op → Ordering → Bool
holds op.Less o = is_lt o
holds op.AtMost o = not (is_gt o)
holds op.More o = is_gt o
holds op.AtLeast o = not (is_lt o)
holds o p = false

abbrev pub compared : Op → Option Ordering → Outcome → Outcome
compared o None other = other
compared o (Some ordering) other = value (boolean (holds o ordering))

-- two whole numbers, two texts by their bytes, or two timestamps
abbrev pub comparison_of : Op → Tree → Tree → Outcome
comparison_of o v w = compared o (order_of v w) (cannot_apply o v w)

-- ---- merges of two objects: of a name that both have, the right one's value

abbrev pub merged : Tree → Tree → Outcome
merged (object ms) (object ns) = value (object (put_all ns ms))
merged v w = cannot_apply op.Merge v w

-- ---- the operators that ask both sides

abbrev pub applied : Op → Tree → Tree → Outcome
applied op.Equal v w = value (boolean (same v w))
applied op.Unequal v w = value (boolean (not (same v w)))
applied op.Less v w = comparison_of op.Less v w
applied op.AtMost v w = comparison_of op.AtMost v w
applied op.More v w = comparison_of op.More v w
applied op.AtLeast v w = comparison_of op.AtLeast v w
applied op.Merge v w = merged v w
applied op.Plus v w = sum_of v w
applied op.Minus v w = difference_of v w
applied op.Times v w = product_of v w
-- the other three have rules of their own
applied o v w = cannot_apply o v w

-- ---- truth

-- null and false
abbrev pub is_falsy : Tree → Bool
is_falsy null = true
is_falsy (boolean b) = not b
is_falsy v = false

abbrev pub is_true : Tree → Bool
is_true (boolean b) = b
is_true v = false

abbrev pub truth_text : Tag → List ℕ
truth_text t = codes "cannot apply && to " ++ word_of t

-- a side of `&&`: whether it is true; only booleans and null can be asked
abbrev pub truth_of : Tree → Outcome
truth_of null = value (boolean false)
truth_of (boolean b) = value (boolean b)
truth_of v = error (truth_text (tag_of v))

abbrev pub negated : Tree → Outcome
negated (boolean b) = value (boolean (not b))
negated v = error []
