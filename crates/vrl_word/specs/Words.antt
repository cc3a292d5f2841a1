-- What single tokens say.
use Rattle.std.specs.Prelude.{ℕ, ◌+◌, ◌-◌, Bool, true, false, List, [], ◌∷◌, Option, Some, None, length, codes, bytes_eq, if◌then◌else◌}
use Rattle.vrl_value.specs.Tree.{Tree, string, integer, boolean, null, timestamp, regex}
use Rattle.vrl_path.specs.declared.path.Step.{Step}
use Rattle.vrl_diag.specs.declared.diagnostic.Span.{Span}
use Rattle.vrl_syntax.specs.Stores.{metadata}
use Rattle.vrl_syntax.specs.Tree.{Expr, expr, literal, read, group, binary}
use Rattle.vrl_syntax.specs.declared.root.Op.{Op}
use Rattle.vrl_syntax.specs.declared.root.Op.TheVariants as op
use Rattle.vrl_syntax.specs.declared.root.Root.{Root}
use Rattle.vrl_syntax.specs.declared.root.Root.TheVariants as root
use Rattle.vrl_syntax.specs.declared.root.Target.{Target}
use Rattle.vrl_syntax.specs.declared.root.Target.TheVariants as target
use Rattle.vrl_token.specs.declared.token.Hole.{Hole}
use Rattle.vrl_token.specs.declared.token.Spanned.{Spanned}
use Rattle.vrl_token.specs.declared.token.Token.{Token}
use Rattle.vrl_token.specs.declared.token.Token.TheVariants as token

-- from the first place to the end of the last one
abbrev pub over : Span → Span → Span
over first last = record { start = first.start; end = last.end }

-- the sources of the regex literals, in order
abbrev pub regex_of : Token → List (List ℕ)
regex_of (token.Regex source) = source ∷ []
regex_of t = []

-- a token, where it stands, and how many regex literals stand before it in the script
pub record Word : Type 0 where
  pub token : Token
  pub span : Span
  pub number : ℕ

-- the words of tokens that have so many regex literals before them
abbrev pub words_from : ℕ → List Spanned → List Word
words_from n [] = []
words_from n (t ∷ ts) =
    record { token = t.token; span = t.span; number = n } ∷ words_from (length (regex_of t.token) + n) ts

-- the value of a literal; a regex is its number among those of the script
abbrev pub literal_at : Token → ℕ → Option Tree
literal_at (token.Text s) n = Some (string s)
literal_at (token.RawText s) n = Some (string s)
literal_at (token.Regex s) n = Some (regex n)
literal_at (token.Timestamp moment) n = Some (timestamp moment)
literal_at (token.Number k) n = Some (integer k)
literal_at token.True n = Some (boolean true)
literal_at token.False n = Some (boolean false)
literal_at token.Null n = Some null
literal_at t n = None

-- the literal is a text, which is copied
abbrev pub is_copied : Token → Bool
is_copied (token.Text s) = true
is_copied (token.RawText s) = true
is_copied t = false

abbrev pub literal_of : Word → Option Tree
literal_of w = literal_at w.token w.number

-- what a path or a name leads from, and its steps
abbrev pub path_of : Token → Option (Root × List Step)
path_of (token.Name n) = Some (root.Name n, [])
path_of (token.NamePath n path) = Some (root.Name n, path)
path_of (token.EventPath path) = Some (root.Event, path)
path_of (token.MetadataPath path) = Some (metadata, path)
path_of t = None

-- where an assignment to a path or a name that stands there writes: a bare `_` takes nothing
abbrev pub target_at : Token → Span → Option Target
target_at (token.Name n) s = Some (if bytes_eq n (codes "_") then target.Nowhere else target.Place s (root.Name n) [])
target_at (token.NamePath n path) s = Some (target.Place s (root.Name n) path)
target_at (token.EventPath path) s = Some (target.Place s root.Event path)
target_at (token.MetadataPath path) s = Some (target.Place s metadata path)
target_at t s = None

abbrev pub target_of : Word → Option Target
target_of w = target_at w.token w.span

-- ---- texts with variables

-- the place of a variable in a text: its name's, which begins so far before the end of the text
abbrev pub hole_span : Span → Hole → Span
hole_span s h = record { start = s.end - h.distance; end = s.end - (h.distance - length h.name) }

-- a sum, a text and a group that stand at the place of the whole text
abbrev pub sum_at : Span → Expr → Expr → Expr
sum_at s l r = expr s (binary op.Plus l r)

abbrev pub text_at : Span → List ℕ → Expr
text_at s text = expr s (literal (string text))

-- a sum, behind it a variable, and the text behind that
abbrev pub with_hole : Span → Expr → Hole → Expr
with_hole s sum h = sum_at s (sum_at s sum (expr (hole_span s h) (read (root.Name h.name) []))) (text_at s h.behind)

abbrev pub with_holes : Span → Expr → List Hole → Expr
with_holes s sum [] = sum
with_holes s sum (h ∷ hs) = with_holes s (with_hole s sum h) hs

-- a text with variables is the group of a sum: the text before the first one, each variable, and
-- the text behind it
abbrev pub template_at : Token → Span → Option Expr
template_at (token.Template before holes) s = Some (expr s (group (with_holes s (text_at s before) holes)))
template_at t s = None

abbrev pub template_of : Word → Option Expr
template_of w = template_at w.token w.span

-- ---- functions

-- the name of a function, and whether it has a bang
abbrev pub function_of : Token → Option (List ℕ × Bool)
function_of (token.Function n) = Some (n, false)
function_of (token.BangFunction n) = Some (n, true)
function_of t = None

-- the place of a function's name: its token's, without the bang
abbrev pub name_span : Span → Bool → Span
name_span s false = s
name_span s true = record { start = s.start; end = s.end - 1 }

-- ---- operators

-- the operator of a token, and its level: 0 is the loosest
abbrev pub operator_of : Token → Option (ℕ × Op)
operator_of token.Coalesce = Some (0, op.Coalesce)
operator_of token.Or = Some (1, op.Or)
operator_of token.And = Some (2, op.And)
operator_of token.Equal = Some (3, op.Equal)
operator_of token.Unequal = Some (3, op.Unequal)
operator_of token.Less = Some (4, op.Less)
operator_of token.AtMost = Some (4, op.AtMost)
operator_of token.More = Some (4, op.More)
operator_of token.AtLeast = Some (4, op.AtLeast)
operator_of token.Merge = Some (5, op.Merge)
operator_of token.Plus = Some (6, op.Plus)
operator_of token.Minus = Some (6, op.Minus)
operator_of token.Times = Some (7, op.Times)
operator_of t = None

-- behind the tightest of them
abbrev pub levels : ℕ
levels = 8
