-- The error assignments `ok, err = e` of a part of a script, and the values that they write at an
-- error.
--
-- The tags of these values are a list, one for each error assignment, in the order in which a walk
-- of the tree meets them: an outer one before those in it. A part takes its own from the list's
-- front, so what stands behind the part has the list without so many.
use Rattle.std.specs.Prelude.{ℕ, suc, ◌+◌, false, pos, List, [], ◌∷◌, drop}
use Rattle.vrl_value.specs.Tree.{Tree, string, integer, boolean, null, timestamp, array as items, no_items, object as members, no_members}
use Rattle.vrl_value.specs.declared.value.Tag.{Tag}
use Rattle.vrl_value.specs.declared.value.Tag.TheVariants as tag
use Rattle.vrl_syntax.specs.Tree.{Expr, expr, Form, literal, array, object, read, query, group, block, conditional, negation, binary, assign, merge, both, call, return_of, abort_with, Exprs, no_exprs, exprs, Pairs, no_pairs, pair, Arms, no_arms, arm, Else, no_else, else_block, Args, no_args, arg, Closure, no_closure, closure, Message, no_message, message}

-- how many there are in each part; those in closures count too
abbrev mutual
  pub in_expr : Expr → ℕ
  in_expr (expr span f) = in_form f

  pub in_form : Form → ℕ
  in_form (literal v) = 0
  in_form (array es) = in_exprs es
  in_form (object ps) = in_pairs ps
  in_form (read root path) = 0
  in_form (query e path) = in_expr e
  in_form (group e) = in_expr e
  in_form (block es) = in_exprs es
  in_form (conditional gs es) = in_arms gs + in_else es
  in_form (negation e) = in_expr e
  in_form (binary op l r) = in_expr l + in_expr r
  in_form (assign t e) = in_expr e
  in_form (merge t e) = in_expr e
  in_form (both t u e) = suc (in_expr e)
  in_form (call name span bang gs c) = in_args gs + in_closure c
  in_form (return_of e) = in_expr e
  in_form (abort_with m) = in_message m

  pub in_exprs : Exprs → ℕ
  in_exprs no_exprs = 0
  in_exprs (exprs e es) = in_expr e + in_exprs es

  pub in_pairs : Pairs → ℕ
  in_pairs no_pairs = 0
  in_pairs (pair key e ps) = in_expr e + in_pairs ps

  pub in_arms : Arms → ℕ
  in_arms no_arms = 0
  in_arms (arm predicate es gs) = in_expr predicate + (in_exprs es + in_arms gs)

  pub in_else : Else → ℕ
  in_else no_else = 0
  in_else (else_block es) = in_exprs es

  pub in_args : Args → ℕ
  in_args no_args = 0
  in_args (arg name span e gs) = in_expr e + in_args gs

  pub in_closure : Closure → ℕ
  in_closure no_closure = 0
  in_closure (closure names es span) = in_exprs es

  pub in_message : Message → ℕ
  in_message no_message = 0
  in_message (message e) = in_expr e

-- the tags that are left behind an expression, behind a list of them, behind the predicates and
-- blocks of an `if`, and behind the arguments of a call
abbrev pub behind : Expr → List Tag → List Tag
behind e tags = drop (in_expr e) tags

abbrev pub behind_all : Exprs → List Tag → List Tag
behind_all es tags = drop (in_exprs es) tags

abbrev pub behind_arms : Arms → List Tag → List Tag
behind_arms gs tags = drop (in_arms gs) tags

abbrev pub behind_args : Args → List Tag → List Tag
behind_args gs tags = drop (in_args gs) tags

-- the tag of an error assignment, and those of the ones in it; null where there is none
abbrev pub first_tag : List Tag → Tag
first_tag [] = tag.Null
first_tag (t ∷ tags) = t

abbrev pub other_tags : List Tag → List Tag
other_tags [] = []
other_tags (t ∷ tags) = tags

-- the empty value of a tag; a regex and absent stand for null
abbrev pub empty_value : Tag → Tree
empty_value tag.Text = string []
empty_value tag.Int = integer (pos 0)
empty_value tag.Bool = boolean false
empty_value tag.Object = members no_members
empty_value tag.List = items no_items
empty_value tag.Time = timestamp (pos 0)
empty_value t = null
