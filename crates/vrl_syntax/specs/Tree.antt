-- A script as a tree: expressions, each with the place where it stands. The forms are those of the
-- VRL reference in Vector's documentation.
use Rattle.std.specs.Prelude.{ℕ, Bool, List, Option}
use Rattle.vrl_value.specs.Tree.{Tree}
use Rattle.vrl_path.specs.declared.path.Step.{Step}
use Rattle.vrl_diag.specs.declared.diagnostic.Span.{Span}
use Rattle.vrl_syntax.specs.declared.root.Op.{Op}
use Rattle.vrl_syntax.specs.declared.root.Root.{Root}
use Rattle.vrl_syntax.specs.declared.root.Target.{Target}

mutual
  pub data Expr : Type 0 where
    -- where it stands, and what it is
    expr : Span → Form → Expr

  pub data Form : Type 0 where
    literal : Tree → Form
    array : Exprs → Form
    object : Pairs → Form
    read : Root → List Step → Form
    query : Expr → List Step → Form
    group : Expr → Form
    block : Exprs → Form
    conditional : Arms → Else → Form
    negation : Expr → Form
    binary : Op → Expr → Expr → Form
    assign : Target → Expr → Form
    merge : Target → Expr → Form
    both : Target → Target → Expr → Form
    -- the name, its place, whether it has a `!`, the arguments, the closure
    call : List ℕ → Span → Bool → Args → Closure → Form
    return_of : Expr → Form
    abort_with : Message → Form

  pub data Exprs : Type 0 where
    no_exprs : Exprs
    exprs : Expr → Exprs → Exprs

  pub data Pairs : Type 0 where
    no_pairs : Pairs
    pair : List ℕ → Expr → Pairs → Pairs

  -- predicates, each with its block
  pub data Arms : Type 0 where
    no_arms : Arms
    arm : Expr → Exprs → Arms → Arms

  pub data Else : Type 0 where
    no_else : Else
    else_block : Exprs → Else

  -- the name that is written before it, its place from there on, and its value
  pub data Args : Type 0 where
    no_args : Args
    arg : Option (List ℕ) → Span → Expr → Args → Args

  -- the names between the bars, the items of the block, and the block's place
  pub data Closure : Type 0 where
    no_closure : Closure
    closure : List (List ℕ) → Exprs → Span → Closure

  -- of an `abort`
  pub data Message : Type 0 where
    no_message : Message
    message : Expr → Message

-- where an expression stands
abbrev pub span_of : Expr → Span
span_of (expr span f) = span

-- stands for the place of what has none
abbrev pub no_span : Span
no_span = record { start = 0; «end» = 0 }

-- the items, and the sources of the regex literals in order
pub record Script : Type 0 where
  pub items : Exprs
  pub patterns : List (List ℕ)
