-- Values as a script with so many regexes may hold them: in order, and each regex in them is one of
-- the script's.
use Rattle.std.specs.Prelude.{ℕ, List, [], ◌∷◌, IsTrue, IfSome, ⊤}
use Rattle.std.specs.FinMap as map
use Rattle.vrl_value.specs.Regexes.{regexes_below}
use Rattle.vrl_value.specs.Tree.{Tree, IsOrdered}
use Rattle.vrl_syntax.specs.Stores.{Store}
use Rattle.vrl_syntax.specs.Tree.{Expr, expr, Form, literal, array, object, read, query, group, block, conditional, negation, binary, assign, merge, both, call, return_of, abort_with, Exprs, no_exprs, exprs, Pairs, no_pairs, pair, Arms, no_arms, arm, Else, no_else, else_block, Args, no_args, arg, Closure, no_closure, closure, Message, no_message, message}
use Rattle.vrl_store.specs.Outcomes.{Outcome, value, returned, Ended}

pub record IsWellFormed (count : ℕ) (v : Tree) : Type 0 where
  pub ordered : IsOrdered v
  pub below : IsTrue (regexes_below count v)

-- each value of a list is
abbrev pub AreWellFormed : ℕ → List Tree → Type 0
AreWellFormed count [] = ⊤
AreWellFormed count (v ∷ vs) = IsWellFormed count v × AreWellFormed count vs

-- the event is, and each variable that is there
pub record IsWellFormedStore (count : ℕ) (store : Store) : Type 0 where
  pub event : IsWellFormed count store.event
  pub variables : (x : List ℕ) → IfSome (map.get store.variables x) (IsWellFormed count)

-- a value, also that of a return
abbrev pub IsWellFormedOutcome : ℕ → Outcome → Type 0
IsWellFormedOutcome count (value v) = IsWellFormed count v
IsWellFormedOutcome count (returned v) = IsWellFormed count v
IsWellFormedOutcome count other = ⊤

abbrev pub IsWellFormedEnded : ℕ → Ended → Type 0
IsWellFormedEnded count ended = IsWellFormedOutcome count ended.outcome × IsWellFormedStore count ended.store

-- each literal of a part of a script is
abbrev mutual
  pub IsWellFormedExpr : ℕ → Expr → Type 0
  IsWellFormedExpr count (expr span f) = IsWellFormedForm count f

  pub IsWellFormedForm : ℕ → Form → Type 0
  IsWellFormedForm count (literal v) = IsWellFormed count v
  IsWellFormedForm count (array es) = AreWellFormedExprs count es
  IsWellFormedForm count (object ps) = AreWellFormedPairs count ps
  IsWellFormedForm count (read root path) = ⊤
  IsWellFormedForm count (query e path) = IsWellFormedExpr count e
  IsWellFormedForm count (group e) = IsWellFormedExpr count e
  IsWellFormedForm count (block es) = AreWellFormedExprs count es
  IsWellFormedForm count (conditional gs es) = AreWellFormedArms count gs × IsWellFormedElse count es
  IsWellFormedForm count (negation e) = IsWellFormedExpr count e
  IsWellFormedForm count (binary op l r) = IsWellFormedExpr count l × IsWellFormedExpr count r
  IsWellFormedForm count (assign t e) = IsWellFormedExpr count e
  IsWellFormedForm count (merge t e) = IsWellFormedExpr count e
  IsWellFormedForm count (both t u e) = IsWellFormedExpr count e
  IsWellFormedForm count (call name span bang gs c) = AreWellFormedArgs count gs × IsWellFormedClosure count c
  IsWellFormedForm count (return_of e) = IsWellFormedExpr count e
  IsWellFormedForm count (abort_with m) = IsWellFormedMessage count m

  pub AreWellFormedExprs : ℕ → Exprs → Type 0
  AreWellFormedExprs count no_exprs = ⊤
  AreWellFormedExprs count (exprs e es) = IsWellFormedExpr count e × AreWellFormedExprs count es

  pub AreWellFormedPairs : ℕ → Pairs → Type 0
  AreWellFormedPairs count no_pairs = ⊤
  AreWellFormedPairs count (pair key e ps) = IsWellFormedExpr count e × AreWellFormedPairs count ps

  pub AreWellFormedArms : ℕ → Arms → Type 0
  AreWellFormedArms count no_arms = ⊤
  AreWellFormedArms count (arm predicate es gs) =
      IsWellFormedExpr count predicate × (AreWellFormedExprs count es × AreWellFormedArms count gs)

  pub IsWellFormedElse : ℕ → Else → Type 0
  IsWellFormedElse count no_else = ⊤
  IsWellFormedElse count (else_block es) = AreWellFormedExprs count es

  pub AreWellFormedArgs : ℕ → Args → Type 0
  AreWellFormedArgs count no_args = ⊤
  AreWellFormedArgs count (arg name span e gs) = IsWellFormedExpr count e × AreWellFormedArgs count gs

  pub IsWellFormedClosure : ℕ → Closure → Type 0
  IsWellFormedClosure count no_closure = ⊤
  IsWellFormedClosure count (closure names es span) = AreWellFormedExprs count es

  pub IsWellFormedMessage : ℕ → Message → Type 0
  IsWellFormedMessage count no_message = ⊤
  IsWellFormedMessage count (message e) = IsWellFormedExpr count e
