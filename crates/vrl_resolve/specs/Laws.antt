-- Laws of the meaning.
use Rattle.std.specs.Prelude.{◌≡◌, ℕ, List, length, Option}
use Rattle.vrl_value.specs.Tree.{Tree, null, object, Members}
use Rattle.vrl_value.specs.declared.value.Tag.{Tag}
use Rattle.vrl_syntax.specs.Stores.{Store, store_of}
use Rattle.vrl_syntax.specs.Tree.{Closure, Expr, Exprs, no_exprs}
use Rattle.vrl_builtin.specs.Rows.{SettingTree}
use Rattle.vrl_store.specs.Outcomes.{Ended, ends, value}
use Rattle.vrl_store.specs.StoreView.{Names}
use Rattle.vrl_store.specs.WellFormed.{AreWellFormed, AreWellFormedExprs, IsWellFormed, IsWellFormedClosure, IsWellFormedEnded, IsWellFormedExpr, IsWellFormedStore}
use Rattle.vrl_resolve.specs.Calls.{Body}
use Rattle.vrl_resolve.specs.Fits.{AllFit, ArmsFit, ElseFits, Fits, PairsFit}
use Rattle.vrl_resolve.specs.Linked.{Arms, Else, Linked, Pairs, Parts}
use Rattle.vrl_resolve.specs.LinkedMeaning.{all_mean, arms_mean, body_means, else_means, items_mean, means, pairs_mean}
use Rattle.vrl_resolve.specs.Meaning.{eval, eval_body, eval_items, run_script}

-- a script without items gives null, and leaves the event and the metadata as they are
abbrev pub EmptyScriptsGiveNull : Type 0
EmptyScriptsGiveNull = (setting : SettingTree) (tags : List Tag) (event beside : Tree)
    → run_script setting tags no_exprs event beside ≡ ends (value null) (store_of event beside)

-- a run of a closure's body ends well-formed where the values that it is given and the store are
abbrev pub KeepsWellFormed : ℕ → Body → Type 0
KeepsWellFormed count body = (vs : List Tree) (store : Store) → AreWellFormed count vs → IsWellFormedStore count store
    → IsWellFormedEnded count (body vs store)

-- how an expression, or a list of items, ends is well-formed where the store in which it is run and
-- its literals are
pub record EvaluationsStayWellFormed : Type 0 where
  pub expression : (setting : SettingTree) (tags : List Tag) (e : Expr) (store : Store) →
      IsWellFormedExpr (length setting.sources) e → IsWellFormedStore (length setting.sources) store
      → IsWellFormedEnded (length setting.sources) (eval setting tags e store)
  pub items : (setting : SettingTree) (tags : List Tag) (last : Tree) (es : Exprs) (store : Store) →
      IsWellFormed (length setting.sources) last → AreWellFormedExprs (length setting.sources) es
      → IsWellFormedStore (length setting.sources) store →
      IsWellFormedEnded (length setting.sources) (eval_items setting tags last es store)
  -- the body of a closure, with its names bound to such values
  pub body : (setting : SettingTree) (tags : List Tag) (c : Closure) → IsWellFormedClosure (length setting.sources) c
      → KeepsWellFormed (length setting.sources) (eval_body setting tags c)

-- the same of linked expressions, and of what stands in them
pub record MeaningsStayWellFormed : Type 0 where
  pub node : (names : Names) (setting : SettingTree) (count : ℕ) (n : Linked) (store : Store) →
      Fits count (length setting.sources) n → IsWellFormedStore (length setting.sources) store
      → IsWellFormedEnded (length setting.sources) (means names setting n store)
  -- behind values that were run before
  pub parts : (names : Names) (setting : SettingTree) (count : ℕ) (ns : Parts) (vs : List Tree) (store : Store) →
      AllFit count (length setting.sources) ns → AreWellFormed (length setting.sources) vs
      → IsWellFormedStore (length setting.sources) store →
      IsWellFormedEnded (length setting.sources) (all_mean names setting ns vs store)
  pub pairs : (names : Names) (setting : SettingTree) (count : ℕ) (ps : Pairs) (ms : Members) (store : Store) →
      PairsFit count (length setting.sources) ps → IsWellFormed (length setting.sources) (object ms)
      → IsWellFormedStore (length setting.sources) store →
      IsWellFormedEnded (length setting.sources) (pairs_mean names setting ps ms store)
  pub items : (names : Names) (setting : SettingTree) (count : ℕ) (last : Tree) (ns : Parts) (store : Store) →
      IsWellFormed (length setting.sources) last → AllFit count (length setting.sources) ns
      → IsWellFormedStore (length setting.sources) store →
      IsWellFormedEnded (length setting.sources) (items_mean names setting last ns store)
  -- the items of a closure, with its variables bound to such values
  pub body : (names : Names) (setting : SettingTree) (count : ℕ) (slots : List (Option ℕ)) (ns : Parts)
      → AllFit count (length setting.sources) ns
      → KeepsWellFormed (length setting.sources) (body_means names setting slots ns)
  -- where what is otherwise done ends so in each such store
  pub arms : (names : Names) (setting : SettingTree) (count : ℕ) (as_ : Arms) (otherwise : Store → Ended)
      (store : Store) →
      ArmsFit count (length setting.sources) as_ →
      ((after : Store) → IsWellFormedStore (length setting.sources) after
      → IsWellFormedEnded (length setting.sources) (otherwise after)) →
      IsWellFormedStore (length setting.sources) store
      → IsWellFormedEnded (length setting.sources) (arms_mean names setting as_ otherwise store)
  pub otherwise : (names : Names) (setting : SettingTree) (count : ℕ) (es : Else) (store : Store) →
      ElseFits count (length setting.sources) es → IsWellFormedStore (length setting.sources) store
      → IsWellFormedEnded (length setting.sources) (else_means names setting es store)
