-- What is asked of a linked expression that is run with so many variables and regexes.
use Rattle.std.specs.Prelude.{ℕ, zero, suc, ◌<◌, Bool, true, false, List, [], ◌∷◌, Option, Some, None, IsSome, IsTrue, ⊤}
use Rattle.vrl_value.specs.Tree.{Tree}
use Rattle.vrl_path.specs.Steps.{IsWritable}
use Rattle.vrl_builtin.specs.Conditions.{IsThere}
use Rattle.vrl_builtin.specs.Rows.{ParameterRow}
use Rattle.vrl_table.specs.Table.{row_of}
use Rattle.vrl_store.specs.StoreView.{IsKnown}
use Rattle.vrl_store.specs.declared.target_path.TargetPath.{TargetPath}
use Rattle.vrl_store.specs.WellFormed.{IsWellFormed}
use Rattle.vrl_resolve.specs.Linked.{Linked, literal, array, object, read, query, block, conditional, negation, binary, assign, merge, both, call, iterate, return_of, abort_with, Parts, no_parts, parts, Pairs, no_pairs, pair, Arms, no_arms, arm, Else, no_else, else_block, Message, no_message, message}
use Rattle.vrl_resolve.specs.LinkedMeaning.{slots_in}
use Rattle.vrl_resolve.specs.declared.node.Callee.{Callee}
use Rattle.vrl_resolve.specs.declared.node.Callee.TheVariants as callee

-- a path that may be written
abbrev pub IsTarget : ℕ → Option TargetPath → Type 0
IsTarget count None = ⊤
IsTarget count (Some place) = IsKnown count place.base × IsWritable place.path

-- the part at a place
abbrev pub part_at : ℕ → Parts → Option Linked
part_at i no_parts = None
part_at zero (parts n ns) = Some n
part_at (suc i) (parts n ns) = part_at i ns

-- an argument that must be a literal is one that the function allows
abbrev pub IsAllowedPart : (Tree → Bool) → Option Linked → Type 0
IsAllowedPart accepts (Some (literal v)) = IsTrue (accepts v)
IsAllowedPart accepts n = ⊥

abbrev pub IsAllowedPartIf : Bool → (Tree → Bool) → Option Linked → Type 0
IsAllowedPartIf true accepts n = IsAllowedPart accepts n
IsAllowedPartIf false accepts n = ⊤

-- the argument of a parameter, at the place of one of the call's
abbrev pub IsGiven : ParameterRow → (Tree → Bool) → Parts → Option ℕ → Type 0
IsGiven p accepts ns None = IsThere {A = ℕ} p.required None
IsGiven p accepts ns (Some place) = IsSome (part_at place ns) × IsAllowedPartIf p.literal accepts (part_at place ns)

abbrev pub AreGiven : ℕ → List ParameterRow → (ℕ → Tree → Bool) → Parts → List (Option ℕ) → Type 0
AreGiven i [] accepts ns places = ⊤
AreGiven i (p ∷ ps) accepts ns [] = ⊥
AreGiven i (p ∷ ps) accepts ns (place ∷ places) = IsGiven p (accepts i) ns place × AreGiven (suc i) ps accepts ns places

abbrev pub IsCallee : ℕ → Parts → Callee → Type 0
IsCallee count ns (callee.Function f places) = AreGiven 0 (row_of f).parameters (row_of f).accepts ns places.items
IsCallee count ns (callee.Deletion place) = IsKnown count place.base
IsCallee count ns (callee.Existence place) = IsKnown count place.base
IsCallee count ns callee.Nothing = ⊤

-- the variables that a closure binds are some of so many
abbrev pub IsKnownSlot : ℕ → Option ℕ → Type 0
IsKnownSlot count None = ⊤
IsKnownSlot count (Some number) = number < count

abbrev pub AreKnownSlots : ℕ → List (Option ℕ) → Type 0
AreKnownSlots count [] = ⊤
AreKnownSlots count (slot ∷ slots) = IsKnownSlot count slot × AreKnownSlots count slots

abbrev mutual
  pub Fits : ℕ → ℕ → Linked → Type 0
  Fits count sources (literal v) = IsWellFormed sources v
  Fits count sources (array ns) = AllFit count sources ns
  Fits count sources (object ps) = PairsFit count sources ps
  Fits count sources (read place) = IsKnown count place.base
  Fits count sources (query n path) = Fits count sources n
  Fits count sources (block ns) = AllFit count sources ns
  Fits count sources (conditional as_ otherwise) = ArmsFit count sources as_ × ElseFits count sources otherwise
  Fits count sources (negation n) = Fits count sources n
  Fits count sources (binary o l r) = Fits count sources l × Fits count sources r
  Fits count sources (assign t n) = IsTarget count t × Fits count sources n
  Fits count sources (merge t n) = IsTarget count t × Fits count sources n
  Fits count sources (both t u tag n) = IsTarget count t × (IsTarget count u × Fits count sources n)
  Fits count sources (call c bang ns) = IsCallee count ns c × AllFit count sources ns
  Fits count sources (iterate f bang ns body) =
      AreKnownSlots count (slots_in f) × (AllFit count sources ns × AllFit count sources body)
  Fits count sources (return_of n) = Fits count sources n
  Fits count sources (abort_with m) = MessageFits count sources m

  pub AllFit : ℕ → ℕ → Parts → Type 0
  AllFit count sources no_parts = ⊤
  AllFit count sources (parts n ns) = Fits count sources n × AllFit count sources ns

  pub PairsFit : ℕ → ℕ → Pairs → Type 0
  PairsFit count sources no_pairs = ⊤
  PairsFit count sources (pair key n ps) = Fits count sources n × PairsFit count sources ps

  pub ArmsFit : ℕ → ℕ → Arms → Type 0
  ArmsFit count sources no_arms = ⊤
  ArmsFit count sources (arm predicate ns as_) =
      Fits count sources predicate × (AllFit count sources ns × ArmsFit count sources as_)

  pub ElseFits : ℕ → ℕ → Else → Type 0
  ElseFits count sources no_else = ⊤
  ElseFits count sources (else_block ns) = AllFit count sources ns

  pub MessageFits : ℕ → ℕ → Message → Type 0
  MessageFits count sources no_message = ⊤
  MessageFits count sources (message n) = Fits count sources n
