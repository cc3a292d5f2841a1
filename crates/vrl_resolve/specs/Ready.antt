-- What is known of each program in memory: it can be run.
--
-- No two proofs of it differ, as is shown here part by part: so a program may hold one.
use Rattle.std.specs.Prelude.{ℕ, Bool, true, false, List, [], ◌∷◌, length, All, Option, Some, None, IsTrue, pos, negsuc}
use Rattle.std.specs.Coded.{coded_bool, coded_list, coded_option, coded_ℕ, le_prop, ×_prop, Coded-set, Unit-prop}
use Rattle.std.specs.Ordering.{Ordering-set}
use Rattle.vrl_value.specs.Tree.{Tree, string, integer, boolean, null, timestamp, regex, array as items, object as fields, Items, no_items, item, Members, no_members, member, IsBefore, IsOrdered, ItemsAreOrdered, MembersAreOrdered}
use Rattle.vrl_path.specs.Steps.{IsWritableStep}
use Rattle.vrl_path.specs.declared.path.Step.{Step}
use Rattle.vrl_path.specs.declared.path.Step.TheVariants.{Field, Place as Index}
use Rattle.vrl_builtin.specs.Conditions.{IsThere}
use Rattle.vrl_builtin.specs.Rows.{ParameterRow}
use Rattle.vrl_table.specs.Table.{row_of}
use Rattle.vrl_store.specs.StoreView.{is_among, AreDistinct, BeginWithMetadata, IsKnown, Names}
use Rattle.vrl_store.specs.WellFormed.{IsWellFormed}
use Rattle.vrl_store.specs.declared.target_path.Base.{Base}
use Rattle.vrl_store.specs.declared.target_path.Base.TheVariants as base
use Rattle.vrl_store.specs.declared.target_path.TargetPath.{TargetPath}
use Rattle.vrl_resolve.specs.Fits.{part_at, AllFit, AreGiven, AreKnownSlots, ArmsFit, ElseFits, Fits, IsAllowedPart, IsAllowedPartIf, IsCallee, IsGiven, IsKnownSlot, IsTarget, MessageFits, PairsFit}
use Rattle.vrl_resolve.specs.Linked.{Linked, literal, array, object, read, query, block, conditional, negation, binary, assign, merge, both, call, iterate, return_of, abort_with, Parts, no_parts, parts, Pairs, no_pairs, pair, Arms, no_arms, arm, Else, no_else, else_block, Message, no_message, message}
use Rattle.vrl_resolve.specs.LinkedMeaning.{slots_in}
use Rattle.vrl_resolve.specs.declared.node.Callee.{Callee}
use Rattle.vrl_resolve.specs.declared.node.Callee.TheVariants as callee

-- no name of a variable stands twice, that of the metadata is the first, and the items fit so many
-- variables and regexes
pub record IsReady (names : Names) (items : Parts) (sources : ℕ) : Type 0 where
  pub distinct : AreDistinct names
  pub first : BeginWithMetadata names
  pub fits : AllFit (length names) sources items

-- ---- that there is one proof

true-prop : (b : Bool) → IsProp (IsTrue b)
true-prop b = Coded-set coded_bool b true

none-prop : IsProp ⊥
none-prop x y = absurd x

distinct-prop : (names : Names) → IsProp (AreDistinct names)
distinct-prop [] = Unit-prop
distinct-prop (x ∷ names) = ×_prop (Coded-set coded_bool (is_among x names) false) (distinct-prop names)

before-prop : (k : List ℕ) (ms : Members) → IsProp (IsBefore k ms)
before-prop k no_members = Unit-prop
before-prop k (member l t ms) = ×_prop (Ordering-set _ _) (before-prop k ms)

mutual
  ordered-prop : (v : Tree) → IsProp (IsOrdered v)
  ordered-prop (string s) = Unit-prop
  ordered-prop (integer n) = Unit-prop
  ordered-prop (boolean b) = Unit-prop
  ordered-prop null = Unit-prop
  ordered-prop (timestamp nanos) = Unit-prop
  ordered-prop (regex n) = Unit-prop
  ordered-prop (items ts) = items-prop ts
  ordered-prop (fields ms) = members-prop ms

  items-prop : (ts : Items) → IsProp (ItemsAreOrdered ts)
  items-prop no_items = Unit-prop
  items-prop (item t ts) = ×_prop (ordered-prop t) (items-prop ts)

  members-prop : (ms : Members) → IsProp (MembersAreOrdered ms)
  members-prop no_members = Unit-prop
  members-prop (member k t ms) =
      λ x y i. (before-prop k ms x.0 y.0 i, ordered-prop t x.1 y.1 i, members-prop ms x.2 y.2 i)

formed-prop : (sources : ℕ) (v : Tree) → IsProp (IsWellFormed sources v)
formed-prop sources v x y =
    λ i. record { ordered = ordered-prop v x.ordered y.ordered i; below = true-prop _ x.below y.below i }

all-prop : {P : Step → Type 0} → ((s : Step) → IsProp (P s)) → (path : List Step) → IsProp (All P path)
all-prop one path x y = λ i k d below. one _ (x k d below) (y k d below) i

writable-prop : (s : Step) → IsProp (IsWritableStep s)
writable-prop (Field name) = Unit-prop
writable-prop (Index (pos i)) = le_prop
writable-prop (Index (negsuc i)) = le_prop

known-prop : (count : ℕ) (b : Base) → IsProp (IsKnown count b)
known-prop count base.Event = Unit-prop
known-prop count (base.Variable number) = le_prop

target-prop : (count : ℕ) (t : Option TargetPath) → IsProp (IsTarget count t)
target-prop count None = Unit-prop
target-prop count (Some place) = ×_prop (known-prop count place.base) (all-prop writable-prop place.path)

there-prop : (b : Bool) → IsProp (IsThere {A = ℕ} b None)
there-prop true = true-prop _
there-prop false = Unit-prop

allowed-prop : (accepts : Tree → Bool) (n : Option Linked) → IsProp (IsAllowedPart accepts n)
allowed-prop accepts None = none-prop
allowed-prop accepts (Some (literal v)) = true-prop (accepts v)
allowed-prop accepts (Some n) = none-prop

allowed_if-prop : (wants : Bool) (accepts : Tree → Bool) (n : Option Linked) → IsProp (IsAllowedPartIf wants accepts n)
allowed_if-prop true accepts n = allowed-prop accepts n
allowed_if-prop false accepts n = Unit-prop

given-prop : (p : ParameterRow) (accepts : Tree → Bool) (ns : Parts) (place : Option ℕ)
    → IsProp (IsGiven p accepts ns place)
given-prop p accepts ns None = there-prop p.required
given-prop p accepts ns (Some place) = ×_prop (true-prop _) (allowed_if-prop p.literal accepts (part_at place ns))

all_given-prop : (i : ℕ) (ps : List ParameterRow) (accepts : ℕ → Tree → Bool) (ns : Parts) (places : List (Option ℕ))
    → IsProp (AreGiven i ps accepts ns places)
all_given-prop i [] accepts ns places = Unit-prop
all_given-prop i (p ∷ ps) accepts ns [] = none-prop
all_given-prop i (p ∷ ps) accepts ns (place ∷ places) =
    ×_prop (given-prop p (accepts i) ns place) (all_given-prop _ ps accepts ns places)

callee-prop : (count : ℕ) (ns : Parts) (c : Callee) → IsProp (IsCallee count ns c)
callee-prop count ns (callee.Function f places) =
    all_given-prop 0 (row_of f).parameters (row_of f).accepts ns places.items
callee-prop count ns (callee.Deletion place) = known-prop count place.base
callee-prop count ns (callee.Existence place) = known-prop count place.base
callee-prop count ns callee.Nothing = Unit-prop

slot-prop : (count : ℕ) (slot : Option ℕ) → IsProp (IsKnownSlot count slot)
slot-prop count None = Unit-prop
slot-prop count (Some number) = le_prop

slots-prop : (count : ℕ) (slots : List (Option ℕ)) → IsProp (AreKnownSlots count slots)
slots-prop count [] = Unit-prop
slots-prop count (slot ∷ slots) = ×_prop (slot-prop count slot) (slots-prop count slots)

mutual
  fits-prop : (count sources : ℕ) (n : Linked) → IsProp (Fits count sources n)
  fits-prop count sources (literal v) = formed-prop sources v
  fits-prop count sources (array ns) = all_fit-prop count sources ns
  fits-prop count sources (object ps) = pairs-prop count sources ps
  fits-prop count sources (read place) = known-prop count place.base
  fits-prop count sources (query n path) = fits-prop count sources n
  fits-prop count sources (block ns) = all_fit-prop count sources ns
  fits-prop count sources (conditional as_ otherwise) =
      ×_prop (arms-prop count sources as_) (else-prop count sources otherwise)
  fits-prop count sources (negation n) = fits-prop count sources n
  fits-prop count sources (binary o l r) = ×_prop (fits-prop count sources l) (fits-prop count sources r)
  fits-prop count sources (assign t n) = ×_prop (target-prop count t) (fits-prop count sources n)
  fits-prop count sources (merge t n) = ×_prop (target-prop count t) (fits-prop count sources n)
  fits-prop count sources (both t u tag n) =
      ×_prop (target-prop count t) (×_prop (target-prop count u) (fits-prop count sources n))
  fits-prop count sources (call c bang ns) = ×_prop (callee-prop count ns c) (all_fit-prop count sources ns)
  fits-prop count sources (iterate f bang ns body) =
      ×_prop (slots-prop count (slots_in f)) (×_prop (all_fit-prop count sources ns) (all_fit-prop count sources body))
  fits-prop count sources (return_of n) = fits-prop count sources n
  fits-prop count sources (abort_with m) = message-prop count sources m

  all_fit-prop : (count sources : ℕ) (ns : Parts) → IsProp (AllFit count sources ns)
  all_fit-prop count sources no_parts = Unit-prop
  all_fit-prop count sources (parts n ns) = ×_prop (fits-prop count sources n) (all_fit-prop count sources ns)

  pairs-prop : (count sources : ℕ) (ps : Pairs) → IsProp (PairsFit count sources ps)
  pairs-prop count sources no_pairs = Unit-prop
  pairs-prop count sources (pair key n ps) = ×_prop (fits-prop count sources n) (pairs-prop count sources ps)

  arms-prop : (count sources : ℕ) (as_ : Arms) → IsProp (ArmsFit count sources as_)
  arms-prop count sources no_arms = Unit-prop
  arms-prop count sources (arm predicate ns as_) =
      ×_prop (fits-prop count sources predicate) (×_prop (all_fit-prop count sources ns) (arms-prop count sources as_))

  else-prop : (count sources : ℕ) (e : Else) → IsProp (ElseFits count sources e)
  else-prop count sources no_else = Unit-prop
  else-prop count sources (else_block ns) = all_fit-prop count sources ns

  message-prop : (count sources : ℕ) (m : Message) → IsProp (MessageFits count sources m)
  message-prop count sources no_message = Unit-prop
  message-prop count sources (message n) = fits-prop count sources n

pub ready-prop : (names : Names) (items : Parts) (sources : ℕ) → IsProp (IsReady names items sources)
ready-prop names ns sources x y = λ i. record {
  distinct = distinct-prop names x.distinct y.distinct i;
  first = Coded-set (coded_option (coded_list coded_ℕ)) _ _ x.first y.first i;
  fits = all_fit-prop
      (length names) sources ns x.fits y.fits i;
}
