-- That what is known is listed in order, and that each root of the list has a root's kind.
use Rattle.std.proofs.Common.{◌≡◌, ℕ, Bool, true, false, ◌&&◌, T, cond, is_lt, is_eq, All, List, [], ◌∷◌, map, Some, None, Ordering, Less, Equal, Greater, nat_cmp, sym, ap, ◌∙◌, subst, refl}
use Rattle.std.proofs.lemmas.Bool.{and_from}
use Rattle.std.proofs.lemmas.Cmp.{nat_list_cmp_total, tied_itself}
use Rattle.std.proofs.lemmas.List.Elements.{All-cons, All-nil, All-weaker}
use Rattle.std.specs.Cmp.Lexicographic.{slice_cmp}
use Rattle.std.specs.FinMap as finite
use Rattle.vrl_kind.specs.KindTree.{KindTree}
use Rattle.vrl_syntax.specs.declared.root.Root.TheVariants.{Event, Name}
use Rattle.vrl_state.specs.Known.{root_kinds, variable_kind, variable_kinds}
use Rattle.vrl_state.specs.RootLists.{rise_from, IsRootList}
use Rattle.vrl_state.specs.States.{HasRootKinds, IsPresent, IsRootKind, IsRootKindIf, RootMap, Variables}
use Rattle.vrl_state.specs.declared.known.RootKind.{RootKind}
use Rattle.vrl_state.proofs.Finite.{by_name}

abbrev Entries : Type 0
Entries = List (List ℕ × KindTree)

-- what a sorted list with at least two entries tells
sorted_parts : (a b c d : Bool) → T ((a && b) && (c && d)) → T a × T (b && d)
sorted_parts true true true d p = (tt, p)
sorted_parts true true false d p = absurd p
sorted_parts true false c d p = absurd p
sorted_parts false b c d p = absurd p

second : (a b : Bool) → T (a && b) → T b
second true b p = p
second false b p = absurd p

not_tied : (o : Ordering) → T (is_lt o) → is_eq o ≡ false
not_tied Less p = refl
not_tied Equal p = absurd p
not_tied Greater p = absurd p

-- the first name isn't one of the others
not_among : (e : List ℕ × KindTree) (es : Entries) → T (finite.is_sorted (slice_cmp nat_cmp) (e ∷ es)) → finite.find (slice_cmp nat_cmp) e.0 es ≡ None
not_among e [] sorted = refl
not_among e (d ∷ es) sorted =
    let parts = sorted_parts (is_lt (slice_cmp nat_cmp e.0 d.0)) _ _ _ sorted in
    ap (λ b. cond b (Some d.1) (finite.find (slice_cmp nat_cmp) e.0 es)) (not_tied (slice_cmp nat_cmp e.0 d.0) parts.0) ∙ not_among e es parts.1

here : (e : List ℕ × KindTree) (es : Entries) → finite.find (slice_cmp nat_cmp) e.0 (e ∷ es) ≡ Some e.1
here e es = ap (λ o. cond (is_eq o) (Some e.1) (finite.find (slice_cmp nat_cmp) e.0 es)) (tied_itself nat_list_cmp_total e.0)

behind : (e : List ℕ × KindTree) (es : Entries) → T (finite.is_sorted (slice_cmp nat_cmp) (e ∷ es)) → ((x : List ℕ) → IsRootKindIf (finite.find (slice_cmp nat_cmp) x (e ∷ es))) → (x : List ℕ) → IsRootKindIf (finite.find (slice_cmp nat_cmp) x es)
behind e es sorted all =
    by_name (λ x. IsRootKindIf (finite.find (slice_cmp nat_cmp) x es)) e.0
    (subst IsRootKindIf (sym (not_among e es sorted)) tt)
    (λ x other. subst IsRootKindIf (ap (λ b. cond b (Some e.1) (finite.find (slice_cmp nat_cmp) x es)) other) (all x))

abbrev HasRootKind : RootKind → Type 0
HasRootKind r = IsRootKind r.kind

each : (es : Entries) → T (finite.is_sorted (slice_cmp nat_cmp) es) → ((x : List ℕ) → IsRootKindIf (finite.find (slice_cmp nat_cmp) x es)) → All HasRootKind (map variable_kind es)
each [] sorted all = All-nil HasRootKind
each (e ∷ es) sorted all =
    All-cons HasRootKind (variable_kind e) (map variable_kind es) (subst IsRootKindIf (here e es) (all e.0)) (each es (second _ _ sorted) (behind e es sorted all))

variables_listed : (variables : Variables) → ((x : List ℕ) → IsRootKindIf (finite.get variables x)) → All HasRootKind (variable_kinds variables)
variables_listed variables all = each (finite.entries variables) (finite.entries_sorted variables) (λ x. subst IsRootKindIf (finite.get-entries variables x) (all x))

-- each root that is listed has one
pub all_listed : (roots : RootMap) (listed : List RootKind) → listed ≡ root_kinds roots → HasRootKinds roots → All HasRootKind listed
all_listed roots listed is has =
    subst (All HasRootKind) (sym is) (All-cons HasRootKind _ (variable_kinds roots.variables) has.event (variables_listed roots.variables has.variables))

-- ---- order

is_true : (b : Bool) → T b → b ≡ true
is_true true p = refl
is_true false p = absurd p

first : (a b c : Bool) → T ((a && b) && c) → T a
first true b c p = tt
first false b c p = absurd p

rise_behind : (e : List ℕ × KindTree) (es : Entries) → T (finite.is_sorted (slice_cmp nat_cmp) (e ∷ es))
    → rise_from (Name e.0) (map variable_kind es) ≡ true
rise_behind e [] sorted = refl
rise_behind e (d ∷ es) sorted =
    and_from (is_lt (slice_cmp nat_cmp e.0 d.0)) (rise_from (Name d.0) (map variable_kind es))
    (is_true _ (first (is_lt (slice_cmp nat_cmp e.0 d.0)) _ _ sorted))
    (rise_behind d es (second _ _ sorted))

rise_all : (es : Entries) → T (finite.is_sorted (slice_cmp nat_cmp) es) → rise_from Event (map variable_kind es) ≡ true
rise_all [] sorted = refl
rise_all (e ∷ es) sorted = rise_behind e es sorted

-- what is known is a list of roots
pub root_list : (roots : RootMap) → HasRootKinds roots → IsRootList (root_kinds roots)
root_list roots has = record {
  event = refl;
  order = rise_all (finite.entries roots.variables) (finite.entries_sorted roots.variables);
  present = All-weaker HasRootKind (λ r. IsPresent r.kind) (λ r is. is.present) (root_kinds roots) (all_listed roots (root_kinds roots) refl has);
}
