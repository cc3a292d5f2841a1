-- A value of an object or an array replaced or taken out, in the code and as trees.
use Rattle.std.proofs.Common.{◌≡◌, ℕ, List, [], ◌∷◌, Option, Some, None, option_map, String, Global, BTreeMap, Ordering, Less, Equal, Greater, string_bytes, nat_cmp, is_eq, cond, refl, sym, ap, ◌∙◌, OnSome}
use Rattle.std.specs.BTreeMap.{is_at}
use Rattle.std.specs.Cmp.Lexicographic.{slice_cmp}
use Rattle.std.specs.Map.{lookup, set_value, remove_entry}
use Rattle.std.specs.Ordering.{match_ordering}
use Rattle.vrl_value.specs.Parts.{replace, without}
use Rattle.vrl_value.specs.Tree.{Members, member}
use Rattle.vrl_value.specs.View.{members_of, members_view, tree_of}
use Rattle.vrl_value.specs.declared.value.Value.{Value}
use Rattle.vrl_value.specs.declared.value.Fields.{Fields, out-Fields}
use Rattle.vrl_value.specs.declared.value.Value.TheViews.{roll-Fields}
use Rattle.vrl_value.proofs.Find.{tree_of-lookup}
use Rattle.vrl_value.proofs.Members.{without-none}
use Rattle.vrl_value.proofs.Put.{members_of-roll, members_of-out}

-- the test of a look-up by these bytes
abbrev pub named : List ℕ → String Global → Ordering
named name key = slice_cmp nat_cmp name (string_bytes key)

replace_cases : (o : Ordering) (e : String Global × Value) (w : Value) (es changed : List (String Global × Value)) (rest : Members) → members_view changed ≡ rest
    → members_view (cond (is_eq o) ((e.0, w) ∷ es) (e ∷ changed))
    ≡ match_ordering o (member (string_bytes e.0) (tree_of e.1) rest) (member (string_bytes e.0) (tree_of w) (members_view es)) (member (string_bytes e.0) (tree_of e.1) rest)
replace_cases Less e w es changed rest later = ap (member (string_bytes e.0) (tree_of e.1)) later
replace_cases Equal e w es changed rest later = refl
replace_cases Greater e w es changed rest later = ap (member (string_bytes e.0) (tree_of e.1)) later

-- an entry's value written
pub members_view-set_value : (name : List ℕ) (es : List (String Global × Value)) (w : Value) → members_view (set_value (is_at (named name)) es w) ≡ replace name (tree_of w) (members_view es)
members_view-set_value name [] w = refl
members_view-set_value name (e ∷ es) w = replace_cases (named name e.0) e w es _ _ (members_view-set_value name es w)

-- the same of the fields over a map
pub members_of-set_value : (fields : Fields) (map : BTreeMap (String Global) Value) (name : List ℕ) (w : Value)
    → map.entries ≡ set_value (is_at (named name)) (out-Fields fields).map.entries w → members_of (roll-Fields record { map = map }) ≡ replace name (tree_of w) (members_of fields)
members_of-set_value fields map name w entries =
    members_of-roll map ∙ ap members_view entries ∙ members_view-set_value name (out-Fields fields).map.entries w ∙ ap (replace name (tree_of w)) (members_of-out fields)

-- the same map under the fields
pub members_of-same : (fields : Fields) (map : BTreeMap (String Global) Value) → map ≡ (out-Fields fields).map → members_of (roll-Fields record { map = map }) ≡ members_of fields
members_of-same fields map same = members_of-roll map ∙ ap (λ m. members_view m.entries) same ∙ members_of-out fields

-- a fact holds where there is a value
pub on_some : {T : Type 0} (o : Option T) (P : Type 0) → P → OnSome o P
on_some None P p = tt
on_some (Some x) P p = p

-- the step of `members_view-remove_entry`, at the order of the name and the first key
remove_cases : (o : Ordering) (name : List ℕ) (e : String Global × Value) (es left : List (String Global × Value)) (rest : Members) → named name e.0 ≡ o
    → (lookup (is_at (named name)) left ≡ None → members_view left ≡ rest) → (lookup (is_at (named name)) es ≡ None → rest ≡ members_view es)
    → lookup (is_at (named name)) (cond (is_eq o) es (e ∷ left)) ≡ None
    → members_view (cond (is_eq o) es (e ∷ left)) ≡ match_ordering o (member (string_bytes e.0) (tree_of e.1) rest) rest (member (string_bytes e.0) (tree_of e.1) rest)
remove_cases Less name e es left rest is later same none = ap (member (string_bytes e.0) (tree_of e.1)) (later (rw is at none))
remove_cases Equal name e es left rest is later same none = sym (same none)
remove_cases Greater name e es left rest is later same none = ap (member (string_bytes e.0) (tree_of e.1)) (later (rw is at none))

-- an entry taken out, where no other is left at its name
pub members_view-remove_entry : (name : List ℕ) (es : List (String Global × Value)) → lookup (is_at (named name)) (remove_entry (is_at (named name)) es) ≡ None
    → members_view (remove_entry (is_at (named name)) es) ≡ without name (members_view es)
members_view-remove_entry name [] none = refl
members_view-remove_entry name (e ∷ es) none =
    remove_cases (named name e.0) name e es _ _ refl (members_view-remove_entry name es)
    (λ gone. without-none name (members_view es) (sym (tree_of-lookup name es) ∙ ap (option_map tree_of) gone)) none

pub members_of-remove_entry : (fields : Fields) (map : BTreeMap (String Global) Value) (name : List ℕ) → map.entries ≡ remove_entry (is_at (named name)) (out-Fields fields).map.entries
    → lookup (is_at (named name)) map.entries ≡ None → members_of (roll-Fields record { map = map }) ≡ without name (members_of fields)
members_of-remove_entry fields map name entries none =
    let es = (out-Fields fields).map.entries in
    members_of-roll map
    ∙ ap members_view entries
    ∙ members_view-remove_entry name es (ap (lookup (is_at (named name))) (sym entries) ∙ none)
    ∙ ap (without name) (members_of-out fields)
