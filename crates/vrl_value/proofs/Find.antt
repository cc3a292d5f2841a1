-- A value looked up at a name among an object's members.
use Rattle.std.proofs.Common.{◌≡◌, ℕ, List, [], ◌∷◌, Option, Some, None, option_map, String, Global, Ordering, Less, Equal, Greater, Bor, MutBor, string_bytes, nat_cmp, is_eq, cond, refl, sym, ap, ◌∙◌, subst}
use Rattle.std.specs.BTreeMap.{get, is_at}
use Rattle.std.specs.Cmp.Lexicographic.{slice_cmp}
use Rattle.std.specs.Map.{lookup}
use Rattle.std.specs.Option.{option_copied_mut}
use Rattle.std.specs.Ordering.{match_ordering}
use Rattle.std.specs.String.{string_cmp}
use Rattle.vrl_value.specs.Tree.{Tree, find}
use Rattle.vrl_value.specs.View.{members_view, members_of, tree_of}
use Rattle.vrl_value.specs.declared.value.Value.{Value}
use Rattle.vrl_value.specs.declared.value.Fields.{Fields, out-Fields}
use Rattle.vrl_value.proofs.Put.{members_of-out}

lookup_cases : (o : Ordering) (v : Value) (rest : Option Value) (found : Option Tree) → option_map tree_of rest ≡ found
    → option_map tree_of (cond (is_eq o) (Some v) rest) ≡ match_ordering o found (Some (tree_of v)) found
lookup_cases Less v rest found e = e
lookup_cases Equal v rest found e = refl
lookup_cases Greater v rest found e = e

-- what a map's look-up gives is what stands at the name
pub tree_of-lookup : (name : List ℕ) (es : List (String Global × Value)) → option_map tree_of (lookup (is_at (λ key. slice_cmp nat_cmp name (string_bytes key))) es) ≡ find name (members_view es)
tree_of-lookup name [] = refl
tree_of-lookup name (e ∷ es) = lookup_cases (slice_cmp nat_cmp name (string_bytes e.0)) e.1 _ _ (tree_of-lookup name es)

-- the tree behind a reference
pub tree_of-now : (found : Option (Bor Value)) → option_map (λ value. tree_of value.now) found ≡ option_map tree_of (option_map (λ value. value.now) found)
tree_of-now None = refl
tree_of-now (Some value) = refl

pub tree_of-now_mut : (found : Option (MutBor Value)) → option_map (λ value. tree_of value.now) found ≡ option_map tree_of (option_copied_mut found)
tree_of-now_mut None = refl
tree_of-now_mut (Some value) = refl

-- the same of the fields over a map
pub tree_of-get : (name : List ℕ) (fields : Fields) → option_map tree_of (lookup (is_at (λ key. slice_cmp nat_cmp name (string_bytes key))) (out-Fields fields).map.entries) ≡ find name (members_of fields)
tree_of-get name fields = tree_of-lookup name (out-Fields fields).map.entries ∙ ap (find name) (members_of-out fields)

-- where the map has nothing at a name, no field has it
pub none_found : (name : List ℕ) (fields : Fields) (key : String Global) → get string_cmp (out-Fields fields).map key ≡ None → string_bytes key ≡ name → find name (members_of fields) ≡ None
none_found name fields key none named =
    sym (tree_of-get name fields) ∙ subst (λ bytes. option_map tree_of (lookup (is_at (λ k. slice_cmp nat_cmp bytes (string_bytes k))) (out-Fields fields).map.entries) ≡ None) named (ap (option_map tree_of) none)
