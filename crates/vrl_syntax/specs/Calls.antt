-- What the text of a call says by itself: the functions that are forms of the language, and what an
-- argument is as it is written.
use Rattle.std.specs.Prelude.{ℕ, Bool, true, false, ◌||◌, ◌&&◌, not, nat_eq, List, [], ◌∷◌, length, Option, Some, None, codes, bytes_eq, if◌then◌else◌}
use Rattle.std.specs.List.{list_any}
use Rattle.vrl_value.specs.Tree.{Tree}
use Rattle.vrl_path.specs.declared.path.Step.{Step}
use Rattle.vrl_syntax.specs.Stores.{hidden_by}
use Rattle.vrl_syntax.specs.Tree.{Expr, expr, literal, read}
use Rattle.vrl_syntax.specs.declared.call_form.CallForm.{CallForm}
use Rattle.vrl_syntax.specs.declared.call_form.CallForm.TheVariants as form
use Rattle.vrl_syntax.specs.declared.root.Root.{Root}

-- the function that deletes what stands at a path
abbrev pub is_del : List ℕ → Bool
is_del name = bytes_eq name (codes "del")

-- the function that tells a present null from what is missing
abbrev pub is_exists : List ℕ → Bool
is_exists name = bytes_eq name (codes "exists")

-- the functions that run a closure for each part of an array or an object
abbrev pub takes_closure : List ℕ → Bool
takes_closure name = bytes_eq name (codes "for_each") ||
    (bytes_eq name (codes "filter") || (bytes_eq name (codes "map_values") || bytes_eq name (codes "map_keys")))

-- the form of a name
abbrev pub form_named : List ℕ → Option CallForm
form_named name =
    if is_del name then Some form.Del else
    (if is_exists name then Some form.Exists else
    (if bytes_eq name (codes "for_each") then Some form.ForEach else
    (if bytes_eq name (codes "filter") then Some form.Filter else
    (if bytes_eq name (codes "map_values") then Some form.MapValues else
    (if bytes_eq name (codes "map_keys") then Some form.MapKeys else None)))))

-- the form is `del`
abbrev pub is_del_form : Option CallForm → Bool
is_del_form (Some form.Del) = true
is_del_form _ = false

-- the form is `exists`
abbrev pub is_exists_form : Option CallForm → Bool
is_exists_form (Some form.Exists) = true
is_exists_form _ = false

-- the form runs a closure
abbrev pub is_closure_form : Option CallForm → Bool
is_closure_form (Some form.ForEach) = true
is_closure_form (Some form.Filter) = true
is_closure_form (Some form.MapValues) = true
is_closure_form (Some form.MapKeys) = true
is_closure_form _ = false

-- the name of a form
abbrev pub form_name : CallForm → List ℕ
form_name form.Del = codes "del"
form_name form.Exists = codes "exists"
form_name form.ForEach = codes "for_each"
form_name form.Filter = codes "filter"
form_name form.MapValues = codes "map_values"
form_name form.MapKeys = codes "map_keys"

-- ---- the functions that run a closure for each part of a collection

-- what the names of the closure stand for, of the key and of the value of a part
abbrev pub for_names : {A : Type 0} → CallForm → A → A → List A
for_names form.ForEach key v = key ∷ v ∷ []
for_names form.Filter key v = key ∷ v ∷ []
for_names form.MapValues key v = v ∷ []
for_names form.MapKeys key v = key ∷ []
for_names f key v = []

-- one of these names stands twice
abbrev pub has_equal : List (List ℕ) → Bool
has_equal [] = false
has_equal (x ∷ names) = list_any (bytes_eq x) names || has_equal names

-- a closure with these names is one for the function: there are as many as it asks for, and none
-- but `_` stands twice
abbrev pub has_shape : CallForm → List (List ℕ) → Bool
has_shape f names =
    nat_eq (length names) (length (for_names {A = Unit {0}} f tt tt)) && not (has_equal (hidden_by names))

-- ---- arguments

-- the value of a literal that isn't in parentheses
abbrev pub literal_of : Expr → Option Tree
literal_of (expr span (literal v)) = Some v
literal_of e = None

-- the root and the steps of a path, or of a name alone
abbrev pub path_of : Expr → Option (Root × List Step)
path_of (expr span (read root path)) = Some (root, path)
path_of e = None
