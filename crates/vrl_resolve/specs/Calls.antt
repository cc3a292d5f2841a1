-- Calls: what a call calls, as its text says, and what comes of it once its arguments have values.
-- What a call does is given the run of its closure's body.
use Rattle.std.specs.Prelude.{ℕ, suc, Bool, true, false, ◌&&◌, List, [], ◌∷◌, ◌++◌, map, Option, Some, None, codes, slice_get, unwrap_or, if◌then◌else◌}
use Rattle.std.specs.Option.{option_map_or}
use Rattle.std.specs.declared.result.Result.{Result}
use Rattle.std.specs.declared.result.Result.TheVariants.{Ok, Err}
use Rattle.vrl_value.specs.Look.{item_at}
use Rattle.vrl_value.specs.Tag.{tag_of, word_of}
use Rattle.vrl_value.specs.Tree.{Tree, boolean, null, array as items, Items, no_items}
use Rattle.vrl_value.specs.declared.value.Tag.{Tag}
use Rattle.vrl_path.specs.declared.path.Step.{Step}
use Rattle.vrl_syntax.specs.Calls.{form_name, form_named, has_shape, is_closure_form, is_del, is_exists, literal_of}
use Rattle.vrl_syntax.specs.declared.call_form.CallForm.{CallForm}
use Rattle.vrl_syntax.specs.declared.call_form.CallForm.TheVariants as form
use Rattle.vrl_syntax.specs.Stores.{Store}
use Rattle.vrl_syntax.specs.Tree.{Expr, expr, read, Args, no_args, arg, Closure, no_closure, closure}
use Rattle.vrl_syntax.specs.declared.root.Root.{Root}
use Rattle.vrl_builtin.specs.Rows.{Answer, value as answered, failure, ParameterRow, Row, SettingTree, argument_at}
use Rattle.vrl_builtin.specs.Listed.{list_in}
use Rattle.vrl_builtin.specs.TagSets.{allows}
use Rattle.vrl_binding.specs.Binding.{binding, collection_parameters, keywords_of, path_parameters}
use Rattle.vrl_table.specs.Table.{function_named, row_of}
use Rattle.vrl_binding.specs.declared.binding.BindFault.{BindFault}
use Rattle.vrl_table.specs.declared.function.Fun.{Fun}
use Rattle.vrl_store.specs.Outcomes.{Outcome, value, error, deep, Ended, ends, on_value}
use Rattle.vrl_store.specs.Places.{is_there, is_within, read_in, removed}
pub use Rattle.vrl_resolve.specs.Iteration.{Body}
use Rattle.vrl_resolve.specs.Iteration.{filtered, given_by, runs, with_keys, with_values}

-- ---- what is called

pub data Callee : Type 0 where
  -- a function, with the place of the argument of each parameter that has one
  function : Fun → List (Option ℕ) → Callee
  -- `del` of a path, and `exists` of one
  deletion : Root → List Step → Callee
  existence : Root → List Step → Callee
  -- a function that runs a closure for each part of a collection
  iteration : CallForm → Callee
  -- no function has the name, or the arguments aren't those that one takes, or a closure isn't
  nothing_called : Callee

-- the arguments, as they are written
abbrev pub values_of : Args → List Expr
values_of no_args = []
values_of (arg name span e gs) = e ∷ values_of gs

abbrev pub written_at : List Expr → Option ℕ → Option Expr
written_at es None = None
written_at es (Some place) = slice_get es place

-- the argument of a parameter that wants a literal is one that the function allows
abbrev pub is_allowed_literal : (Tree → Bool) → Option Expr → Bool
is_allowed_literal accepts None = true
is_allowed_literal accepts (Some e) = option_map_or accepts (literal_of e) false

abbrev pub is_written_right : ParameterRow → (Tree → Bool) → Option Expr → Bool
is_written_right p accepts e = if p.literal then is_allowed_literal accepts e else true

-- the same of each parameter from a place on
abbrev pub are_written_right : (ℕ → Tree → Bool) → ℕ → List ParameterRow → List (Option Expr) → Bool
are_written_right accepts i [] es = true
are_written_right accepts i (p ∷ ps) [] = true
are_written_right accepts i (p ∷ ps) (e ∷ es) =
    is_written_right p (accepts i) e && are_written_right accepts (suc i) ps es

abbrev pub written_function : Fun → List Expr → List (Option ℕ) → Callee
written_function f es places = if are_written_right (row_of f).accepts 0 (row_of f).parameters
    (map (written_at es) places) then function f places else nothing_called

abbrev pub bound_function : Fun → Args → Result (List (Option ℕ)) BindFault → Callee
bound_function f gs (Ok places) = written_function f (values_of gs) places
bound_function f gs (Err fault) = nothing_called

abbrev pub named_function : Option Fun → Args → Callee
named_function None gs = nothing_called
named_function (Some f) gs = bound_function f gs (binding (row_of f).parameters (keywords_of gs))

abbrev pub path_callee : (Root → List Step → Callee) → List Expr → Callee
path_callee make (expr span (read root path) ∷ []) = make root path
path_callee make es = nothing_called

abbrev pub bound_path : (Root → List Step → Callee) → Args → Result (List (Option ℕ)) BindFault → Callee
bound_path make gs (Ok places) = path_callee make (values_of gs)
bound_path make gs (Err fault) = nothing_called

abbrev pub bound_iteration : CallForm → Result (List (Option ℕ)) BindFault → Callee
bound_iteration f (Ok places) = iteration f
bound_iteration f (Err fault) = nothing_called

abbrev pub closure_callee : Option CallForm → List (List ℕ) → Args → Callee
closure_callee None names gs = nothing_called
closure_callee (Some f) names gs = if is_closure_form (Some f) && has_shape f names then bound_iteration f
    (binding (collection_parameters f) (keywords_of gs)) else nothing_called

-- one with a closure, and one without
abbrev pub callee_of : List ℕ → Args → Closure → Callee
callee_of name gs (closure names es span) = closure_callee (form_named name) names gs
callee_of name gs no_closure =
    if is_del name then bound_path deletion gs (binding path_parameters (keywords_of gs)) else
    (if is_exists name then bound_path existence gs (binding path_parameters (keywords_of gs))
    else named_function (function_named name) gs)

-- ---- what comes of a call

-- the text of the error that an argument has a tag which its parameter doesn't allow
abbrev pub argument_text : List ℕ → List ℕ → Tag → List ℕ
argument_text name parameter t = name ++ (codes ": argument " ++ (parameter ++ (codes " is " ++ word_of t)))

-- the tag of an argument, where its parameter doesn't allow it
abbrev pub unfit_tag : ParameterRow → Option Tree → Option Tag
unfit_tag p None = None
unfit_tag p (Some v) = if allows p.allowed (tag_of v) then None else Some (tag_of v)

-- the first argument, in the order of the parameters from a place on, whose tag isn't allowed: its
-- parameter's name, and its tag
abbrev pub or_others : List ℕ → Option Tag → Option (List ℕ × Tag) → Option (List ℕ × Tag)
or_others name None others = others
or_others name (Some t) others = Some (name, t)

abbrev pub first_unfit : ℕ → List ParameterRow → List (Option Tree) → Option (List ℕ × Tag)
first_unfit i [] vs = None
first_unfit i (p ∷ ps) vs = or_others p.name (unfit_tag p (argument_at i vs)) (first_unfit (suc i) ps vs)

-- a call whose value is too deep ends all
abbrev pub within_limit : Tree → Outcome
within_limit v = if is_within v then value v else deep

abbrev pub answer_outcome : Answer → Outcome
answer_outcome (answered v) = within_limit v
answer_outcome (failure text) = error text

abbrev pub fit_or_else : Option (List ℕ × Tag) → Row → Answer → Outcome
fit_or_else None r answer = answer_outcome answer
fit_or_else (Some unfit) r answer = error (argument_text r.name unfit.0 unfit.1)

abbrev pub called : SettingTree → Row → List (Option Tree) → Outcome
called setting r vs = fit_or_else (first_unfit 0 r.parameters vs) r (r.means vs setting)

-- the value of an argument, by its place among those that are written
abbrev pub argument_in : Items → Option ℕ → Option Tree
argument_in vs None = None
argument_in vs (Some place) = item_at place vs

-- what a function makes of a collection and of the values that the runs gave; a name that is no
-- text is an error of empty text, which no accepted script has
abbrev pub renamed_or_else : Option Tree → Outcome
renamed_or_else None = error []
renamed_or_else (Some v) = within_limit v

abbrev pub made_of : CallForm → Tree → List Tree → Outcome
made_of form.Filter v rs = within_limit (filtered v rs)
made_of form.MapValues v rs = within_limit (with_values v rs)
made_of form.MapKeys v rs = renamed_or_else (with_keys v rs)
made_of f v rs = value null

-- the body is run for each part of the collection, unless that is none
abbrev pub iterated : CallForm → Body → Tree → Option (List ℕ × Tag) → Store → Ended
iterated f body v (Some unfit) store = ends (error (argument_text (form_name f) unfit.0 unfit.1)) store
iterated f body v None store =
    on_value (runs body (given_by f v) [] store) (λ rs after. ends (made_of f v (list_in rs)) after)

-- A call in the store that its arguments left, with the run of its closure's body. A call that
-- calls nothing ends with an error of empty text; no accepted script has one.
abbrev pub acts : SettingTree → Callee → Body → Items → Store → Ended
acts setting (function f places) body vs store = ends (called setting (row_of f) (map (argument_in vs) places)) store
acts setting (deletion root path) body vs store =
    ends (within_limit (read_in root path store)) (removed root path store)
acts setting (existence root path) body vs store = ends (value (boolean (is_there root path store))) store
acts setting (iteration f) body vs store =
    iterated f body (unwrap_or (item_at 0 vs) null) (first_unfit 0 (collection_parameters f) (item_at 0 vs ∷ [])) store
acts setting nothing_called body vs store = ends (error []) store

-- the items of an array
abbrev pub items_in : Tree → Items
items_in (items ts) = ts
items_in v = no_items
