-- How the arguments of a call are bound to the parameters of its function.
use Rattle.std.specs.Prelude.{◌≡◌, ℕ, zero, suc, Bool, false, ◌&&◌, ◌||◌, not, nat_lt, List, [], ◌∷◌, length, map, Option, Some, None, option_map, position, bytes_eq, codes, is_none, if◌then◌else◌, ⊤}
use Rattle.std.specs.List.{list_any}
use Rattle.std.specs.Option.{option_map_or}
use Rattle.std.specs.declared.result.Result.{Result}
use Rattle.std.specs.declared.result.Result.TheVariants.{Ok, Err}
use Rattle.vrl_builtin.specs.Rows.{ParameterRow, parameter}
use Rattle.vrl_builtin.specs.TagSets.{any_tags, containers, objects}
use Rattle.vrl_builtin.specs.declared.tags.Tags.{Tags}
use Rattle.vrl_syntax.specs.declared.call_form.CallForm.{CallForm}
use Rattle.vrl_syntax.specs.declared.call_form.CallForm.TheVariants as form
use Rattle.vrl_syntax.specs.Tree.{Args, no_args, arg}
use Rattle.vrl_syntax.specs.declared.tree.Arg.{Arg}
use Rattle.vrl_binding.specs.declared.binding.BindFault.{BindFault}
use Rattle.vrl_binding.specs.declared.binding.BindFault.TheVariants as fault

-- the keywords of a call's arguments: none for an argument without
abbrev pub Keywords : Type 0
Keywords = List (Option (List ℕ))

abbrev pub keywords_of : Args → Keywords
keywords_of no_args = []
keywords_of (arg name span e gs) = name ∷ keywords_of gs

-- those of arguments in memory
abbrev pub names_of : List Arg → Keywords
names_of gs = map (λ g. g.name) gs

abbrev pub is_keyword : List ℕ → Option (List ℕ) → Bool
is_keyword name None = false
is_keyword name (Some keyword) = bytes_eq keyword name

-- whether some argument has the keyword, and the place of the first that has it
abbrev pub is_named : List ℕ → Keywords → Bool
is_named name ks = list_any (is_keyword name) ks

abbrev pub keyword_at : List ℕ → Keywords → Option ℕ
keyword_at name ks = position (is_keyword name) ks

-- the place of the argument without a keyword that so many others without one stand before
abbrev pub positional_at : ℕ → Keywords → Option ℕ
positional_at i [] = None
positional_at zero (None ∷ ks) = Some zero
positional_at (suc i) (None ∷ ks) = option_map suc (positional_at i ks)
positional_at i (Some keyword ∷ ks) = option_map suc (positional_at i ks)

-- the arguments of the parameters: the one with the parameter's name as a keyword, and else the next one
-- without a keyword, so many of which are those of earlier parameters
abbrev pub bound_from : ℕ → List ParameterRow → Keywords → List (Option ℕ)
bound_from i [] ks = []
bound_from i (p ∷ ps) ks = option_map_or (λ place. Some place ∷ bound_from i ps ks) (keyword_at p.name ks)
    (positional_at i ks ∷ bound_from (suc i) ps ks)

-- one of these has the same keyword
abbrev pub is_repeated : Option (List ℕ) → Keywords → Bool
is_repeated None ks = false
is_repeated (Some keyword) ks = is_named keyword ks

-- some keyword stands twice
abbrev pub has_twice : Keywords → Bool
has_twice [] = false
has_twice (k ∷ ks) = is_repeated k ks || has_twice ks

-- an argument has a keyword that is no parameter's name
abbrev pub is_unknown : List ParameterRow → Option (List ℕ) → Bool
is_unknown ps None = false
is_unknown ps (Some keyword) = not (list_any (λ p. bytes_eq p.name keyword) ps)

abbrev pub first_unknown : List ParameterRow → Keywords → Option ℕ
first_unknown ps ks = position (is_unknown ps) ks

-- the place of the first parameter that is required and has no argument
abbrev pub first_missing : List ParameterRow → List (Option ℕ) → Option ℕ
first_missing [] places = None
first_missing (p ∷ ps) [] = None
first_missing (p ∷ ps) (place ∷ places) =
    if p.required && is_none place then Some zero else option_map suc (first_missing ps places)

abbrev pub is_wrong_number : List ParameterRow → Keywords → Bool
is_wrong_number ps ks = nat_lt (length ps) (length ks) || has_twice ks

abbrev pub bound_or_missing : Option ℕ → List (Option ℕ) → Result (List (Option ℕ)) BindFault
bound_or_missing None places = Ok places
bound_or_missing (Some place) places = Err (fault.Missing place)

abbrev pub bound_or_unknown : Option ℕ → Result (List (Option ℕ)) BindFault → Result (List (Option ℕ)) BindFault
bound_or_unknown None bound = bound
bound_or_unknown (Some place) bound = Err (fault.Unknown place)

-- the arguments of the parameters: first whether their number is wrong, then whether a keyword is unknown,
-- then whether one is missing
abbrev pub binding : List ParameterRow → Keywords → Result (List (Option ℕ)) BindFault
binding ps ks =
    if is_wrong_number ps ks then Err fault.Number
    else bound_or_unknown (first_unknown ps ks)
    (let places = bound_from 0 ps ks in bound_or_missing (first_missing ps places) places)

-- what is answered, but for want of memory
abbrev pub IsBound : Result (List (Option ℕ)) BindFault → Result (List (Option ℕ)) BindFault → Type 0
IsBound bound (Err fault.Memory) = ⊤
IsBound bound answer = answer ≡ bound

-- `del` and `exists`, which aren't functions of the table, take one argument of any kind; it is written as a
-- path or a name
abbrev pub path_parameters : List ParameterRow
path_parameters = parameter (codes "value") any_tags ∷ []

-- the functions that take a closure aren't of the table either: they take one argument, a collection, which
-- is an array or an object, and for `map_keys` an object
abbrev pub collections : CallForm → Tags
collections form.MapKeys = objects
collections f = containers

abbrev pub collection_parameters : CallForm → List ParameterRow
collection_parameters f = parameter (codes "value") (collections f) ∷ []
