-- `unflatten`: the fields of an object at the paths that their names say.
use Rattle.std.specs.Prelude.{ℕ, zero, suc, Bool, true, false, ◌+◌, ◌||◌, nat_lt, List, [], ◌∷◌, map, take, drop, length, bytes_eq, Option, Some, None, option_map, codes, if◌then◌else◌}
use Rattle.vrl_value.specs.Tree.{Tree, object, Members, no_members, member}
use Rattle.vrl_path.specs.Trees.{set_tree}
use Rattle.vrl_path.specs.declared.path.Step.{Step}
use Rattle.vrl_path.specs.declared.path.Step.TheVariants.{Field}
use Rattle.vrl_builtin.specs.Rows.{Row, value, any_literal, optional_parameter, parameter, text_at, value_at}
use Rattle.vrl_builtin.specs.TagSets.{objects, strings}
use Rattle.vrl_builtin.specs.Listed.{members_in}
use Rattle.vrl_builtin.specs.AnyParts.{any_of}

-- the text begins with the separator
abbrev pub begins : List ℕ → List ℕ → Bool
begins separator s = bytes_eq (take (length separator) s) separator

-- the first place of a text where the separator stands, which isn't empty
abbrev pub first_place : List ℕ → List ℕ → Option ℕ
first_place separator [] = None
first_place separator (b ∷ bs) =
    if begins separator (b ∷ bs) then Some 0 else option_map (λ i. suc i) (first_place separator bs)

-- what stands before the place of a separator, and then the pieces of what stands behind it
abbrev pub cut_at : List ℕ → List ℕ → (List ℕ → List (List ℕ)) → Option ℕ → List (List ℕ)
cut_at separator s others None = s ∷ []
cut_at separator s others (Some i) = take i s ∷ others (drop (i + length separator) s)

-- the pieces of a text, cut at the first separator, and what is behind it so again; there are no
-- more cuts than the first number
abbrev pub cut_key : ℕ → List ℕ → List ℕ → List (List ℕ)
cut_key zero separator s = s ∷ []
cut_key (suc most) separator s = cut_at separator s (cut_key most separator) (first_place separator s)

abbrev pub is_nothing : List ℕ → Bool
is_nothing [] = true
is_nothing (b ∷ bs) = false

-- the pieces of a name; the whole name where the separator is empty, or where there are over 64
abbrev pub pieces_of : List ℕ → List ℕ → List (List ℕ)
pieces_of separator k = if is_nothing separator || nat_lt 64 (length (cut_key (length k) separator k)) then k ∷ []
    else cut_key (length k) separator k

abbrev pub path_of : List ℕ → List ℕ → List Step
path_of separator k = map Field (pieces_of separator k)

-- a value with each member written at the path of its name's pieces, by name
abbrev pub put_paths : List ℕ → Members → Tree → Tree
put_paths separator no_members v = v
put_paths separator (member k t ms) v = put_paths separator ms (set_tree v (path_of separator k) t)

abbrev pub unflattened : List ℕ → Tree → Tree
unflattened separator v = put_paths separator (members_in v) (object no_members)

abbrev pub unflatten_row : Row
unflatten_row = record {
  name = codes "unflatten";
  parameters = parameter (codes "value") objects ∷ optional_parameter (codes "separator") strings ∷ [];
  accepts = any_literal;
  kind = λ givens sources. any_of objects;
  may_fail = λ givens. false;
  means = λ arguments setting. value (unflattened (text_at 1 (codes ".") arguments) (value_at 0 arguments));
}
