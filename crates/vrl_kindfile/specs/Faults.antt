-- Which values of a description are at fault. Each value stands in a role, by where it stands.
use Rattle.std.specs.Prelude.{ℕ, suc, Bool, true, false, ◌||◌, List, [], ◌∷◌, ◌++◌, Option, Some, None, bytes_eq, codes, if◌then◌else◌, is_some, map, nat_le}
use Rattle.vrl_value.specs.Look.{Step, field, place}
use Rattle.vrl_value.specs.Parts.{count_of}
use Rattle.vrl_value.specs.Tree.{Tree, string, integer, boolean, null, timestamp, regex, array, object, Items, no_items, item, Members, no_members, member}
use Rattle.vrl_kindfile.specs.Shapes.{word_tags, shape_of, optional_in, is_nothing}

pub data Role : Type 0 where
  as_description : Role
  -- a known part
  as_part : Role
  as_rest : Role
  -- the known fields of objects, and the known places of arrays
  as_fields : Role
  as_places : Role

-- the most places of arrays that are known
abbrev pub place_limit : ℕ
place_limit = 64

abbrev pub has_items : Items → Bool
has_items no_items = false
has_items (item t ts) = true

-- a word, a list of one description or more, or an object that tells of containers
abbrev pub is_description : Tree → Bool
is_description (string s) = is_some (word_tags s)
is_description (array ts) = has_items ts
is_description (object ms) = is_some (shape_of ms)
is_description t = false

abbrev pub are_fields : Tree → Bool
are_fields (object ms) = true
are_fields t = false

abbrev pub are_places : Tree → Bool
are_places (array ts) = nat_le (count_of ts) place_limit
are_places t = false

-- the value may stand in the role, as far as it shows without its own parts
abbrev pub fits : Role → Tree → Bool
fits as_description t = is_description t
fits as_part t = is_some (optional_in t) || is_description t
fits as_rest t = is_nothing t || is_description t
fits as_fields t = are_fields t
fits as_places t = are_places t

abbrev pub named_role : List ℕ → Role
named_role name =
    if bytes_eq name (codes "object") then as_fields
    else if bytes_eq name (codes "array") then as_places
    else if bytes_eq name (codes "rest") then as_rest
    else as_description

-- the role of an item, and of the member with this name, of a value in a role
abbrev pub item_role : Role → Role
item_role as_places = as_part
item_role role = as_description

abbrev pub member_role : Role → List ℕ → Role
member_role as_fields name = as_part
member_role role name = named_role name

-- the value itself, or the faults of its parts
abbrev pub own_or : Bool → List (List Step) → List (List Step)
own_or false parts = [] ∷ []
own_or true parts = parts

-- the faults of a part, as paths from the whole
abbrev pub under : Step → List (List Step) → List (List Step)
under s paths = map (λ p. s ∷ p) paths

-- the paths of the values at fault: a value before its parts, and these by their names' order or their places
abbrev mutual
  pub faults : Role → Tree → List (List Step)
  faults role (string s) = own_or (fits role (string s)) []
  faults role (integer n) = own_or (fits role (integer n)) []
  faults role (boolean b) = own_or (fits role (boolean b)) []
  faults role null = own_or (fits role null) []
  faults role (timestamp nanos) = own_or (fits role (timestamp nanos)) []
  faults role (regex n) = own_or (fits role (regex n)) []
  faults role (array ts) = own_or (fits role (array ts)) (items_faults (item_role role) 0 ts)
  faults role (object ms) = own_or (fits role (object ms)) (members_faults role ms)

  -- those of items, of which the first has this place
  pub items_faults : Role → ℕ → Items → List (List Step)
  items_faults role i no_items = []
  items_faults role i (item t ts) = under (place i) (faults role t) ++ items_faults role (suc i) ts

  pub members_faults : Role → Members → List (List Step)
  members_faults role no_members = []
  members_faults role (member name t ms) =
      under (field name) (faults (member_role role name) t) ++ members_faults role ms

abbrev pub first_of : List (List Step) → Option (List Step)
first_of [] = None
first_of (p ∷ ps) = Some p

-- the first value at fault
abbrev pub first_fault : Tree → Option (List Step)
first_fault t = first_of (faults as_description t)
