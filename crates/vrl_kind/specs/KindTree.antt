-- A kind as a tree: which scalars it allows, and what it knows of the parts of arrays and objects.
use Rattle.std.specs.Prelude.{ℕ, List}
use Rattle.vrl_kind.specs.declared.scalars.Scalars.{Scalars}

mutual
  pub data KindTree : Type 0 where
    -- the scalars, which count whether it may be absent, then the arrays and the objects
    kind : Scalars → ListTree → ObjectTree → KindTree

  pub data ListTree : Type 0 where
    -- no array
    no_list : ListTree
    -- arrays with these kinds at their first places, and this at each place behind
    list_part : Places → RestTree → ListTree

  pub data ObjectTree : Type 0 where
    -- no object
    no_object : ObjectTree
    -- objects with these kinds at these fields, and this at each other field
    object_part : KnownFields → RestTree → ObjectTree

  -- what stands where nothing is known by itself; each of these may be absent
  pub data RestTree : Type 0 where
    -- nothing
    nothing : RestTree
    -- what JSON can hold
    json_rest : RestTree
    -- each value
    any_rest : RestTree
    -- what is of this kind
    exact : KindTree → RestTree

  pub data Places : Type 0 where
    no_places : Places
    known_place : KindTree → Places → Places

  pub data KnownFields : Type 0 where
    no_fields : KnownFields
    known_field : List ℕ → KindTree → KnownFields → KnownFields
