-- The trees of kinds as the proof system stores them: as trees of numbers, from which they are read
-- again.
use Rattle.std.specs.Prelude.{◌≡◌, Bool, true, false, ℕ, zero, suc, List, [], ◌∷◌, refl}
use Rattle.std.specs.Coded.{Coded}
use base.Stored.{Gv, gnil, gnum, gcons}
use mathlib.Core.Path.{sym, ◌∙◌, ap}
use Rattle.vrl_kind.specs.KindTree.{KindTree, kind, ListTree, no_list, list_part, ObjectTree, no_object, object_part, RestTree, nothing, json_rest, any_rest, exact, Places, no_places, known_place, KnownFields, no_fields, known_field}
use Rattle.vrl_kind.specs.declared.scalars.Scalars.{Scalars}

abbrev flag_code : Bool → Gv
flag_code true = gnum 1
flag_code false = gnum 0

abbrev flag : Gv → Bool
flag gnil = false
flag (gnum zero) = false
flag (gnum (suc n)) = true
flag (gcons a b) = false

flag-code : (b : Bool) → flag (flag_code b) ≡ b
flag-code true = refl
flag-code false = refl

abbrev name_code : List ℕ → Gv
name_code [] = gnil
name_code (n ∷ ns) = gcons (gnum n) (name_code ns)

abbrev number : Gv → ℕ
number gnil = 0
number (gnum n) = n
number (gcons a b) = 0

abbrev name : Gv → List ℕ
name gnil = []
name (gnum n) = []
name (gcons a b) = number a ∷ name b

name-code : (ns : List ℕ) → name (name_code ns) ≡ ns
name-code [] = refl
name-code (n ∷ ns) = ap (λ ms. n ∷ ms) (name-code ns)

abbrev scalars_code : Scalars → Gv
scalars_code s =
    gcons (flag_code s.string)
    (gcons (flag_code s.integer)
    (gcons (flag_code s.boolean)
    (gcons (flag_code s.null) (gcons (flag_code s.timestamp) (gcons (flag_code s.regex) (flag_code s.absent))))))

abbrev first : Gv → Gv
first gnil = gnil
first (gnum n) = gnil
first (gcons a b) = a

abbrev second : Gv → Gv
second gnil = gnil
second (gnum n) = gnil
second (gcons a b) = b

abbrev scalars : Gv → Scalars
scalars g = record {
  string = flag (first g);
  integer = flag (first (second g));
  boolean = flag (first (second (second g)));
  null = flag (first (second (second (second g))));
  timestamp = flag (first (second (second (second (second g)))));
  regex = flag (first (second (second (second (second (second g))))));
  absent = flag (second (second (second (second (second (second g))))));
}

scalars-code : (s : Scalars) → scalars (scalars_code s) ≡ s
scalars-code s = λ i. record {
  string = flag-code s.string i;
  integer = flag-code s.integer i;
  boolean = flag-code s.boolean i;
  null = flag-code s.null i;
  timestamp = flag-code s.timestamp i;
  regex = flag-code s.regex i;
  absent = flag-code s.absent i;
}

abbrev mutual
  pub code_of : KindTree → Gv
  code_of (kind s l o) = gcons (scalars_code s) (gcons (code_of_list l) (code_of_object o))

  pub code_of_list : ListTree → Gv
  code_of_list no_list = gnil
  code_of_list (list_part ps r) = gcons (code_of_places ps) (code_of_rest r)

  pub code_of_object : ObjectTree → Gv
  code_of_object no_object = gnil
  code_of_object (object_part fs r) = gcons (code_of_fields fs) (code_of_rest r)

  pub code_of_rest : RestTree → Gv
  code_of_rest nothing = gnil
  code_of_rest json_rest = gnum 0
  code_of_rest any_rest = gnum 1
  code_of_rest (exact k) = gcons (code_of k) gnil

  pub code_of_places : Places → Gv
  code_of_places no_places = gnil
  code_of_places (known_place k ps) = gcons (code_of k) (code_of_places ps)

  pub code_of_fields : KnownFields → Gv
  code_of_fields no_fields = gnil
  code_of_fields (known_field n k fs) = gcons (name_code n) (gcons (code_of k) (code_of_fields fs))

abbrev empty : Gv → KindTree
empty g = kind (scalars g) no_list no_object

abbrev mutual
  pub read : Gv → KindTree
  read gnil = empty gnil
  read (gnum n) = empty gnil
  read (gcons a gnil) = empty gnil
  read (gcons a (gnum n)) = empty gnil
  read (gcons a (gcons b c)) = kind (scalars a) (read_list b) (read_object c)

  pub read_list : Gv → ListTree
  read_list gnil = no_list
  read_list (gnum n) = no_list
  read_list (gcons a b) = list_part (read_places a) (read_rest b)

  pub read_object : Gv → ObjectTree
  read_object gnil = no_object
  read_object (gnum n) = no_object
  read_object (gcons a b) = object_part (read_fields a) (read_rest b)

  pub read_rest : Gv → RestTree
  read_rest gnil = nothing
  read_rest (gnum zero) = json_rest
  read_rest (gnum (suc n)) = any_rest
  read_rest (gcons a b) = exact (read a)

  pub read_places : Gv → Places
  read_places gnil = no_places
  read_places (gnum n) = no_places
  read_places (gcons a b) = known_place (read a) (read_places b)

  pub read_fields : Gv → KnownFields
  read_fields gnil = no_fields
  read_fields (gnum n) = no_fields
  read_fields (gcons a gnil) = no_fields
  read_fields (gcons a (gnum n)) = no_fields
  read_fields (gcons a (gcons b c)) = known_field (name a) (read b) (read_fields c)

mutual
  pub read-code : (k : KindTree) → read (code_of k) ≡ k
  read-code (kind s l o) = λ i. kind (scalars-code s i) (read_list-code l i) (read_object-code o i)

  read_list-code : (l : ListTree) → read_list (code_of_list l) ≡ l
  read_list-code no_list = refl
  read_list-code (list_part ps r) = λ i. list_part (read_places-code ps i) (read_rest-code r i)

  read_object-code : (o : ObjectTree) → read_object (code_of_object o) ≡ o
  read_object-code no_object = refl
  read_object-code (object_part fs r) = λ i. object_part (read_fields-code fs i) (read_rest-code r i)

  read_rest-code : (r : RestTree) → read_rest (code_of_rest r) ≡ r
  read_rest-code nothing = refl
  read_rest-code json_rest = refl
  read_rest-code any_rest = refl
  read_rest-code (exact k) = ap exact (read-code k)

  read_places-code : (ps : Places) → read_places (code_of_places ps) ≡ ps
  read_places-code no_places = refl
  read_places-code (known_place k ps) = λ i. known_place (read-code k i) (read_places-code ps i)

  read_fields-code : (fs : KnownFields) → read_fields (code_of_fields fs) ≡ fs
  read_fields-code no_fields = refl
  read_fields-code (known_field n k fs) = λ i. known_field (name-code n i) (read-code k i) (read_fields-code fs i)

abbrev pub kind_code : Coded KindTree
kind_code = record { code = code_of; inj = λ x y p. sym (read-code x) ∙ ap read p ∙ read-code y }
