-- Kinds with another kind at one field, and how a field is found among those in order.
use Rattle.std.specs.Prelude.{Bool, true, false, ◌≡◌, ◌≢◌, ◌<◌, ◌≤◌, ℕ, suc, List, [], ◌∷◌, length, take, drop, slice_index_or, ⊤}
use Rattle.std.specs.Ordering.{nat_cmp, match_ordering}
use Rattle.std.specs.Cmp.Lexicographic.{slice_cmp}
use Rattle.std.specs.declared.cmp.Ordering.TheVariants.{Less}
use Rattle.vrl_value.specs.Look.{Step, field, place}
use Rattle.vrl_value.specs.declared.value.Tag.{Tag}
use Rattle.vrl_kind.specs.Canonical.{IsBeforeFields, FieldsAreCanonical, NoFieldIs, field_or, never_kind}
use Rattle.vrl_kind.specs.KindTree.{KindTree, kind, ObjectTree, no_object, object_part, KnownFields, no_fields, known_field}
use Rattle.vrl_kind.specs.Kinds.{has_object, never_at, object_at, tags_at}
use Rattle.vrl_kind.specs.Sets.{Sets, SameSets}
use Rattle.vrl_kind.specs.View.{fields_view}
use Rattle.vrl_kind.specs.declared.kind.KindField.{KindField}

-- A with M at the field n in place of what stands there
abbrev pub put_at : List ℕ → Sets → Sets → Sets
put_at n M A [] = A []
put_at n M A (place i ∷ p) = A (place i ∷ p)
put_at n M A (field m ∷ p) = match_ordering (slice_cmp nat_cmp m n) (A (field m ∷ p)) (M p) (A (field m ∷ p))

-- one of the fields has the name
abbrev pub knows_name : List ℕ → KnownFields → Bool
knows_name n no_fields = false
knows_name n (known_field m k fs) = match_ordering (slice_cmp nat_cmp n m) (knows_name n fs) true (knows_name n fs)

abbrev pub object_knows : List ℕ → ObjectTree → Bool
object_knows n no_object = false
object_knows n (object_part fs r) = knows_name n fs

-- the field is known by itself
abbrev pub knows_field : List ℕ → KindTree → Bool
knows_field n (kind s l o) = object_knows n o

-- K, which was known of the field, is taken out, and nothing may stand there then
pub record IsTaken (n : List ℕ) (old new K : KindTree) : Type 0 where
  pub known : knows_field n new ≡ true
  pub taken : SameSets (tags_at K) (λ p. tags_at old (field n ∷ p))
  pub left : SameSets (tags_at new) (put_at n never_at (tags_at old))

-- ---- fields in memory

-- each name is before n
abbrev pub AreBefore : List ℕ → List KindField → Type 0
AreBefore n [] = ⊤
AreBefore n (f ∷ fs) = (slice_cmp nat_cmp f.name n ≡ Less) × AreBefore n fs

-- the field n stands at the place i
pub record IsFieldAt (n : List ℕ) (fs : List KindField) (i : ℕ) : Type 0 where
  pub inside : i < length fs
  pub named : (d : KindField) → (slice_index_or fs i d).name ≡ n
  pub before : AreBefore n (take i fs)
  pub behind : IsBeforeFields n (fields_view (drop (suc i) fs))

-- no field is n, which would stand at the place i
pub record IsGapAt (n : List ℕ) (fs : List KindField) (i : ℕ) : Type 0 where
  pub inside : i ≤ length fs
  pub before : AreBefore n (take i fs)
  pub behind : IsBeforeFields n (fields_view (drop i fs))

-- the fields gs have K at the name n, and all else as fs have it
pub record IsPut (n : List ℕ) (K : KindTree) (fs gs : KnownFields) : Type 0 where
  pub at : (own : KindTree) (m : List ℕ)
      → field_or gs own m ≡ match_ordering (slice_cmp nat_cmp m n) (field_or fs own m) K (field_or fs own m)
  pub canonical : FieldsAreCanonical gs
  pub others : (own : KindTree) → K ≢ own → NoFieldIs own fs → NoFieldIs own gs

-- the fields gs know nothing of the name n, and have all else as fs have it
pub record IsLeftOut (n : List ℕ) (fs gs : KnownFields) : Type 0 where
  pub at : (own : KindTree) (m : List ℕ)
      → field_or gs own m ≡ match_ordering (slice_cmp nat_cmp m n) (field_or fs own m) own (field_or fs own m)
  pub canonical : FieldsAreCanonical gs
  pub others : (own : KindTree) → NoFieldIs own fs → NoFieldIs own gs

-- K stood at the name n, where nothing may stand now
pub record AreTaken (n : List ℕ) (fs gs : KnownFields) (K : KindTree) : Type 0 where
  pub known : knows_name n gs ≡ true
  pub taken : (own : KindTree) → field_or fs own n ≡ K
  pub put : IsPut n never_kind fs gs

-- the objects q have K at the field n, and all else as o has it
pub record IsObjectPut (n : List ℕ) (K : KindTree) (o q : ObjectTree) : Type 0 where
  pub there : has_object q ≡ has_object o
  pub at : (m : List ℕ) (p : List Step) (t : Tag)
      → object_at q m p t ≡ match_ordering (slice_cmp nat_cmp m n) (object_at o m p) (tags_at K p) (object_at o m p) t
