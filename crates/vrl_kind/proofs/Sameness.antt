-- When two kinds, and two lists of their parts, are one.
use Rattle.std.proofs.Common.{◌≡◌, ℕ, zero, suc, ◌+◌, ◌<◌, ◌≤◌, ◌&&◌, ◌||◌, Bool, true, false, IsTrue, List, [], ◌∷◌, ◌++◌, length, take, get_or, refl, sym, ap, ◌∙◌, arith}
use Rattle.std.proofs.Math.Bool.{beq}
use Rattle.std.proofs.lemmas.Bool.{true≢false, and_parts}
use Rattle.std.proofs.lemmas.List.{take_all, take_more}
use Rattle.vrl_kind.specs.KindTree.{KindTree, Places, no_places, known_place, KnownFields, no_fields, known_field}
use Rattle.vrl_kind.specs.declared.scalars.Scalars.{Scalars}
use Rattle.vrl_kind.specs.Scalars.{scalar_union, ScalarsAreWithin}
use Rattle.vrl_kind.specs.View.{places_view, fields_view}
use Rattle.vrl_kind.specs.declared.kind.KindField.{KindField}

abbrev places_back : Places → List KindTree
places_back no_places = []
places_back (known_place k ps) = k ∷ places_back ps

places_back-view : (ks : List KindTree) → places_back (places_view ks) ≡ ks
places_back-view [] = refl
places_back-view (k ∷ ks) = ap (λ xs. k ∷ xs) (places_back-view ks)

pub one_places : (ks ls : List KindTree) → places_view ks ≡ places_view ls → ks ≡ ls
one_places ks ls e = sym (places_back-view ks) ∙ ap places_back e ∙ places_back-view ls

abbrev fields_back : KnownFields → List KindField
fields_back no_fields = []
fields_back (known_field n k fs) = record { name = n; kind = k } ∷ fields_back fs

fields_back-view : (fs : List KindField) → fields_back (fields_view fs) ≡ fs
fields_back-view [] = refl
fields_back-view (f ∷ fs) = ap (λ xs. f ∷ xs) (fields_back-view fs)

pub one_fields : (fs gs : List KindField) → fields_view fs ≡ fields_view gs → fs ≡ gs
one_fields fs gs e = sym (fields_back-view fs) ∙ ap fields_back e ∙ fields_back-view gs

pub one_field : (f g : KindField) → f.name ≡ g.name → f.kind ≡ g.kind → f ≡ g
one_field f g names kinds = λ i. record { name = names i; kind = kinds i }

-- what stands at a place of two lists that are one
pub at_one : {A : Type 0} (xs ys : List A) (i : ℕ) (x y : A) → i < length xs → x ≡ get_or xs i x → y ≡ get_or ys i y → xs ≡ ys → x ≡ y
at_one [] [] i x y below a b e = absurd (omega arith)
at_one [] (v ∷ ys) i x y below a b e = absurd (omega arith)
at_one (u ∷ xs) [] i x y below a b e = cc
at_one (u ∷ xs) (v ∷ ys) zero x y below a b e = cc
at_one (u ∷ xs) (v ∷ ys) (suc i) x y below a b e = at_one xs ys i x y (omega arith) a b (cc)

pub take_one : {A : Type 0} (xs ys : List A) (i next : ℕ) (x y : A) → next ≡ suc i → i < length xs → i < length ys → x ≡ get_or xs i x → y ≡ get_or ys i y → take i xs ≡ take i ys → x ≡ y → take next xs ≡ take next ys
take_one [] ys i next x y n below also a b e same = absurd (omega arith)
take_one (u ∷ xs) [] i next x y n below also a b e same = absurd (omega arith)
take_one (u ∷ xs) (v ∷ ys) zero next x y n below also a b e same = rw n cc
take_one (u ∷ xs) (v ∷ ys) (suc i) next x y n below also a b e same =
    let more : take (suc i) xs ≡ take (suc i) ys = take_one xs ys i (suc i) x y refl (omega arith) (omega arith) a b (cc) same in
    let first : u ≡ v = cc in
    rw n (λ j. first j ∷ more j)

-- all of two lists that are as long, and one as far as a place at their end
pub all_one : {A : Type 0} (xs ys : List A) (i : ℕ) → length xs ≤ i → length xs ≡ length ys → take i xs ≡ take i ys → xs ≡ ys
all_one xs ys i above lengths same = sym (take_all i xs above) ∙ same ∙ take_all i ys (omega arith)

-- a copy of what stands at a place, put behind the copies of what stands before it
pub copied_on : {A : Type 0} (xs copies pushed : List A) (i : ℕ) (x copy : A) → i < length xs → x ≡ get_or xs i x → copy ≡ x → pushed ≡ copies ++ copy ∷ [] → copies ≡ take i xs → pushed ≡ take (i + 1) xs
copied_on xs copies pushed i x copy below is same push before = let more = take_more xs i x below in cc

beq_one : (a b : Bool) → beq a b ≡ true → a ≡ b
beq_one true true e = refl
beq_one false false e = refl
beq_one true false e = sym e
beq_one false true e = e

beq_self : (a : Bool) → beq a a ≡ true
beq_self true = refl
beq_self false = refl

abbrev pub scalars_test : Scalars → Scalars → Bool
scalars_test s u = beq s.string u.string && (beq s.integer u.integer && (beq s.boolean u.boolean && (beq s.null u.null && (beq s.timestamp u.timestamp && (beq s.regex u.regex && beq s.absent u.absent)))))

pub scalars_one : (s u : Scalars) → scalars_test s u ≡ true → s ≡ u
scalars_one s u e =
    let a = and_parts (beq s.string u.string) _ e in
    let b = and_parts (beq s.integer u.integer) _ a.1 in
    let c = and_parts (beq s.boolean u.boolean) _ b.1 in
    let d = and_parts (beq s.null u.null) _ c.1 in
    let f = and_parts (beq s.timestamp u.timestamp) _ d.1 in
    let g = and_parts (beq s.regex u.regex) _ f.1 in
    λ i. record {
      string = beq_one s.string u.string a.0 i;
      integer = beq_one s.integer u.integer b.0 i;
      boolean = beq_one s.boolean u.boolean c.0 i;
      null = beq_one s.null u.null d.0 i;
      timestamp = beq_one s.timestamp u.timestamp f.0 i;
      regex = beq_one s.regex u.regex g.0 i;
      absent = beq_one s.absent u.absent g.1 i;
    }

pub scalars_self : (s : Scalars) → scalars_test s s ≡ true
scalars_self s = rw (beq_self s.string, beq_self s.integer, beq_self s.boolean, beq_self s.null, beq_self s.timestamp, beq_self s.regex, beq_self s.absent) refl

pub scalars_same : (s u : Scalars) → s ≡ u → scalars_test s u ≡ true
scalars_same s u e = rw (← e) (scalars_self s)

or_to : (a b : Bool) → (a || b) ≡ b → IsTrue a → IsTrue b
or_to true b e is = sym e
or_to false b e is = absurd (true≢false (sym is))

or_from : (a b : Bool) → (IsTrue a → IsTrue b) → (a || b) ≡ b
or_from true b h = sym (h refl)
or_from false b h = refl

pub union_to : (s u : Scalars) → scalar_union s u ≡ u → ScalarsAreWithin s u
union_to s u e = record {
  string = or_to s.string u.string (ap (λ v. v.string) e);
  integer = or_to s.integer u.integer (ap (λ v. v.integer) e);
  boolean = or_to s.boolean u.boolean (ap (λ v. v.boolean) e);
  null = or_to s.null u.null (ap (λ v. v.null) e);
  timestamp = or_to s.timestamp u.timestamp (ap (λ v. v.timestamp) e);
  regex = or_to s.regex u.regex (ap (λ v. v.regex) e);
  absent = or_to s.absent u.absent (ap (λ v. v.absent) e);
}

pub union_from : (s u : Scalars) → ScalarsAreWithin s u → scalar_union s u ≡ u
union_from s u within = λ i. record {
  string = or_from s.string u.string within.string i;
  integer = or_from s.integer u.integer within.integer i;
  boolean = or_from s.boolean u.boolean within.boolean i;
  null = or_from s.null u.null within.null i;
  timestamp = or_from s.timestamp u.timestamp within.timestamp i;
  regex = or_from s.regex u.regex within.regex i;
  absent = or_from s.absent u.absent within.absent i;
}
