-- When a kind is within another, part by part.
use Rattle.std.proofs.Common.{◌≡◌, ℕ, zero, suc, ◌+◌, ◌⊎◌, inl, inr, length, ◌<◌, ◌≤◌, Bool, true, false, IsTrue, List, [], ◌∷◌, Option, Some, None, MatchOption, unwrap_or, Ordering, Less, Equal, Greater, nat_cmp, is_eq, refl, sym, ap, ◌∙◌, subst, arith}
use Rattle.std.proofs.lemmas.Bool.{true≢false}
use Rattle.vrl_value.specs.Look.{Step, field, place}
use Rattle.vrl_value.specs.declared.value.Tag.{Tag}
use Rattle.vrl_value.specs.declared.value.Tag.TheVariants as tag
use Rattle.vrl_kind.specs.Canonical.{bare_rest, never_kind, json_kind, any_kind, with_absent, rest_kind, place_or, field_or, scalars_of, list_tree, object_tree}
use Rattle.vrl_kind.specs.Canonical.{IsBeforeFields}
use Rattle.vrl_kind.specs.KindTree.{KindTree, kind, ListTree, list_part, ObjectTree, object_part, RestTree, nothing, json_rest, any_rest, exact, Places, KnownFields}
use Rattle.vrl_kind.specs.declared.scalars.Scalars.{Scalars}
use Rattle.vrl_kind.specs.Kinds.{tags_at, IsWithin, or_absent, any_at}
use Rattle.vrl_kind.specs.Parts.{ListsAreWithin, ObjectsAreWithin}
use Rattle.vrl_kind.specs.Scalars.{ScalarsAreWithin}
use Rattle.std.specs.Cmp.Lexicographic.{slice_cmp}
use Rattle.vrl_kind.specs.Count.{nodes, rest_nodes, fields_nodes}
use Rattle.vrl_kind.specs.Seen.{covers, some_exact}
use Rattle.vrl_kind.specs.Merge.{FieldsAreSorted, with_field, IsTurn, IsEnd}
use Rattle.vrl_kind.proofs.Ahead.{IsAhead, ahead_first, ahead_next, ahead_here, ahead_last, past_turn, some_past, turn_nodes, here, not_here}
use Rattle.vrl_kind.specs.View.{places_view}
use Rattle.vrl_kind.proofs.Merging.{one_name}
use Rattle.vrl_kind.proofs.Slices.{place_beyond}
use Rattle.vrl_kind.proofs.Known.{list_place, object_field}

-- no set that is empty has a tag
pub none : (A : Type 0) → IsTrue false → A
none A is = absurd (true≢false (sym is))

absent_of : (b : Bool) (k : KindTree) → tags_at (with_absent b k) [] tag.Absent ≡ b
absent_of b (kind s l o) = refl

-- a kind that may be absent isn't within one that may not
pub not_absent : (k l : KindTree) → IsWithin (with_absent true k) (with_absent false l) → ⊥
not_absent k l within = true≢false (sym (within [] tag.Absent (absent_of true k)) ∙ absent_of false l)

never_within_at : (x y : Bool) (l : KindTree) → (IsTrue x → IsTrue y) → (t : Tag) → IsTrue (tags_at (with_absent x never_kind) [] t) → IsTrue (tags_at (with_absent y l) [] t)
never_within_at x y l h tag.Text is = none _ is
never_within_at x y l h tag.Int is = none _ is
never_within_at x y l h tag.Bool is = none _ is
never_within_at x y l h tag.Null is = none _ is
never_within_at x y l h tag.Time is = none _ is
never_within_at x y l h tag.Pattern is = none _ is
never_within_at x y l h tag.List is = none _ is
never_within_at x y l h tag.Object is = none _ is
never_within_at x y l h tag.Absent is = absent_of y l ∙ h is

pub never_within : (x y : Bool) (l : KindTree) → (IsTrue x → IsTrue y) → IsWithin (with_absent x never_kind) (with_absent y l)
never_within x y l h [] t is = never_within_at x y l h t is
never_within x y l h (field n ∷ p) t is = none _ is
never_within x y l h (place i ∷ p) t is = none _ is

any_all : (t : Tag) (b : Bool) → (t ≡ tag.Absent → IsTrue b) → (k : KindTree) → IsTrue (tags_at (with_absent b any_kind) [] t)
any_all tag.Text b h k = refl
any_all tag.Int b h k = refl
any_all tag.Bool b h k = refl
any_all tag.Null b h k = refl
any_all tag.Time b h k = refl
any_all tag.Pattern b h k = refl
any_all tag.List b h k = refl
any_all tag.Object b h k = refl
any_all tag.Absent b h k = h refl

any_full_at : (t : Tag) → IsTrue (or_absent [] (any_at []) t)
any_full_at tag.Text = refl
any_full_at tag.Int = refl
any_full_at tag.Bool = refl
any_full_at tag.Null = refl
any_full_at tag.Time = refl
any_full_at tag.Pattern = refl
any_full_at tag.List = refl
any_full_at tag.Object = refl
any_full_at tag.Absent = refl

-- below its root every kind is within any
pub any_full : (p : List Step) (t : Tag) → IsTrue (or_absent p (any_at p) t)
any_full [] t = any_full_at t
any_full (s ∷ p) t = any_full p t

pub within_any : (x y : Bool) (k : KindTree) → (IsTrue x → IsTrue y) → IsWithin (with_absent x k) (with_absent y any_kind)
within_any x y k h [] t is = any_all t y (λ e. h (sym (absent_of x k) ∙ ap (tags_at (with_absent x k) []) (sym e) ∙ is)) k
within_any x y k h (field n ∷ p) t is = any_full p t
within_any x y k h (place i ∷ p) t is = any_full p t

json_within_at : (x y : Bool) → (IsTrue x → IsTrue y) → (t : Tag) → IsTrue (tags_at (with_absent x json_kind) [] t) → IsTrue (tags_at (with_absent y json_kind) [] t)
json_within_at x y h tag.Text is = is
json_within_at x y h tag.Int is = is
json_within_at x y h tag.Bool is = is
json_within_at x y h tag.Null is = is
json_within_at x y h tag.Time is = is
json_within_at x y h tag.Pattern is = is
json_within_at x y h tag.List is = is
json_within_at x y h tag.Object is = is
json_within_at x y h tag.Absent is = h is

pub json_within : (x y : Bool) → (IsTrue x → IsTrue y) → IsWithin (with_absent x json_kind) (with_absent y json_kind)
json_within x y h [] t is = json_within_at x y h t is
json_within x y h (field n ∷ p) t is = is
json_within x y h (place i ∷ p) t is = is

pub json_not_never : (x y : Bool) → IsWithin (with_absent x json_kind) (with_absent y never_kind) → ⊥
json_not_never x y within = true≢false (sym (within [] tag.Text refl))

pub any_not_never : (x y : Bool) → IsWithin (with_absent x any_kind) (with_absent y never_kind) → ⊥
any_not_never x y within = true≢false (sym (within [] tag.Text refl))

pub any_not_json : (x y : Bool) → IsWithin (with_absent x any_kind) (with_absent y json_kind) → ⊥
any_not_json x y within = true≢false (sym (within [] tag.Time refl))

scalars_from : (s u : Scalars) (l m : ListTree) (o q : ObjectTree) → IsWithin (kind s l o) (kind u m q) → ScalarsAreWithin s u
scalars_from s u l m o q within = record {
  string = within [] tag.Text;
  integer = within [] tag.Int;
  boolean = within [] tag.Bool;
  null = within [] tag.Null;
  timestamp = within [] tag.Time;
  regex = within [] tag.Pattern;
  absent = within [] tag.Absent;
}

pub scalars_within : (k l : KindTree) → IsWithin k l → ScalarsAreWithin (scalars_of k) (scalars_of l)
scalars_within (kind s l o) (kind u m q) within = scalars_from s u l m o q within

pub lists_within : (k l : KindTree) → IsWithin k l → ListsAreWithin (list_tree k) (list_tree l)
lists_within (kind s l o) (kind u m q) within = record { outer = within [] tag.List; inner = λ i p. within (place i ∷ p) }

pub objects_within : (k l : KindTree) → IsWithin k l → ObjectsAreWithin (object_tree k) (object_tree l)
objects_within (kind s l o) (kind u m q) within = record { outer = within [] tag.Object; inner = λ n p. within (field n ∷ p) }

parts_within_at : (s u : Scalars) (l m : ListTree) (o q : ObjectTree) → ScalarsAreWithin s u → ListsAreWithin l m → ObjectsAreWithin o q → (t : Tag) → IsTrue (tags_at (kind s l o) [] t) → IsTrue (tags_at (kind u m q) [] t)
parts_within_at s u l m o q scalars lists objects tag.Text is = scalars.string is
parts_within_at s u l m o q scalars lists objects tag.Int is = scalars.integer is
parts_within_at s u l m o q scalars lists objects tag.Bool is = scalars.boolean is
parts_within_at s u l m o q scalars lists objects tag.Null is = scalars.null is
parts_within_at s u l m o q scalars lists objects tag.Time is = scalars.timestamp is
parts_within_at s u l m o q scalars lists objects tag.Pattern is = scalars.regex is
parts_within_at s u l m o q scalars lists objects tag.List is = lists.outer is
parts_within_at s u l m o q scalars lists objects tag.Object is = objects.outer is
parts_within_at s u l m o q scalars lists objects tag.Absent is = scalars.absent is

parts_at : (s u : Scalars) (l m : ListTree) (o q : ObjectTree) → ScalarsAreWithin s u → ListsAreWithin l m → ObjectsAreWithin o q → IsWithin (kind s l o) (kind u m q)
parts_at s u l m o q scalars lists objects [] t is = parts_within_at s u l m o q scalars lists objects t is
parts_at s u l m o q scalars lists objects (place i ∷ p) t is = lists.inner i p t is
parts_at s u l m o q scalars lists objects (field n ∷ p) t is = objects.inner n p t is

pub parts_within : (k l : KindTree) → ScalarsAreWithin (scalars_of k) (scalars_of l) → ListsAreWithin (list_tree k) (list_tree l) → ObjectsAreWithin (object_tree k) (object_tree l) → IsWithin k l
parts_within (kind s l o) (kind u m q) scalars lists objects = parts_at s u l m o q scalars lists objects

-- arrays are within others where the kind of each place is
pub places_to : (ps qs : Places) (r q : RestTree) → ((i : ℕ) → IsWithin (place_or ps (rest_kind r) i) (place_or qs (rest_kind q) i)) → ListsAreWithin (list_part ps r) (list_part qs q)
places_to ps qs r q each = record {
  outer = λ is. is;
  inner = λ i p t is. ap (λ T. T t) (list_place qs q i p) ∙ each i p t (ap (λ T. T t) (sym (list_place ps r i p)) ∙ is);
}

pub places_from : (ps qs : Places) (r q : RestTree) → ListsAreWithin (list_part ps r) (list_part qs q) → (i : ℕ) → IsWithin (place_or ps (rest_kind r) i) (place_or qs (rest_kind q) i)
places_from ps qs r q lists i p t is = ap (λ T. T t) (sym (list_place qs q i p)) ∙ lists.inner i p t (ap (λ T. T t) (list_place ps r i p) ∙ is)

-- and objects where the kind of each field is
pub fields_to : (fs gs : KnownFields) (r q : RestTree) → ((n : List ℕ) → IsWithin (field_or fs (rest_kind r) n) (field_or gs (rest_kind q) n)) → ObjectsAreWithin (object_part fs r) (object_part gs q)
fields_to fs gs r q each = record {
  outer = λ is. is;
  inner = λ n p t is. ap (λ T. T t) (object_field gs q n p) ∙ each n p t (ap (λ T. T t) (sym (object_field fs r n p)) ∙ is);
}

pub fields_from : (fs gs : KnownFields) (r q : RestTree) → ObjectsAreWithin (object_part fs r) (object_part gs q) → (n : List ℕ) → IsWithin (field_or fs (rest_kind r) n) (field_or gs (rest_kind q) n)
fields_from fs gs r q objects n p t is = ap (λ T. T t) (sym (object_field gs q n p)) ∙ objects.inner n p t (ap (λ T. T t) (object_field fs r n p) ∙ is)

-- what a loop over the names of two objects has shown
pub record FieldsSoFar (K L : KindTree) (fs0 gs0 fs gs : KnownFields) : Type 0 where
  pub last : Option (List ℕ)
  pub left : IsAhead K last fs0 fs
  pub right : IsAhead L last gs0 gs
  pub within : ((n : List ℕ) → IsWithin (field_or fs K n) (field_or gs L n)) → (n : List ℕ) → IsWithin (field_or fs0 K n) (field_or gs0 L n)
  pub left_nodes : fields_nodes fs ≤ fields_nodes fs0
  pub right_nodes : fields_nodes gs ≤ fields_nodes gs0

pub so_far_first : (K L : KindTree) (fs gs : KnownFields) → FieldsAreSorted fs → FieldsAreSorted gs → FieldsSoFar K L fs gs fs gs
so_far_first K L fs gs sorted also = record {
  last = None;
  left = ahead_first K fs sorted;
  right = ahead_first L gs also;
  within = λ each. each;
  left_nodes = omega arith;
  right_nodes = omega arith;
}

field_cases : (o : Ordering) (K L : KindTree) (n m : List ℕ) (k l : Option KindTree) (fs gs : KnownFields) → slice_cmp nat_cmp m n ≡ o → IsBeforeFields n fs → IsBeforeFields n gs → IsWithin (unwrap_or k K) (unwrap_or l L) → IsWithin (field_or fs K m) (field_or gs L m) → IsWithin (field_or (with_field n k fs) K m) (field_or (with_field n l gs) L m)
field_cases Less K L n m k l fs gs is before also pair others = rw (not_here K n m k fs (ap is_eq is), not_here L n m l gs (ap is_eq is)) others
field_cases Greater K L n m k l fs gs is before also pair others = rw (not_here K n m k fs (ap is_eq is), not_here L n m l gs (ap is_eq is)) others
field_cases Equal K L n m k l fs gs is before also pair others =
    let same : m ≡ n = one_name m n is in
    rw (same, here K n k fs before, here L n l gs also) pair

pub so_far_next : (K L : KindTree) (n : List ℕ) (k l : Option KindTree) (fs0 gs0 fs gs fs' gs' : KnownFields) → FieldsSoFar K L fs0 gs0 fs gs → IsTurn n k l fs gs fs' gs' → IsWithin (unwrap_or k K) (unwrap_or l L) → FieldsSoFar K L fs0 gs0 fs' gs'
so_far_next K L n k l fs0 gs0 fs gs fs' gs' far turn pair =
    let past = past_turn far.last n k l fs gs fs' gs' far.left.past far.right.past turn.some turn.left turn.right in
    let before = turn.before_left far.left.sorted far.right.sorted in
    let also = turn.before_right far.left.sorted far.right.sorted in record {
      last = Some n;
      left = ahead_next K far.last fs0 fs fs' n k far.left past turn.left before;
      right = ahead_next L far.last gs0 gs gs' n l far.right past turn.right also;
      within = λ each. far.within (λ m. rw (turn.left, turn.right) (field_cases _ K L n m k l fs' gs' refl before also pair (each m)));
      left_nodes = omega (arith, far.left_nodes, turn_nodes n k fs fs' turn.left);
      right_nodes = omega (arith, far.right_nodes, turn_nodes n l gs gs' turn.right);
    }

-- a turn's kinds are those of the whole objects
pub so_far_pair : (K L : KindTree) (n : List ℕ) (k l : Option KindTree) (fs0 gs0 fs gs fs' gs' : KnownFields) → FieldsSoFar K L fs0 gs0 fs gs → IsTurn n k l fs gs fs' gs' → ((m : List ℕ) → IsWithin (field_or fs0 K m) (field_or gs0 L m)) → IsWithin (unwrap_or k K) (unwrap_or l L)
so_far_pair K L n k l fs0 gs0 fs gs fs' gs' far turn each =
    let past = past_turn far.last n k l fs gs fs' gs' far.left.past far.right.past turn.some turn.left turn.right in
    let before = turn.before_left far.left.sorted far.right.sorted in
    let also = turn.before_right far.left.sorted far.right.sorted in
    let e : field_or fs0 K n ≡ unwrap_or k K = ahead_here K far.last fs0 fs fs' n k far.left past turn.left before in
    let f : field_or gs0 L n ≡ unwrap_or l L = ahead_here L far.last gs0 gs gs' n l far.right past turn.right also in
    rw (← e, ← f) (each n)

-- and at the end the rests' are
pub so_far_rest : (K L : KindTree) (fs0 gs0 fs gs : KnownFields) → FieldsSoFar K L fs0 gs0 fs gs → IsEnd fs gs → ((m : List ℕ) → IsWithin (field_or fs0 K m) (field_or gs0 L m)) → IsWithin K L
so_far_rest K L fs0 gs0 fs gs far end each =
    let e : field_or fs0 K (some_past far.last).0 ≡ K = ahead_last K far.last fs0 fs far.left end.left in
    let f : field_or gs0 L (some_past far.last).0 ≡ L = ahead_last L far.last gs0 gs far.right end.right in
    let found : IsWithin (field_or fs0 K (some_past far.last).0) (field_or gs0 L (some_past far.last).0) = each (some_past far.last).0 in
    subst (λ k. IsWithin k L) e (subst (λ l. IsWithin (field_or fs0 K (some_past far.last).0) l) f found)

pub so_far_end : (K L : KindTree) (fs0 gs0 fs gs : KnownFields) → FieldsSoFar K L fs0 gs0 fs gs → IsEnd fs gs → IsWithin K L → (m : List ℕ) → IsWithin (field_or fs0 K m) (field_or gs0 L m)
so_far_end K L fs0 gs0 fs gs far end rest = far.within (λ m. rw (end.left, end.right) rest)

pub covers_within : (r q : RestTree) (x y : Bool) → covers q r ≡ true → (IsTrue x → IsTrue y) → IsWithin (with_absent x (bare_rest r)) (with_absent y (bare_rest q))
covers_within r any_rest x y c h = within_any x y (bare_rest r) h
covers_within nothing q x y c h = never_within x y (bare_rest q) h
covers_within json_rest json_rest x y c h = json_within x y h
covers_within json_rest nothing x y c h = absurd (true≢false (sym c))
covers_within json_rest (exact k) x y c h = absurd (true≢false (sym c))
covers_within any_rest nothing x y c h = absurd (true≢false (sym c))
covers_within any_rest json_rest x y c h = absurd (true≢false (sym c))
covers_within any_rest (exact k) x y c h = absurd (true≢false (sym c))
covers_within (exact l) nothing x y c h = absurd (true≢false (sym c))
covers_within (exact l) json_rest x y c h = absurd (true≢false (sym c))
covers_within (exact l) (exact k) x y c h = absurd (true≢false (sym c))

some_nodes : (k : KindTree) → 1 ≤ nodes k
some_nodes (kind s l o) = omega arith

pub not_covered : (r q : RestTree) (x y : Bool) → covers q r ≡ false → (1 ≤ rest_nodes r + rest_nodes q → ⊥) → IsWithin (with_absent x (bare_rest r)) (with_absent y (bare_rest q)) → ⊥
not_covered r any_rest x y c h within = true≢false c
not_covered nothing nothing x y c h within = true≢false c
not_covered nothing json_rest x y c h within = true≢false c
not_covered nothing (exact k) x y c h within = true≢false c
not_covered json_rest nothing x y c h within = json_not_never x y within
not_covered json_rest json_rest x y c h within = true≢false c
not_covered json_rest (exact k) x y c h within = h (omega (arith, some_nodes k))
not_covered any_rest nothing x y c h within = any_not_never x y within
not_covered any_rest json_rest x y c h within = any_not_json x y within
not_covered any_rest (exact k) x y c h within = h (omega (arith, some_nodes k))
not_covered (exact l) nothing x y c h within = h (omega (arith, some_nodes l))
not_covered (exact l) json_rest x y c h within = h (omega (arith, some_nodes l))
not_covered (exact l) (exact k) x y c h within = h (omega (arith, some_nodes l))

-- facts of two things are those of what they equal
pub along : {A : Type 0} (R : A → A → Type 0) (x x' y y' : A) → x ≡ x' → y ≡ y' → R x' y' → R x y
along R x x' y y' e f h = subst (λ u. R u y) (sym e) (subst (λ v. R x' v) (sym f) h)

pub absent_to : (x y : Bool) (k l : KindTree) → IsWithin (with_absent x k) (with_absent y l) → IsTrue x → IsTrue y
absent_to x y k l within is = sym (absent_of y l) ∙ within [] tag.Absent (absent_of x k ∙ is)

pub side : (i n : ℕ) → (i < n) ⊎ (n ≤ i)
side i zero = inr (omega arith)
side zero (suc n) = inl (omega arith)
side (suc i) (suc n) = elim (side i n) [ inl h ↦ inl (omega arith) | inr h ↦ inr (omega arith) ]

-- what holds of the places below n, and of the rests, holds of each place
pub each_place : (ks ls : List KindTree) (K L : KindTree) (n : ℕ) → length ks ≤ n → length ls ≤ n → ((i : ℕ) → i < n → IsWithin (place_or (places_view ks) K i) (place_or (places_view ls) L i)) → IsWithin K L → (i : ℕ) → IsWithin (place_or (places_view ks) K i) (place_or (places_view ls) L i)
each_place ks ls K L n a b below rest i =
    elim (side i n) [
      | inl h ↦ below i h
      | inr h ↦ along IsWithin _ _ _ _ (place_beyond ks K i (omega arith)) (place_beyond ls L i (omega arith)) rest
    ]

pub rest_place : (ks ls : List KindTree) (K L : KindTree) (n : ℕ) → length ks ≤ n → length ls ≤ n → ((i : ℕ) → IsWithin (place_or (places_view ks) K i) (place_or (places_view ls) L i)) → IsWithin K L
rest_place ks ls K L n a b each = along IsWithin _ _ _ _ (sym (place_beyond ks K n a)) (sym (place_beyond ls L n b)) (each n)

pub end_of : {A : Type 0} (o : Option A) (P : Type 0) (Q : A → Type 0) → MatchOption o P Q → ((x : A) → o ≡ Some x → ⊥) → P
end_of None P Q h not = h
end_of (Some x) P Q h not = absurd (not x refl)

-- where neither is a kind in memory both weigh nothing, and else both together something
pub none_exact : (r q : RestTree) → some_exact r q ≡ false → 1 ≤ rest_nodes r + rest_nodes q → ⊥
none_exact nothing nothing e some = absurd (omega arith)
none_exact nothing json_rest e some = absurd (omega arith)
none_exact nothing any_rest e some = absurd (omega arith)
none_exact nothing (exact l) e some = true≢false e
none_exact json_rest nothing e some = absurd (omega arith)
none_exact json_rest json_rest e some = absurd (omega arith)
none_exact json_rest any_rest e some = absurd (omega arith)
none_exact json_rest (exact l) e some = true≢false e
none_exact any_rest nothing e some = absurd (omega arith)
none_exact any_rest json_rest e some = absurd (omega arith)
none_exact any_rest any_rest e some = absurd (omega arith)
none_exact any_rest (exact l) e some = true≢false e
none_exact (exact k) nothing e some = true≢false e
none_exact (exact k) json_rest e some = true≢false e
none_exact (exact k) any_rest e some = true≢false e
none_exact (exact k) (exact l) e some = true≢false e

pub exact_nodes : (r q : RestTree) → some_exact r q ≡ true → 1 ≤ rest_nodes r + rest_nodes q
exact_nodes nothing nothing e = absurd (true≢false (sym e))
exact_nodes nothing json_rest e = absurd (true≢false (sym e))
exact_nodes nothing any_rest e = absurd (true≢false (sym e))
exact_nodes nothing (exact l) e = omega (arith, some_nodes l)
exact_nodes json_rest nothing e = absurd (true≢false (sym e))
exact_nodes json_rest json_rest e = absurd (true≢false (sym e))
exact_nodes json_rest any_rest e = absurd (true≢false (sym e))
exact_nodes json_rest (exact l) e = omega (arith, some_nodes l)
exact_nodes any_rest nothing e = absurd (true≢false (sym e))
exact_nodes any_rest json_rest e = absurd (true≢false (sym e))
exact_nodes any_rest any_rest e = absurd (true≢false (sym e))
exact_nodes any_rest (exact l) e = omega (arith, some_nodes l)
exact_nodes (exact k) nothing e = omega (arith, some_nodes k)
exact_nodes (exact k) json_rest e = omega (arith, some_nodes k)
exact_nodes (exact k) any_rest e = omega (arith, some_nodes k)
exact_nodes (exact k) (exact l) e = omega (arith, some_nodes k)

pub uncovered : (r q : RestTree) → covers r q ≡ false → covers q r ≡ false → 1 ≤ rest_nodes r + rest_nodes q
uncovered nothing nothing e f = absurd (true≢false e)
uncovered nothing json_rest e f = absurd (true≢false f)
uncovered nothing any_rest e f = absurd (true≢false f)
uncovered nothing (exact l) e f = omega (arith, some_nodes l)
uncovered json_rest nothing e f = absurd (true≢false e)
uncovered json_rest json_rest e f = absurd (true≢false e)
uncovered json_rest any_rest e f = absurd (true≢false f)
uncovered json_rest (exact l) e f = omega (arith, some_nodes l)
uncovered any_rest nothing e f = absurd (true≢false e)
uncovered any_rest json_rest e f = absurd (true≢false e)
uncovered any_rest any_rest e f = absurd (true≢false e)
uncovered any_rest (exact l) e f = omega (arith, some_nodes l)
uncovered (exact k) nothing e f = omega (arith, some_nodes k)
uncovered (exact k) json_rest e f = omega (arith, some_nodes k)
uncovered (exact k) any_rest e f = omega (arith, some_nodes k)
uncovered (exact k) (exact l) e f = omega (arith, some_nodes k)
