-- What a merge of fields has still ahead of it.
use Rattle.std.proofs.Common.{◌≡◌, ℕ, ◌||◌, ◌+◌, false, IsTrue, List, [], ◌∷◌, ◌++◌, Option, Some, None, is_some, unwrap_or, Ordering, Less, Equal, Greater, nat_cmp, is_eq, refl, sym, ap, ◌∙◌, subst, arith}
use Rattle.std.proofs.lemmas.Bool.{true≢false}
use Rattle.std.proofs.lemmas.Cmp.{nat_cmp_total, nat_list_cmp_total, tied_itself}
use Rattle.std.specs.Cmp.Lexicographic.{slice_cmp}
use Rattle.std.specs.Bool.{⊤}
use Rattle.std.specs.Ordering.{match_ordering, ordering_reverse}
use Rattle.vrl_kind.specs.KindTree.{KindTree, KnownFields, no_fields, known_field}
use Rattle.vrl_kind.specs.Canonical.{IsBeforeFields, FieldsAreCanonical, field_or}
use Rattle.vrl_kind.specs.Count.{fields_nodes}
use Rattle.vrl_kind.specs.Merge.{FieldsAreSorted, with_field}
use Rattle.vrl_kind.specs.Seen.{option_nodes}

-- the name comes after the last one that was taken
abbrev pub IsPast : Option (List ℕ) → List ℕ → Type 0
IsPast None n = ⊤
IsPast (Some m) n = slice_cmp nat_cmp m n ≡ Less

-- and so does each of the fields'
abbrev pub AllPast : Option (List ℕ) → KnownFields → Type 0
AllPast None fs = ⊤
AllPast (Some m) fs = IsBeforeFields m fs

-- how many fields there are
abbrev pub fields_count : KnownFields → ℕ
fields_count no_fields = 0
fields_count (known_field n k fs) = fields_count fs + 1

-- fs is what is left of all: at each name that comes after the last one taken, both say the same
pub record IsAhead (K : KindTree) (last : Option (List ℕ)) (all fs : KnownFields) : Type 0 where
  pub sorted : FieldsAreSorted fs
  pub past : AllPast last fs
  pub same : (n : List ℕ) → IsPast last n → field_or all K n ≡ field_or fs K n

pub ahead_first : (K : KindTree) (fs : KnownFields) → FieldsAreSorted fs → IsAhead K None fs fs
ahead_first K fs sorted = record { sorted = sorted; past = tt; same = λ n past. refl }

pub greater : (m n : List ℕ) → slice_cmp nat_cmp m n ≡ Less → slice_cmp nat_cmp n m ≡ Greater
greater m n less = nat_list_cmp_total.antisymm n m ∙ ap ordering_reverse less

-- a field at another name is passed over
pub passed_over : (K k : KindTree) (m n : List ℕ) (fs : KnownFields) → slice_cmp nat_cmp n m ≡ Greater → field_or (known_field m k fs) K n ≡ field_or fs K n
passed_over K k m n fs is = rw is

-- what stands before all fields isn't one of them
pub unknown : (K : KindTree) (n : List ℕ) (fs : KnownFields) → IsBeforeFields n fs → field_or fs K n ≡ K
unknown K n no_fields before = refl
unknown K n (known_field m k fs) before = rw (before.0) (unknown K n fs before.1)

pub here : (K : KindTree) (n : List ℕ) (k : Option KindTree) (fs : KnownFields) → IsBeforeFields n fs → field_or (with_field n k fs) K n ≡ unwrap_or k K
here K n None fs before = unknown K n fs before
here K n (Some k) fs before = rw (tied_itself nat_list_cmp_total n) refl

elsewhere : (K : KindTree) (m n : List ℕ) (k : Option KindTree) (fs : KnownFields) → slice_cmp nat_cmp n m ≡ Greater → field_or (with_field m k fs) K n ≡ field_or fs K n
elsewhere K m n None fs is = refl
elsewhere K m n (Some k) fs is = passed_over K k m n fs is

past_through : (last : Option (List ℕ)) (m n : List ℕ) → IsPast last m → slice_cmp nat_cmp m n ≡ Less → IsPast last n
past_through None m n past less = tt
past_through (Some l) m n past less = nat_list_cmp_total.trans l m n past less

pub sorted_behind : (n : List ℕ) (k : Option KindTree) (fs : KnownFields) → FieldsAreSorted (with_field n k fs) → FieldsAreSorted fs
sorted_behind n None fs sorted = sorted
sorted_behind n (Some k) fs sorted = sorted.1

-- after a turn the others are ahead
pub ahead_next : (K : KindTree) (last : Option (List ℕ)) (all fs fs' : KnownFields) (n : List ℕ) (k : Option KindTree) → IsAhead K last all fs → IsPast last n → fs ≡ with_field n k fs' → IsBeforeFields n fs' → IsAhead K (Some n) all fs'
ahead_next K last all fs fs' n k ahead past is before = record {
  sorted = sorted_behind n k fs' (subst FieldsAreSorted is ahead.sorted);
  past = before;
  same = λ m less. ahead.same m (past_through last n m past less) ∙ ap (λ gs. field_or gs K m) is ∙ elsewhere K n m k fs' (greater n m less);
}

-- and at the turn's name both lists say what it gives
pub ahead_here : (K : KindTree) (last : Option (List ℕ)) (all fs fs' : KnownFields) (n : List ℕ) (k : Option KindTree) → IsAhead K last all fs → IsPast last n → fs ≡ with_field n k fs' → IsBeforeFields n fs' → field_or all K n ≡ unwrap_or k K
ahead_here K last all fs fs' n k ahead past is before = ahead.same n past ∙ ap (λ gs. field_or gs K n) is ∙ here K n k fs' before

past_field : (last : Option (List ℕ)) (n : List ℕ) (k : KindTree) (fs : KnownFields) → AllPast last (known_field n k fs) → IsPast last n
past_field None n k fs past = tt
past_field (Some m) n k fs past = past.0

-- the turn's name comes after the last one
pub past_turn : (last : Option (List ℕ)) (n : List ℕ) (k l : Option KindTree) (fs gs fs' gs' : KnownFields) → AllPast last fs → AllPast last gs → IsTrue (is_some k || is_some l) → fs ≡ with_field n k fs' → gs ≡ with_field n l gs' → IsPast last n
past_turn last n (Some k) l fs gs fs' gs' past other some is also = past_field last n k fs' (subst (AllPast last) is past)
past_turn last n None (Some l) fs gs fs' gs' past other some is also = past_field last n l gs' (subst (AllPast last) also other)
past_turn last n None None fs gs fs' gs' past other some is also = absurd (true≢false (sym some))

after : (n : List ℕ) → slice_cmp nat_cmp n (n ++ 0 ∷ []) ≡ Less
after [] = refl
after (x ∷ n) = rw (tied_itself nat_cmp_total x) (after n)

-- some name comes after the last one
pub some_past : (last : Option (List ℕ)) → (n : List ℕ) × IsPast last n
some_past None = ([], tt)
some_past (Some m) = (m ++ 0 ∷ [], after m)

-- where nothing is left, some name is in neither list
pub ahead_last : (K : KindTree) (last : Option (List ℕ)) (all fs : KnownFields) → IsAhead K last all fs → fs ≡ no_fields → field_or all K (some_past last).0 ≡ K
ahead_last K last all fs ahead none = ahead.same (some_past last).0 (some_past last).1 ∙ ap (λ gs. field_or gs K (some_past last).0) none

-- a turn leaves less
pub turn_nodes : (n : List ℕ) (k : Option KindTree) (fs fs' : KnownFields) → fs ≡ with_field n k fs' → fields_nodes fs ≡ option_nodes k + fields_nodes fs'
turn_nodes n None fs fs' is = ap fields_nodes is ∙ omega arith
turn_nodes n (Some k) fs fs' is = ap fields_nodes is

pub not_first : (o : Ordering) (k l : KindTree) → is_eq o ≡ false → match_ordering o l k l ≡ l
not_first Less k l e = refl
not_first Equal k l e = absurd (true≢false e)
not_first Greater k l e = refl

-- at another name a field says nothing
pub not_here : (K : KindTree) (n m : List ℕ) (k : Option KindTree) (fs : KnownFields) → is_eq (slice_cmp nat_cmp m n) ≡ false → field_or (with_field n k fs) K m ≡ field_or fs K m
not_here K n m None fs e = refl
not_here K n m (Some k) fs e = not_first (slice_cmp nat_cmp m n) k (field_or fs K m) e

pub fields_sorted : (fs : KnownFields) → FieldsAreCanonical fs → FieldsAreSorted fs
fields_sorted no_fields canonical = tt
fields_sorted (known_field n k fs) canonical = (canonical.0, fields_sorted fs canonical.2)
