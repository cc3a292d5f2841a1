-- The turns of a merge of two lists of fields.
use Rattle.std.proofs.Common.{◌≡◌, ℕ, length, arith, List, [], ◌∷◌, Option, Some, None, Less, Equal, Greater, nat_cmp, is_eq, refl, sym, ap, ◌∙◌}
use Rattle.std.proofs.lemmas.Map.Text.{is_eq-slice_cmp}
use Rattle.std.proofs.lemmas.Slice.Eq.{bytes_eq-Decides}
use Rattle.std.proofs.lemmas.Cmp.{nat_list_cmp_total}
use Rattle.std.specs.Cmp.Lexicographic.{slice_cmp}
use Rattle.std.specs.Ordering.{ordering_reverse}
use Rattle.vrl_kind.specs.KindTree.{KindTree, KnownFields, no_fields, known_field}
use Rattle.vrl_kind.specs.Canonical.{IsBeforeFields}
use Rattle.vrl_kind.specs.Merge.{IsTurn}
use Rattle.vrl_kind.specs.View.{fields_view}
use Rattle.vrl_kind.specs.declared.kind.KindField.{KindField}

-- a name before one that is before the fields
pub before_through : (n m : List ℕ) (fs : KnownFields) → slice_cmp nat_cmp n m ≡ Less → IsBeforeFields m fs → IsBeforeFields n fs
before_through n m no_fields less before = tt
before_through n m (known_field l k fs) less before = (nat_list_cmp_total.trans n m l less before.0, before_through n m fs less before.1)

-- the same where both names are equal in order
pub before_equal : (n m : List ℕ) (fs : KnownFields) → slice_cmp nat_cmp n m ≡ Equal → IsBeforeFields m fs → IsBeforeFields n fs
before_equal n m no_fields same before = tt
before_equal n m (known_field l k fs) same before = (nat_list_cmp_total.congr n m l same ∙ before.0, before_equal n m fs same before.1)

pub turn_left : (f : KindField) (fs : List KindField) (xs ys : List KindField) (n : List ℕ) (k l : Option KindTree) → xs ≡ f ∷ fs → ys ≡ [] → n ≡ f.name → k ≡ Some f.kind → l ≡ None
    → IsTurn n k l (fields_view xs) (fields_view ys) (fields_view fs) (fields_view ys)
turn_left f fs xs ys n k l a b c d e = rw (a, b, c, d, e) record {
  some = refl;
  left = refl;
  right = refl;
  before_left = λ sorted other. sorted.0;
  before_right = λ sorted other. tt;
}

pub turn_right : (f : KindField) (fs : List KindField) (xs ys : List KindField) (n : List ℕ) (k l : Option KindTree) → xs ≡ [] → ys ≡ f ∷ fs → n ≡ f.name → k ≡ None → l ≡ Some f.kind
    → IsTurn n k l (fields_view xs) (fields_view ys) (fields_view xs) (fields_view fs)
turn_right f fs xs ys n k l a b c d e = rw (a, b, c, d, e) record {
  some = refl;
  left = refl;
  right = refl;
  before_left = λ sorted other. tt;
  before_right = λ sorted other. other.0;
}

pub turn_less : (f g : KindField) (fs gs : List KindField) (xs ys : List KindField) (n : List ℕ) (k l : Option KindTree) → slice_cmp nat_cmp f.name g.name ≡ Less → xs ≡ f ∷ fs → ys ≡ g ∷ gs → n ≡ f.name → k ≡ Some f.kind → l ≡ None
    → IsTurn n k l (fields_view xs) (fields_view ys) (fields_view fs) (fields_view ys)
turn_less f g fs gs xs ys n k l less a b c d e = rw (a, b, c, d, e) record {
  some = refl;
  left = refl;
  right = refl;
  before_left = λ sorted other. sorted.0;
  before_right = λ sorted other. (less, before_through f.name g.name (fields_view gs) less other.0);
}

pub turn_greater : (f g : KindField) (fs gs : List KindField) (xs ys : List KindField) (n : List ℕ) (k l : Option KindTree) → slice_cmp nat_cmp f.name g.name ≡ Greater → xs ≡ f ∷ fs → ys ≡ g ∷ gs → n ≡ g.name → k ≡ None → l ≡ Some g.kind
    → IsTurn n k l (fields_view xs) (fields_view ys) (fields_view xs) (fields_view gs)
turn_greater f g fs gs xs ys n k l greater a b c d e =
    let less : slice_cmp nat_cmp g.name f.name ≡ Less = nat_list_cmp_total.antisymm g.name f.name ∙ ap ordering_reverse greater in
    rw (a, b, c, d, e) record {
      some = refl;
      left = refl;
      right = refl;
      before_left = λ sorted other. (less, before_through g.name f.name (fields_view fs) less sorted.0);
      before_right = λ sorted other. other.0;
    }

-- names that are equal in order are one
pub one_name : (n m : List ℕ) → slice_cmp nat_cmp n m ≡ Equal → n ≡ m
one_name n m same = (bytes_eq-Decides n m).0 (sym (is_eq-slice_cmp n m) ∙ ap is_eq same)

pub turn_both : (f g : KindField) (fs gs : List KindField) (xs ys : List KindField) (n : List ℕ) → slice_cmp nat_cmp f.name g.name ≡ Equal → xs ≡ f ∷ fs → ys ≡ g ∷ gs → n ≡ f.name
    → IsTurn n (Some f.kind) (Some g.kind) (fields_view xs) (fields_view ys) (fields_view fs) (fields_view gs)
turn_both f g fs gs xs ys n same a b c = rw (a, b, c) record {
  some = refl;
  left = refl;
  right = ap (λ m. known_field m g.kind (fields_view gs)) (sym (one_name f.name g.name same));
  before_left = λ sorted other. sorted.0;
  before_right = λ sorted other. before_equal f.name g.name (fields_view gs) same other.0;
}

pub none_left : (xs : List KindField) → length xs ≡ 0 → xs ≡ []
none_left [] none = refl
none_left (x ∷ xs) none = absurd (omega arith)
