-- Tags that are the same or not, and other tags that are allowed.
use Rattle.std.proofs.Common.{◌≡◌, ◌≢◌, Bool, true, false, ◌||◌, ◌&&◌, not, List, [], ◌∷◌, refl, sym, ap, ◌∙◌, arith}
use Rattle.std.proofs.lemmas.Bool.{true≢false}
use Rattle.std.proofs.lemmas.Grind.{common_steps}
use Rattle.std.specs.List.{list_any}
use Rattle.vrl_value.specs.Look.{Step, field, place}
use Rattle.vrl_value.specs.Tag.{tag_of}
use Rattle.vrl_value.specs.Tree.{Tree, string, integer, boolean, null, timestamp, regex, array, object}
use Rattle.vrl_value.specs.declared.value.Tag.{Tag}
use Rattle.vrl_value.specs.declared.value.Tag.TheVariants as tag
use Rattle.vrl_kind.specs.Kinds.{step_tag}
use Rattle.vrl_kind.specs.Tags.{Tags, all_tags, same_tag}
use Rattle.vrl_place.specs.Sets.{has_other, is_alone}

pub one_tag : (t u : Tag) → same_tag t u ≡ true → t ≡ u
one_tag tag.Text tag.Text h = refl
one_tag tag.Int tag.Int h = refl
one_tag tag.Bool tag.Bool h = refl
one_tag tag.Null tag.Null h = refl
one_tag tag.Time tag.Time h = refl
one_tag tag.Pattern tag.Pattern h = refl
one_tag tag.List tag.List h = refl
one_tag tag.Object tag.Object h = refl
one_tag tag.Absent tag.Absent h = refl
one_tag t u h = absurd (true≢false (sym h))

pub same_itself : (t : Tag) → same_tag t t ≡ true
same_itself tag.Text = refl
same_itself tag.Int = refl
same_itself tag.Bool = refl
same_itself tag.Null = refl
same_itself tag.Time = refl
same_itself tag.Pattern = refl
same_itself tag.List = refl
same_itself tag.Object = refl
same_itself tag.Absent = refl

pub absent_sym : (t : Tag) → same_tag tag.Absent t ≡ same_tag t tag.Absent
absent_sym tag.Text = refl
absent_sym tag.Int = refl
absent_sym tag.Bool = refl
absent_sym tag.Null = refl
absent_sym tag.Time = refl
absent_sym tag.Pattern = refl
absent_sym tag.List = refl
absent_sym tag.Object = refl
absent_sym tag.Absent = refl

not_same_at : (t u : Tag) (b : Bool) → same_tag t u ≡ b → t ≢ u → not b ≡ true
not_same_at t u true is ne = absurd (ne (one_tag t u is))
not_same_at t u false is ne = refl

pub not_same : (t u : Tag) → t ≢ u → not (same_tag t u) ≡ true
not_same t u ne = not_same_at t u (same_tag t u) refl ne

pub differ : (t u : Tag) → not (same_tag t u) ≡ true → t ≢ u
differ t u h e = true≢false (sym h ∙ ap not (ap (same_tag t) (sym e) ∙ same_itself t))

pub both : (a b : Bool) → a ≡ true → b ≡ true → (a && b) ≡ true
both true b is also = also
both false b is also = absurd (true≢false (sym is))

pub first_of_both : (a b : Bool) → (a && b) ≡ true → a ≡ true
first_of_both true b h = refl
first_of_both false b h = absurd (true≢false (sym h))

pub second_of_both : (a b : Bool) → (a && b) ≡ true → b ≡ true
second_of_both true b h = h
second_of_both false b h = absurd (true≢false (sym h))

pub not_true : (b : Bool) → (b ≡ true → ⊥) → b ≡ false
not_true true h = absurd (h refl)
not_true false h = refl

-- tests that hold of each other
pub one_truth : (a b : Bool) → (a ≡ true → b ≡ true) → (b ≡ true → a ≡ true) → a ≡ b
one_truth true b to from = sym (to refl)
one_truth false b to from = sym (not_true b (λ h. true≢false (sym (from h))))

pub left_of : (a b : Bool) → a ≡ true → (a || b) ≡ true
left_of true b h = refl
left_of false b h = absurd (true≢false (sym h))

pub right_of : (a b : Bool) → b ≡ true → (a || b) ≡ true
right_of true b h = refl
right_of false b h = h

pub one_of_both : (a b : Bool) (G : Type 0) → (a || b) ≡ true → (a ≡ true → G) → (b ≡ true → G) → G
one_of_both true b G h left right = left refl
one_of_both false b G h left right = right h

some_at : (test : Tags) (t : Tag) (ts : List Tag) (b : Bool) → test t ≡ b → (b || list_any test ts) ≡ true → (list_any test ts ≡ true → (u : Tag) × (test u ≡ true)) → (u : Tag) × (test u ≡ true)
some_at test t ts true is h later = (t, is)
some_at test t ts false is h later = later h

some_of : (test : Tags) (ts : List Tag) → list_any test ts ≡ true → (u : Tag) × (test u ≡ true)
some_of test [] h = absurd (true≢false (sym h))
some_of test (t ∷ ts) h = some_at test t ts (test t) refl h (some_of test ts)

some_tag : (test : Tags) (t : Tag) → test t ≡ true → list_any test all_tags ≡ true
some_tag test tag.Text h = grind (arith, common_steps)
some_tag test tag.Int h = grind (arith, common_steps)
some_tag test tag.Bool h = grind (arith, common_steps)
some_tag test tag.Null h = grind (arith, common_steps)
some_tag test tag.Time h = grind (arith, common_steps)
some_tag test tag.Pattern h = grind (arith, common_steps)
some_tag test tag.List h = grind (arith, common_steps)
some_tag test tag.Object h = grind (arith, common_steps)
some_tag test tag.Absent h = grind (arith, common_steps)

pub other_there : (T : Tags) (t u : Tag) → T u ≡ true → u ≢ t → has_other T t ≡ true
unfolding has_other
other_there T t u is ne = some_tag (λ x. T x && not (same_tag x t)) u (both (T u) (not (same_tag u t)) is (not_same u t ne))

-- the other tag that is allowed
pub record SomeOther (T : Tags) (t : Tag) : Type 0 where
  pub other : Tag
  pub allowed : T other ≡ true
  pub differs : other ≢ t

pub some_other : (T : Tags) (t : Tag) → has_other T t ≡ true → SomeOther T t
unfolding has_other
some_other T t h =
    let found = some_of (λ u. T u && not (same_tag u t)) all_tags h in
    record {
      other = found.0;
      allowed = first_of_both (T found.0) (not (same_tag found.0 t)) found.1;
      differs = differ found.0 t (second_of_both (T found.0) (not (same_tag found.0 t)) found.1);
    }

not_alone_at : (T : Tags) (t : Tag) (b : Bool) → b ≡ true → not (T t && not b) ≡ true
not_alone_at T t true h = none (T t)
  where
    none : (a : Bool) → not (a && false) ≡ true
    none true = refl
    none false = refl
not_alone_at T t false h = absurd (true≢false (sym h))

-- where another tag is allowed, none is alone
pub not_alone : (T : Tags) (t u : Tag) → T u ≡ true → u ≢ t → not (is_alone T t) ≡ true
not_alone T t u is ne = not_alone_at T t (has_other T t) (other_there T t u is ne)

pub step_present : (s : Step) → tag.Absent ≢ step_tag s
step_present (field k) e = cc
step_present (place i) e = cc

pub value_present : (v : Tree) → tag_of v ≢ tag.Absent
value_present (string s) e = cc
value_present (integer n) e = cc
value_present (boolean b) e = cc
value_present null e = cc
value_present (timestamp n) e = cc
value_present (regex n) e = cc
value_present (array ts) e = cc
value_present (object ms) e = cc
