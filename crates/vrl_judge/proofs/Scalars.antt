-- Kinds of scalars alone, and the tags that tables give.
use Rattle.std.proofs.Common.{◌≡◌, Bool, true, false, ◌||◌, ◌&&◌, List, [], ◌∷◌, Option, Some, None, get_or, refl, sym, ap, ◌∙◌}
use Rattle.std.proofs.Math.Bool.{and-false}
use Rattle.std.proofs.lemmas.Bool.{true≢false}
use Rattle.std.proofs.lemmas.List.Folds.{list_any_none}
use Rattle.std.specs.List.{list_any}
use Rattle.vrl_value.specs.Look.{Step, field, place}
use Rattle.vrl_value.specs.declared.value.Tag.{Tag}
use Rattle.vrl_kind.specs.KindTree.{KindTree}
use Rattle.vrl_kind.specs.Kinds.{any_at, never_at, only_at, or_absent, root_tags, step_tag, tags_at, IsJoin}
use Rattle.vrl_kind.specs.Sets.{SameSets}
use Rattle.vrl_kind.specs.Tags.{Tags, all_tags, only, same_tag}
use Rattle.vrl_judge.specs.Rules.{is_tag, scalars_at, some_pair, some_tag, table_tags}
use Rattle.vrl_judge.specs.Judging.{table_rule}
use Rattle.vrl_judge.specs.Partners.{only_where}
use Rattle.vrl_judge.specs.declared.tables.Table.{Table}
use Rattle.vrl_value.specs.declared.value.Tag.TheVariants as tag
use Rattle.vrl_judge.specs.declared.tables.Table.TheVariants as table

-- ---- one scalar

-- a scalar is no container
pub no_container : (t : Tag) → (same_tag t tag.List || same_tag t tag.Object) ≡ false → (s : Step) → same_tag (step_tag s) t ≡ false
no_container tag.List h s = absurd (true≢false h)
no_container tag.Object h s = absurd (true≢false h)
no_container t h (field n) = refl
no_container t h (place i) = refl

-- the kind of a scalar's tag allows nothing below it
pub scalar_sets : (t : Tag) → (same_tag t tag.List || same_tag t tag.Object) ≡ false → (p : List Step) (u : Tag) → only_at t p u ≡ scalars_at (only t) p u
scalar_sets t h [] u = refl
scalar_sets t h (s ∷ p) u = ap (λ b. b && or_absent p (any_at p) u) (no_container t h s)

-- the same where it is given, and nothing where it isn't
pub given_sets : (given : Bool) → given ≡ true → (t : Tag) → (same_tag t tag.List || same_tag t tag.Object) ≡ false → (p : List Step) (u : Tag) → only_at t p u ≡ scalars_at (only_where given t) p u
given_sets given is t h [] u = ap (λ b. b && same_tag t u) (sym is)
given_sets given is t h (s ∷ p) u = scalar_sets t h (s ∷ p) u

pub none_sets : (given : Bool) → given ≡ false → (t : Tag) (p : List Step) (u : Tag) → never_at p u ≡ scalars_at (only_where given t) p u
none_sets given is t [] u = ap (λ b. b && same_tag t u) (sym is)
none_sets given is t (s ∷ p) u = refl

-- ---- tables

-- a pair passes a test where some tag of the first kind has a partner in the second
pub some_pair-by_partners : (test : Tag → Tag → Bool) (K L : KindTree) → list_any (λ a. root_tags K a && some_tag (test a) L) all_tags ≡ some_pair test K L
unfolding some_tag
some_pair-by_partners test K L = refl

pub table_tags-by_partners : (rule : Tag → Tag → Option Tag) (K L : KindTree) (t : Tag) → list_any (λ a. root_tags K a && some_tag (λ b. is_tag (rule a b) t) L) all_tags ≡ table_tags rule K L t
unfolding table_tags
table_tags-by_partners rule K L t = some_pair-by_partners (λ a b. is_tag (rule a b) t) K L

-- the tags that tables give
abbrev pub listed : Option Tag → Bool
listed None = true
listed (Some tag.Text) = true
listed (Some tag.Int) = true
listed (Some tag.Bool) = true
listed (Some t) = false

pub rule_listed : (r : Table) (a b : Tag) → listed (table_rule r a b) ≡ true
rule_listed table.Sum tag.Int tag.Int = refl
rule_listed table.Sum tag.Text tag.Text = refl
rule_listed table.Sum tag.Text tag.Null = refl
rule_listed table.Sum tag.Null tag.Text = refl
rule_listed table.Sum a b = refl
rule_listed table.Number tag.Int tag.Int = refl
rule_listed table.Number a b = refl
rule_listed table.Order tag.Int tag.Int = refl
rule_listed table.Order tag.Text tag.Text = refl
rule_listed table.Order tag.Time tag.Time = refl
rule_listed table.Order a b = refl

pub listed_other : (given : Option Tag) (t : Tag) → listed given ≡ true → listed (Some t) ≡ false → is_tag given t ≡ false
listed_other None t h other = refl
listed_other (Some tag.Text) tag.Text h other = absurd (true≢false other)
listed_other (Some tag.Text) t h other = refl
listed_other (Some tag.Int) tag.Int h other = absurd (true≢false other)
listed_other (Some tag.Int) t h other = refl
listed_other (Some tag.Bool) tag.Bool h other = absurd (true≢false other)
listed_other (Some tag.Bool) t h other = refl
listed_other (Some a) t h other = absurd (true≢false (sym h))

-- where no tag passes a test, none of them all does
pub none_of_all : (test : Tags) → ((t : Tag) → test t ≡ false) → list_any test all_tags ≡ false
none_of_all test none = list_any_none test all_tags (λ k d below. none (get_or all_tags k d))

pub no_partner : (test : Tag → Bool) (L : KindTree) → ((b : Tag) → test b ≡ false) → some_tag test L ≡ false
unfolding some_tag
no_partner test L none = none_of_all (λ b. root_tags L b && test b) (λ b. rw (none b) (and-false (root_tags L b)))

pub no_pair : (rule : Tag → Tag → Option Tag) (K L : KindTree) (t : Tag) → ((a b : Tag) → is_tag (rule a b) t ≡ false) → table_tags rule K L t ≡ false
no_pair rule K L t none =
    sym (table_tags-by_partners rule K L t)
    ∙ none_of_all (λ a. root_tags K a && some_tag (λ b. is_tag (rule a b) t) L)
    (λ a. rw (no_partner (λ b. is_tag (rule a b) t) L (none a)) (and-false (root_tags K a)))

-- no other tag is given for any pair
pub others : (r : Table) (K L : KindTree) (t : Tag) → listed (Some t) ≡ false → table_tags (table_rule r) K L t ≡ false
others r K L t other = no_pair (table_rule r) K L t (λ a b. listed_other (table_rule r a b) t (rule_listed r a b) other)

pub absent_unlisted : (r : Table) (K L : KindTree) → table_tags (table_rule r) K L tag.Absent ≡ false
absent_unlisted r K L = others r K L tag.Absent refl

pub first_of_three : (a b c : Bool) → (((a && true) || (b && false)) || (c && false)) ≡ a
first_of_three true b c = refl
first_of_three false b c = rw (and-false b, and-false c) refl

pub second_of_three : (a b c : Bool) → (((a && false) || (b && true)) || (c && false)) ≡ b
second_of_three a true c = rw (and-false a) refl
second_of_three a false c = rw (and-false a, and-false c) refl

pub third_of_three : (a b c : Bool) → (((a && false) || (b && false)) || (c && true)) ≡ c
third_of_three a b true = rw (and-false a, and-false b) refl
third_of_three a b false = rw (and-false a, and-false b) refl

pub none_of_three : (a b c : Bool) → (((a && false) || (b && false)) || (c && false)) ≡ false
none_of_three a b c = rw (and-false a, and-false b, and-false c) refl

-- the tags of a table, one by one
pub three_at : (r : Table) (K L : KindTree) (u : Tag)
    → ((only_where (table_tags (table_rule r) K L tag.Text) tag.Text u || only_where (table_tags (table_rule r) K L tag.Int) tag.Int u) || only_where (table_tags (table_rule r) K L tag.Bool) tag.Bool u)
    ≡ table_tags (table_rule r) K L u
three_at r K L tag.Text = first_of_three _ _ _
three_at r K L tag.Int = second_of_three _ _ _
three_at r K L tag.Bool = third_of_three _ _ _
three_at r K L tag.Null = none_of_three _ _ _ ∙ sym (others r K L tag.Null refl)
three_at r K L tag.Time = none_of_three _ _ _ ∙ sym (others r K L tag.Time refl)
three_at r K L tag.Pattern = none_of_three _ _ _ ∙ sym (others r K L tag.Pattern refl)
three_at r K L tag.List = none_of_three _ _ _ ∙ sym (others r K L tag.List refl)
three_at r K L tag.Object = none_of_three _ _ _ ∙ sym (others r K L tag.Object refl)
three_at r K L tag.Absent = none_of_three _ _ _ ∙ sym (others r K L tag.Absent refl)

pub table_sets : (r : Table) (K L : KindTree) (p : List Step) (u : Tag)
    → ((scalars_at (only_where (table_tags (table_rule r) K L tag.Text) tag.Text) p u || scalars_at (only_where (table_tags (table_rule r) K L tag.Int) tag.Int) p u)
    || scalars_at (only_where (table_tags (table_rule r) K L tag.Bool) tag.Bool) p u)
    ≡ scalars_at (table_tags (table_rule r) K L) p u
table_sets r K L [] u = three_at r K L u
table_sets r K L (s ∷ p) u = refl

-- kinds of one tag each, joined
pub table_parts : (r : Table) (K L : KindTree) (text integer boolean : Bool) (T I B first M : KindTree)
    → text ≡ table_tags (table_rule r) K L tag.Text → integer ≡ table_tags (table_rule r) K L tag.Int → boolean ≡ table_tags (table_rule r) K L tag.Bool
    → SameSets (tags_at T) (scalars_at (only_where text tag.Text)) → SameSets (tags_at I) (scalars_at (only_where integer tag.Int)) → SameSets (tags_at B) (scalars_at (only_where boolean tag.Bool))
    → IsJoin T I first → IsJoin first B M → SameSets (tags_at M) (scalars_at (table_tags (table_rule r) K L))
table_parts r K L text integer boolean T I B first M of_text of_integer of_boolean a b c one two p u =
    let A : tags_at T p u ≡ scalars_at (only_where (table_tags (table_rule r) K L tag.Text) tag.Text) p u = a p u ∙ ap (λ x. scalars_at (only_where x tag.Text) p u) of_text in
    let D : tags_at I p u ≡ scalars_at (only_where (table_tags (table_rule r) K L tag.Int) tag.Int) p u = b p u ∙ ap (λ x. scalars_at (only_where x tag.Int) p u) of_integer in
    let E : tags_at B p u ≡ scalars_at (only_where (table_tags (table_rule r) K L tag.Bool) tag.Bool) p u = c p u ∙ ap (λ x. scalars_at (only_where x tag.Bool) p u) of_boolean in
    two p u
    ∙ ap (λ x. x || tags_at B p u) (one p u ∙ ap (λ x. x || tags_at I p u) A ∙ ap (λ x. scalars_at (only_where (table_tags (table_rule r) K L tag.Text) tag.Text) p u || x) D)
    ∙ ap (λ x. (scalars_at (only_where (table_tags (table_rule r) K L tag.Text) tag.Text) p u || scalars_at (only_where (table_tags (table_rule r) K L tag.Int) tag.Int) p u) || x) E
    ∙ table_sets r K L p u
