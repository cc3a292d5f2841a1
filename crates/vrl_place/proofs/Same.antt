-- Sets of tags that agree, and absent beside them.
use Rattle.std.proofs.Common.{◌≡◌, Bool, true, false, ◌||◌, ◌&&◌, not, List, [], ◌∷◌, refl, sym}
use Rattle.std.proofs.lemmas.Bool.{true≢false}
use Rattle.std.proofs.Math.Path.{fun_ext}
use Rattle.vrl_value.specs.Look.{Step}
use Rattle.vrl_value.specs.declared.value.Tag.{Tag}
use Rattle.vrl_value.specs.declared.value.Tag.TheVariants as tag
use Rattle.vrl_kind.specs.Sets.{Sets, SameSets}
use Rattle.vrl_kind.specs.Tags.{same_tag}
use Rattle.vrl_place.specs.Inner.{bare_sets, spot_sets}
use Rattle.vrl_place.specs.Sets.{or_absent_if}
use Rattle.vrl_place.specs.declared.spot.Spot.{Spot}

pub one_sets : (A B : Sets) → SameSets A B → A ≡ B
one_sets A B same = fun_ext (λ p. fun_ext (λ t. same p t))

pub or_false : (b : Bool) → (b || false) ≡ b
or_false true = refl
or_false false = refl

pub or_true : (b : Bool) → (b || true) ≡ true
or_true true = refl
or_true false = refl

pub not_absent : (A : Sets) (p : List Step) (t : Tag) → or_absent_if false A p t ≡ A p t
not_absent A [] t = or_false (A [] t)
not_absent A (s ∷ p) t = refl

enough : (k a x : Bool) → a ≡ true → ((k || (a && x)) || x) ≡ ((k || (a && x)) || false)
enough true a x is = refl
enough false true true is = refl
enough false true false is = refl
enough false false x is = absurd (true≢false (sym is))

already : (a b : Bool) (A : Sets) → (b ≡ false → a ≡ true) → (p : List Step) (t : Tag) → or_absent_if true (or_absent_if a A) p t ≡ or_absent_if b (or_absent_if a A) p t
already a true A may p t = refl
already a false A may [] t = enough (A [] t) a (same_tag t tag.Absent) (may refl)
already a false A may (s ∷ p) t = refl

-- what may be absent anyhow may be so once more
pub absent_already : (spot : Spot) (b : Bool) → (b ≡ false → spot.absent ≡ true) → (p : List Step) (t : Tag) → or_absent_if true (spot_sets spot) p t ≡ or_absent_if b (spot_sets spot) p t
absent_already spot b may p t = already spot.absent b (bare_sets spot.bare) may p t

-- what isn't told to be alone, though it is asked, is alone
pub alone_first : (a b : Bool) → not (a && b) ≡ false → a ≡ true
alone_first true b is = refl
alone_first false b is = absurd (true≢false is)

pub turned : (a b c : Bool) → ((a || b) || c) ≡ ((a || c) || b)
turned true b c = refl
turned false true true = refl
turned false true false = refl
turned false false c = sym (or_false c)
