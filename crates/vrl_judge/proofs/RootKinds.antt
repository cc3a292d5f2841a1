-- The kinds that a judgement names can be those of roots: they are within the limits, and never absent.
use Rattle.std.proofs.Common.{◌≡◌, ◌≢◌, ℕ, pos, negsuc, inl, inr, Bool, true, false, ◌||◌, ◌&&◌, List, [], ◌∷◌, refl, sym, ap, ◌∙◌, subst, arith}
use Rattle.std.proofs.lemmas.Bool.{true≢false}
use Rattle.vrl_value.specs.Look.{Step, field, place}
use Rattle.vrl_value.specs.Tree.{Tree, string, integer, boolean, null, timestamp, regex, array, object}
use Rattle.vrl_value.specs.declared.value.Tag.{Tag}
use Rattle.vrl_path.specs.declared.path.Step.TheVariants.{Field, Place}
use Rattle.vrl_kind.specs.Canonical.{any_kind, never_kind}
use Rattle.vrl_kind.specs.Cut.{IsCut}
use Rattle.vrl_kind.specs.KindTree.{KindTree}
use Rattle.vrl_kind.specs.Kinds.{found_at, root_tags, tags_at}
use Rattle.vrl_kind.specs.Overlay.{overlaid_at}
use Rattle.vrl_kind.specs.Tags.{Tags, only, same_tag}
use Rattle.vrl_place.specs.Read.{Allowed, allowed, read, read_step}
use Rattle.vrl_place.specs.Sets.{is_alone}
use Rattle.vrl_state.specs.States.{IsCutOf, IsEither, IsPresent, IsRootKind}
use Rattle.vrl_judge.specs.Rules.{array_at, object_at, or_else_at, scalars_at, settled_kind, table_tags, IsMerged, IsMergedIf, IsReadAt, IsScalar}
use Rattle.vrl_judge.specs.Judging.{table_rule}
use Rattle.vrl_judge.specs.declared.tables.Table.{Table}
use Rattle.vrl_state.proofs.Limits.{cut_root, sets_root}
use Rattle.vrl_judge.proofs.Scalars.{absent_unlisted}
use Rattle.vrl_value.specs.declared.value.Tag.TheVariants as tag
use Rattle.vrl_path.specs.declared.path.Step as steps

-- ---- what stays, every kind, and none

-- a root's kind stays as it is
pub kept_root : (K : KindTree) → IsRootKind K → IsCut K K
kept_root K is = record { kept = λ few low. refl; too_many = λ many. absurd (omega (arith, many, is.nodes)); too_deep = λ deep. absurd (omega (arith, deep, is.levels)) }

pub any_root : IsRootKind any_kind
any_root = record { canonical = ((tt, tt, tt), (tt, tt, tt)); present = refl; nodes = omega arith; levels = omega arith }

pub never_root : IsRootKind never_kind
never_root = record { canonical = (tt, tt); present = refl; nodes = omega arith; levels = omega arith }

-- ---- either kind

pub never_allows : (p : List Step) (t : Tag) → tags_at never_kind p t ≡ false
never_allows [] tag.Text = refl
never_allows [] tag.Int = refl
never_allows [] tag.Bool = refl
never_allows [] tag.Null = refl
never_allows [] tag.Time = refl
never_allows [] tag.Pattern = refl
never_allows [] tag.List = refl
never_allows [] tag.Object = refl
never_allows [] tag.Absent = refl
never_allows (field n ∷ p) t = refl
never_allows (place i ∷ p) t = refl

pub or_none : (b : Bool) → b ≡ (b || false)
or_none true = refl
or_none false = refl

-- none beside a root's kind changes nothing
pub either_never : (K : KindTree) → IsRootKind K → IsEither never_kind K K
either_never K is = record {
  whole = K;
  canonical = is.canonical;
  tags = λ p t. ap (λ b. b || tags_at K p t) (sym (never_allows p t));
  cut = kept_root K is;
}

pub never_either : (K : KindTree) → IsRootKind K → IsEither K never_kind K
never_either K is = record {
  whole = K;
  canonical = is.canonical;
  tags = λ p t. or_none (tags_at K p t) ∙ ap (λ b. tags_at K p t || b) (sym (never_allows p t));
  cut = kept_root K is;
}

pub or_turned : (a b : Bool) → (a || b) ≡ (b || a)
or_turned true true = refl
or_turned true false = refl
or_turned false true = refl
or_turned false false = refl

-- the same from either side
pub either_turned : (K L M : KindTree) → IsEither K L M → IsEither L K M
either_turned K L M is = record { whole = is.whole; canonical = is.canonical; tags = λ p t. is.tags p t ∙ or_turned (tags_at K p t) (tags_at L p t); cut = is.cut }

-- the same of equal kinds
pub either_of : (K K' L L' M : KindTree) → K ≡ K' → L ≡ L' → IsEither K L M → IsEither K' L' M
either_of K K' L L' M e f is = subst (λ N. IsEither N L' M) e (subst (λ N. IsEither K N M) f is)

-- ---- reads

pub absent_not_null : tag.Absent ≢ tag.Null
absent_not_null e = cc

pub no_absent_step : (A : Allowed) (s : steps.Step) → read_step A s [] tag.Absent → ⊥
no_absent_step A (Field k) (inl x) = x.0 refl
no_absent_step A (Field k) (inr x) = absent_not_null x.0
no_absent_step A (Place (pos i)) (inl x) = x.0 refl
no_absent_step A (Place (pos i)) (inr x) = absent_not_null x.0
no_absent_step A (Place (negsuc i)) (inl x) = x.0 refl
no_absent_step A (Place (negsuc i)) (inr e) = absent_not_null e

pub no_absent_read : (path : List steps.Step) (A : Allowed) → (A [] tag.Absent → ⊥) → read A path [] tag.Absent → ⊥
no_absent_read [] A none h = none h
no_absent_read (s ∷ path) A none h = no_absent_read path (read_step A s) (no_absent_step A s) h

pub not_true : (b : Bool) → (b ≡ true → ⊥) → b ≡ false
not_true true h = absurd (h refl)
not_true false h = refl

-- what is read at no path of a root's kind is that kind
pub read_whole : (K : KindTree) → IsRootKind K → IsReadAt K [] K
read_whole K is = record { whole = K; canonical = is.canonical; tags = λ p t. (λ h. h, λ h. h); is_cut = kept_root K is }

-- what is read of what is never absent is never absent
pub read_root : (K : KindTree) (path : List steps.Step) (M : KindTree) → IsReadAt K path M → IsPresent K → IsRootKind M
read_root K path M is present =
    cut_root is.whole M is.canonical
    (not_true (tags_at is.whole [] tag.Absent)
    (λ h. no_absent_read path (allowed (tags_at K)) (λ a. true≢false (sym a ∙ present)) ((is.tags [] tag.Absent).0 h)))
    is.is_cut

-- ---- values, arrays and objects

pub value_present : (v : Tree) → found_at v [] tag.Absent ≡ false
value_present (string s) = refl
value_present (integer n) = refl
value_present (boolean b) = refl
value_present null = refl
value_present (timestamp n) = refl
value_present (regex n) = refl
value_present (array ts) = refl
value_present (object ms) = refl

pub value_root : (v : Tree) (K : KindTree) → IsCutOf (found_at v) K → IsRootKind K
value_root v K is = sets_root (found_at v) K is (value_present v)

pub array_root : (Ks : List KindTree) (K : KindTree) → IsCutOf (array_at Ks) K → IsRootKind K
array_root Ks K is = sets_root (array_at Ks) K is refl

pub object_root : (names : List (List ℕ)) (Ks : List KindTree) (K : KindTree) → IsCutOf (object_at names Ks) K → IsRootKind K
object_root names Ks K is = sets_root (object_at names Ks) K is refl

-- ---- scalars

pub scalars_root : (T : Tags) (K : KindTree) → IsCutOf (scalars_at T) K → T tag.Absent ≡ false → IsRootKind K
scalars_root T K is present = sets_root (scalars_at T) K is present

pub scalar_root : (t : Tag) (K : KindTree) → IsScalar t K → same_tag t tag.Absent ≡ false → IsRootKind K
scalar_root t K is present = scalars_root (only t) K is present

pub table_root : (r : Table) (K L M : KindTree) → IsCutOf (scalars_at (table_tags (table_rule r) K L)) M → IsRootKind M
table_root r K L M is = scalars_root (table_tags (table_rule r) K L) M is (absent_unlisted r K L)

-- ---- merges, and the left side of a `||` or the right one

pub merged_root_if : (b : Bool) (K L M : KindTree) → IsMergedIf b K L M → IsRootKind M
merged_root_if true K L M is = sets_root (overlaid_at K L) M is refl
merged_root_if false K L M is = subst IsRootKind (sym is) any_root

pub merged_root : (K L M : KindTree) → IsMerged K L M → IsRootKind M
merged_root K L M is = merged_root_if (is_alone (root_tags K) tag.Object && is_alone (root_tags L) tag.Object) K L M is

pub both_present : (a b : Bool) → a ≡ false → b ≡ false → ((a && true) || b) ≡ false
both_present true b h k = absurd (true≢false h)
both_present false b h k = k

pub or_else_root : (K L M : KindTree) → IsRootKind K → IsRootKind L → IsCutOf (or_else_at K L) M → IsRootKind M
or_else_root K L M k l is = sets_root (or_else_at K L) M is (both_present (tags_at K [] tag.Absent) (tags_at L [] tag.Absent) k.present l.present)

-- ---- what is settled

pub settled_root : (poisoned alive : Bool) (K : KindTree) → IsRootKind K → IsRootKind (settled_kind poisoned alive K)
settled_root true alive K is = any_root
settled_root false true K is = is
settled_root false false K is = never_root
