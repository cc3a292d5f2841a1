-- That stores go on fitting what is known of them.
use Rattle.std.proofs.Common.{◌≡◌, ◌⊎◌, inl, inr, ℕ, bytes_eq, Bool, true, false, ◌||◌, List, [], ◌∷◌, Option, Some, None, IfSome, IsTrue, is_some, MatchOption, unwrap_or, refl, sym, ap, ◌∙◌, subst}
use Rattle.std.proofs.lemmas.Bool.{true≢false}
use Rattle.std.specs.FinMap as map
use Rattle.std.specs.FinSet as set
use Rattle.std.specs.List.{list_any}
use Rattle.std.specs.Option.{IsSome}
use Rattle.vrl_value.specs.Look.{raw_at, tag_found}
use Rattle.vrl_value.specs.Tree.{Tree, null}
use Rattle.vrl_value.specs.declared.value.Tag.{Tag}
use Rattle.vrl_path.specs.declared.path.Step.{Step}
use Rattle.vrl_syntax.specs.declared.root.Root.{Root}
use Rattle.vrl_syntax.specs.declared.root.Root.TheVariants.{Event, Name}
use Rattle.vrl_kind.specs.Canonical.{any_kind}
use Rattle.vrl_kind.specs.Cut.{IsCut}
use Rattle.vrl_kind.specs.KindTree.{KindTree}
use Rattle.vrl_kind.specs.Kinds.{tags_at, Inhabits}
use Rattle.vrl_kind.specs.Laws.{AnyHoldsAll, CutsAreWider, WiderKindsHoldMore}
use Rattle.vrl_kind.specs.Tags.{Tags}
use Rattle.vrl_place.specs.Laws.{NothingRemovedIsOfTheKind, RemovalsAreOfTheirKind, WritesAreOfTheirKind}
use Rattle.vrl_state.specs.Known.{listed_kind, IsCutIf}
use Rattle.vrl_state.specs.Laws.{BlocksKeepFits, BlocksKeepHeldNames, CutsHoldTheAllowed, EitherHoldsBoth, JoinsKeepFits, JoinsKeepHeldNames, RemovalsKeepFits, ReplacingKeepsFits, StartsFit, WithinKeepsFits, WritesKeepFits}
use Rattle.vrl_state.specs.States.{either, kept, kind_of, with_kind, written_from, HasNow, IsEitherMap, IsEitherVariable, IsLeftKind, IsVariableWithin, IsWrittenKind, RootMap, Scope}
use Rattle.vrl_path.specs.Remove.{removable_at, IsRemoved}
use Rattle.vrl_path.specs.Write.{IsSet}
use Rattle.vrl_state.specs.Stores.{store_back, value_of, with_value, FitsKind, FitsKnown, FitsMap, HidesOf, HoldsNames, IsStoreTakenOut, IsWithout, Store}
use Rattle.vrl_state.specs.declared.known.Known.TheVariants.{Alive, Dead}
use Rattle.vrl_state.proofs.Finite.{at_kept, at_name, at_other, by_name}
use Rattle.vrl_state.proofs.Behind.{at_behind, fits_behind, value_behind}

cut_holds : CutsAreWider → WiderKindsHoldMore → (v : Tree) (K M : KindTree) → IsCut K M → Inhabits v K → Inhabits v M
cut_holds wider more v K M c = more v K M (wider K M c)

allowed_as : (found : Option Tag) (S T : Tags) → ((t : Tag) → T t ≡ S t) → IfSome found (λ t. IsTrue (S t)) → IfSome found (λ t. IsTrue (T t))
allowed_as None S T same h = tt
allowed_as (Some t) S T same h = same t ∙ h

pub cut_holds_allowed : CutsAreWider → WiderKindsHoldMore → CutsHoldTheAllowed
cut_holds_allowed wider more v A M c h = cut_holds wider more v c.whole M c.cut (λ p. allowed_as (tag_found (raw_at v p)) (A p) (tags_at c.whole p) (c.tags p) (h p))

first_allowed : (found : Option Tag) (S T : Tags) → IfSome found (λ t. IsTrue (S t)) → IfSome found (λ t. IsTrue (S t || T t))
first_allowed None S T h = tt
first_allowed (Some t) S T h = ap (λ b. b || T t) h

or_second : (a b : Bool) → b ≡ true → (a || b) ≡ true
or_second true b h = refl
or_second false b h = h

second_allowed : (found : Option Tag) (S T : Tags) → IfSome found (λ t. IsTrue (T t)) → IfSome found (λ t. IsTrue (S t || T t))
second_allowed None S T h = tt
second_allowed (Some t) S T h = or_second (S t) (T t) h

pub either_holds : CutsHoldTheAllowed → EitherHoldsBoth
either_holds holds v K L M c (inl h) = holds v (either K L) M c (λ p. first_allowed (tag_found (raw_at v p)) (tags_at K p) (tags_at L p) (h p))
either_holds holds v K L M c (inr h) = holds v (either K L) M c (λ p. second_allowed (tag_found (raw_at v p)) (tags_at K p) (tags_at L p) (h p))

-- ---- joins

side_fits : EitherHoldsBoth → (v : Option Tree) (K L M : Option KindTree) → IsEitherVariable K L M → FitsKind v K ⊎ FitsKind v L → FitsKind v M
side_fits holds v None L M is h = subst (FitsKind v) (sym is) tt
side_fits holds v (Some K) None M is h = subst (FitsKind v) (sym is) tt
side_fits holds v (Some K) (Some L) None is h = tt
side_fits holds None (Some K) (Some L) (Some M) is (inl h) = absurd h
side_fits holds None (Some K) (Some L) (Some M) is (inr h) = absurd h
side_fits holds (Some v) (Some K) (Some L) (Some M) is h = holds v K L M is h

first_map : EitherHoldsBoth → (store : Store) (a b c : RootMap) → IsEitherMap a b c → FitsMap store a → FitsMap store c
first_map holds store a b c is fits = record {
  event = holds store.event a.event b.event c.event is.event (inl fits.event);
  variables = λ x. side_fits holds (map.get store.variables x) (map.get a.variables x) (map.get b.variables x) (map.get c.variables x) (is.variables x) (inl (fits.variables x));
}

second_map : EitherHoldsBoth → (store : Store) (a b c : RootMap) → IsEitherMap a b c → FitsMap store b → FitsMap store c
second_map holds store a b c is fits = record {
  event = holds store.event a.event b.event c.event is.event (inr fits.event);
  variables = λ x. side_fits holds (map.get store.variables x) (map.get a.variables x) (map.get b.variables x) (map.get c.variables x) (is.variables x) (inr (fits.variables x));
}

-- what fits either side of a join fits the join
pub joins_fit : EitherHoldsBoth → JoinsKeepFits
joins_fit holds None b c store is (inl fits) = absurd fits
joins_fit holds None b c store is (inr fits) = subst (FitsKnown store) (sym is) fits
joins_fit holds (Some a) None c store is (inl fits) = subst (FitsKnown store) (sym is) fits
joins_fit holds (Some a) None c store is (inr fits) = absurd fits
joins_fit holds (Some a) (Some b) None store is fits = absurd is
joins_fit holds (Some a) (Some b) (Some c) store is (inl fits) = first_map holds store a b c is fits
joins_fit holds (Some a) (Some b) (Some c) store is (inr fits) = second_map holds store a b c is fits

-- ---- lists that are taken over

cut_fits : CutsAreWider → WiderKindsHoldMore → (v : Option Tree) (K M : Option KindTree)
    → IsCutIf K M → FitsKind v K → FitsKind v M
cut_fits wider more v None M is h = subst (FitsKind v) (sym is) tt
cut_fits wider more v (Some K) None is h = absurd is
cut_fits wider more None (Some K) (Some M) is h = absurd h
cut_fits wider more (Some v) (Some K) (Some M) is h = cut_holds wider more v K M is h

-- what fits a list fits what is known once it is taken over
pub replacing_fits : CutsAreWider → WiderKindsHoldMore → ReplacingKeepsFits
replacing_fits wider more Dead after store is fits = absurd fits
replacing_fits wider more (Alive listed) None store is fits = absurd is
replacing_fits wider more (Alive listed) (Some roots) store is fits = record {
  event = cut_fits wider more (Some store.event) (listed_kind Event listed) (Some roots.event) (is Event) (fits Event);
  variables = λ x.
      cut_fits wider more (map.get store.variables x) (listed_kind (Name x) listed) (map.get roots.variables x) (is (Name x)) (fits (Name x));
}

-- ---- one root

fits_root : (root : Root) (store : Store) (roots : RootMap) → FitsMap store roots → FitsKind (value_of root store) (kind_of root roots)
fits_root Event store roots fits = fits.event
fits_root (Name x) store roots fits = fits.variables x

-- a root with a new value and its new kind
pub fits_with : (root : Root) (store : Store) (roots : RootMap) (v : Tree) (K : KindTree) → FitsMap store roots → Inhabits v K → FitsMap (with_value root v store) (with_kind root K roots)
fits_with Event store roots v K fits h = record { event = h; variables = fits.variables }
fits_with (Name x) store roots v K fits h =
    record {
      event = fits.event;
      variables = by_name (λ y. FitsKind (map.get (map.insert store.variables x v) y) (map.get (map.insert roots.variables x K) y)) x
          (rw (at_name store.variables x v, at_name roots.variables x K) h)
          (λ y other. rw (at_other store.variables x v y other, at_other roots.variables x K y other) (fits.variables y));
    }

any_fits : (v : Option Tree) (K : Option KindTree) → K ≡ None → FitsKind v K
any_fits v K none = subst (FitsKind v) (sym none) tt

-- a root that isn't known may have any value
pub fits_unknown : (root : Root) (store : Store) (roots : RootMap) (v : Tree) → kind_of root roots ≡ None → FitsMap store roots → FitsMap (with_value root v store) roots
fits_unknown Event store roots v none fits = cc
fits_unknown (Name x) store roots v none fits =
    record {
      event = fits.event;
      variables = by_name (λ y. FitsKind (map.get (map.insert store.variables x v) y) (map.get roots.variables y)) x
          (any_fits _ (map.get roots.variables x) none)
          (λ y other. rw (at_other store.variables x v y other) (fits.variables y));
    }

-- ---- writes and removals

-- the value of a root, known or not, with another set in it
set_holds : AnyHoldsAll → CutsAreWider → WiderKindsHoldMore → WritesAreOfTheirKind → (v : Option Tree) (K : Option KindTree) (p : List Step) (N M : KindTree) (n w : Tree)
    → IsWrittenKind (written_from K) p N M → FitsKind v K → Inhabits n N → IsSet (unwrap_or v null) p n w → Inhabits w M
set_holds any wider more writes v None p N M n w c h new set = cut_holds wider more w c.whole M c.cut (writes (unwrap_or v null) n w p any_kind N c.whole c.write (any (unwrap_or v null)) new set)
set_holds any wider more writes None (Some K) p N M n w c h new set = absurd h
set_holds any wider more writes (Some v) (Some K) p N M n w c h new set = cut_holds wider more w c.whole M c.cut (writes v n w p K N c.whole c.write h new set)

pub writes_fit : AnyHoldsAll → CutsAreWider → WiderKindsHoldMore → WritesAreOfTheirKind → WritesKeepFits
writes_fit any wider more writes root p N value None known' before after is fits new written = absurd fits
writes_fit any wider more writes root p N value (Some roots) known' before after is fits new written =
    let here = set_holds any wider more writes (value_of root before) (kind_of root roots) p N is.0 value written.value is.1 (fits_root root before roots fits) new written.set in
    subst (FitsKnown after) (sym is.2) (subst (λ s. FitsMap s (with_kind root is.0 roots)) (sym written.store) (fits_with root before roots written.value is.0 fits here))

-- what holds of a value without a part
without_inhabits : (v w : Tree) (p : List Step) (K M : KindTree) → ((u : Tree) → Inhabits u K → removable_at u p ≡ None → Inhabits u M) → ((u t : Tree) → Inhabits u K → IsSome (removable_at u p) → IsRemoved u p t → Inhabits t M)
    → Inhabits v K → IsWithout v p w → Inhabits w M
without_inhabits v w [] K M same less h is = subst (λ t. Inhabits t M) (sym is) (same v h refl)
without_inhabits v w (s ∷ r) K M same less h is = by_found (removable_at v (s ∷ r)) refl is where
  by_found : (o : Option Tree) → removable_at v (s ∷ r) ≡ o → MatchOption o (w ≡ v) (λ t. IsRemoved v (s ∷ r) w) → Inhabits w M
  by_found None none is = subst (λ t. Inhabits t M) (sym is) (same v h none)
  by_found (Some t) some is = less v w h (subst IsSome (sym some) refl) is

fits_taken_out : (root : Root) (p : List Step) (before after : Store) (roots : RootMap) (K M : KindTree) → kind_of root roots ≡ Some K
    → ((u : Tree) → Inhabits u K → removable_at u p ≡ None → Inhabits u M) → ((u t : Tree) → Inhabits u K → IsSome (removable_at u p) → IsRemoved u p t → Inhabits t M)
    → FitsMap before roots → IsStoreTakenOut root p before after → FitsMap after (with_kind root M roots)
fits_taken_out root p before after roots K M known same less fits taken = by_value (value_of root before) refl taken where
  by_value : (o : Option Tree) → value_of root before ≡ o → MatchOption o (after ≡ before) (λ v. (w : Tree) × IsWithout v p w × (after ≡ with_value root w before)) → FitsMap after (with_kind root M roots)
  by_value None lacks taken = absurd (subst (λ o. FitsKind o (Some K)) lacks (subst (FitsKind (value_of root before)) known (fits_root root before roots fits)))
  by_value (Some v) has taken =
      let h : Inhabits v K = subst (λ o. FitsKind o (Some K)) has (subst (FitsKind (value_of root before)) known (fits_root root before roots fits)) in
      subst (λ s. FitsMap s (with_kind root M roots)) (sym taken.2) (fits_with root before roots taken.0 M fits (without_inhabits v taken.0 p K M same less h taken.1))

fits_passed_over : (root : Root) (p : List Step) (before after : Store) (roots : RootMap) → kind_of root roots ≡ None → FitsMap before roots → IsStoreTakenOut root p before after → FitsMap after roots
fits_passed_over root p before after roots unknown fits taken = by_value (value_of root before) taken where
  by_value : (o : Option Tree) → MatchOption o (after ≡ before) (λ v. (w : Tree) × IsWithout v p w × (after ≡ with_value root w before)) → FitsMap after roots
  by_value None taken = subst (λ s. FitsMap s roots) (sym taken) fits
  by_value (Some v) taken = subst (λ s. FitsMap s roots) (sym taken.2) (fits_unknown root before roots taken.0 unknown fits)

pub removals_fit : CutsAreWider → WiderKindsHoldMore → RemovalsAreOfTheirKind → NothingRemovedIsOfTheKind → RemovalsKeepFits
removals_fit wider more removals nothing root p None known' before after is fits taken = absurd fits
removals_fit wider more removals nothing root p (Some roots) known' before after is fits taken = by_kind (kind_of root roots) refl is where
  by_kind : (k : Option KindTree) → kind_of root roots ≡ k → MatchOption k (known' ≡ Some roots) (λ K. HasNow root (IsLeftKind K p) roots known') → FitsKnown after known'
  by_kind None unknown same = subst (FitsKnown after) (sym same) (fits_passed_over root p before after roots unknown fits taken)
  by_kind (Some K) known now =
      let M = now.0 in
      let c = now.1 in
      subst (FitsKnown after) (sym now.2) (fits_taken_out root p before after roots K M known
      (λ u old none. cut_holds wider more u c.whole M c.cut (nothing u p K c.whole c.removal old none))
      (λ u t old some removed. cut_holds wider more t c.whole M c.cut (removals u t p K c.whole c.removal old some removed))
      fits taken)

-- ---- order

variable_fits : WiderKindsHoldMore → (v : Option Tree) (K L : Option KindTree) → IsVariableWithin K L → FitsKind v K → FitsKind v L
variable_fits more v K None is fits = tt
variable_fits more v None (Some L) is fits = absurd is
variable_fits more None (Some K) (Some L) is fits = absurd fits
variable_fits more (Some v) (Some K) (Some L) is fits = more v K L is fits

-- what fits the narrower fits the wider
pub within_fits : WiderKindsHoldMore → WithinKeepsFits
within_fits more None b store fits is = absurd fits
within_fits more (Some a) None store fits is = absurd is
within_fits more (Some a) (Some b) store fits is = record {
  event = more store.event a.event b.event is.event fits.event;
  variables = λ x. variable_fits more (map.get store.variables x) (map.get a.variables x) (map.get b.variables x) (is.variables x) (fits.variables x);
}

-- ---- scopes

fits_kept : (scope : Scope) (names : List (List ℕ)) (before after : Store) (roots : RootMap) → HidesOf scope names → HoldsNames before scope → FitsMap after roots → FitsMap (store_back names before after) (kept scope roots)
fits_kept scope names before after roots hides holds fits = record {
  event = fits.event;
  variables = λ x. rw (value_behind names before.variables (map.retain_keys after.variables (λ y. map.contains_key before.variables y)) x, at_kept after.variables (λ y. map.contains_key before.variables y) x, at_behind scope roots.variables x)
      (fits_behind (map.get scope.hidden x) (list_any (bytes_eq x) names) (set.contains scope.known x) (map.get before.variables x) (map.get after.variables x) (map.get roots.variables x)
      (hides x) (holds.known x) (holds.hidden x) (fits.variables x));
}

-- behind a scope only its names are held and known, and hidden ones have what they had
pub blocks_fit : BlocksKeepFits
blocks_fit scope names None before after hides holds fits = fits
blocks_fit scope names (Some roots) before after hides holds fits = fits_kept scope names before after roots hides holds fits

is_held : (v : Option Tree) (K : Option KindTree) → FitsKind v K → is_some K ≡ true → is_some v ≡ true
is_held v None fits known = absurd (true≢false (sym known))
is_held None (Some K) fits known = absurd fits
is_held (Some v) (Some K) fits known = refl

hidden_held : (v : Option Tree) (hidden K : Option KindTree) → IfSome hidden (λ L. K ≡ Some L) → FitsKind v K → FitsKind v hidden
hidden_held v None K is fits = tt
hidden_held v (Some L) K is fits = subst (FitsKind v) is fits

-- what is known is held
pub names_held : BlocksKeepHeldNames
names_held scope None store begins fits = absurd fits
names_held scope (Some roots) store begins fits = record {
  known = λ x keeps. is_held (map.get store.variables x) (map.get roots.variables x) (fits.variables x) (sym (begins.names x) ∙ keeps);
  hidden = λ x. hidden_held (map.get store.variables x) (map.get scope.hidden x) (map.get roots.variables x) (begins.hidden x) (fits.variables x);
}

-- what is held in either scope is held in their join
pub joins_held : EitherHoldsBoth → JoinsKeepHeldNames
joins_held holds s t u store same is (inl h) = record {
  known = λ x knows. h.known x (subst (λ names. IsTrue (set.contains names x)) is.known knows);
  hidden = λ x. side_fits holds (map.get store.variables x) (map.get s.hidden x) (map.get t.hidden x) (map.get u.hidden x) (is.hidden x) (inl (h.hidden x));
}
joins_held holds s t u store same is (inr h) = record {
  known = λ x knows. h.known x (subst (λ names. IsTrue (set.contains names x)) (is.known ∙ sym same) knows);
  hidden = λ x. side_fits holds (map.get store.variables x) (map.get s.hidden x) (map.get t.hidden x) (map.get u.hidden x) (is.hidden x) (inr (h.hidden x));
}

pub starts_fit : CutsAreWider → WiderKindsHoldMore → StartsFit
starts_fit wider more K state store start h =
    let roots = start.roots in
    subst (FitsKnown store) (sym start.known) record {
      event = cut_holds wider more store.event K roots.event start.event h;
      variables = λ x. any_fits _ (map.get roots.variables x) (ap (λ m. map.get m x) start.variables ∙ map.get-empty _ x);
    }
