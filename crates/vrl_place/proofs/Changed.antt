-- The places of an array with one of them changed, and those that move once one is removed.
use Rattle.std.proofs.Common.{◌≡◌, ℕ, zero, suc, ◌<◌, ◌≤◌, Bool, true, false, List, [], ◌∷◌, length, Ordering, Less, Equal, Greater, refl, sym, ap, ◌∙◌, arith, ◌++◌, length-append}
use Rattle.std.proofs.lemmas.Cmp.{ranked}
use Rattle.std.specs.Ordering.{nat_cmp, match_ordering}
use Rattle.vrl_value.specs.Look.{Step}
use Rattle.vrl_value.specs.declared.value.Tag.{Tag}
use Rattle.vrl_kind.specs.KindTree.{KindTree, RestTree}
use Rattle.vrl_kind.specs.Kinds.{places_at, rest_at, tags_at}
use Rattle.vrl_kind.specs.Sets.{Sets, SameSets}
use Rattle.vrl_kind.specs.View.{places_view}
use Rattle.vrl_place.specs.Inner.{ArePlaces, changed_place, lower_place, moved_place, null_if, places_sets, spot_sets}
use Rattle.vrl_place.specs.Sets.{or_absent_if}
use Rattle.vrl_place.specs.declared.places.Places.{Places}
use Rattle.vrl_place.proofs.Orders.{above, below, itself}
use Rattle.vrl_place.proofs.Same.{absent_already, not_absent, one_sets}
use Rattle.vrl_place.proofs.Views.{AreSoFar, more_so_far, place_beyond, places_again}

-- a copy of what stands there, which may be absent too
pub opened_made : (b : Bool) (k s z S : Sets) → SameSets k s → SameSets s (or_absent_if b z) → SameSets z S → SameSets k (or_absent_if b S)
opened_made b k s z S first second third p t = first p t ∙ second p t ∙ ap (λ A. or_absent_if b A p t) (one_sets z S third)

pub lower_made : (f b : Bool) (K k s z S : Sets) → SameSets K (null_if f k) → SameSets k s → SameSets s (or_absent_if b z) → SameSets z S → SameSets K (null_if f (or_absent_if b S))
lower_made f b K k s z S filled first second third p t = filled p t ∙ ap (λ A. null_if f A p t) (one_sets k (or_absent_if b S) (opened_made b k s z S first second third))

pub changed_below : (ps : Places) (k : ℕ) (M : Sets) (b f : Bool) (i : ℕ) → i < k → (p : List Step) (t : Tag) → lower_place ps b f i p t ≡ changed_place ps k M b f i p t
changed_below ps k M b f i under p t = ap (λ o. match_ordering o (lower_place ps b f i) M (or_absent_if b (places_sets ps i)) p t) (sym (below i k under))

pub changed_here : (ps : Places) (k : ℕ) (M : Sets) (b f : Bool) (p : List Step) (t : Tag) → M p t ≡ changed_place ps k M b f k p t
changed_here ps k M b f p t = ap (λ o. match_ordering o (lower_place ps b f k) M (or_absent_if b (places_sets ps k)) p t) (sym (itself k))

pub changed_above : (ps : Places) (k : ℕ) (M : Sets) (b f : Bool) (i : ℕ) → k < i → (p : List Step) (t : Tag) → or_absent_if b (places_sets ps i) p t ≡ changed_place ps k M b f i p t
changed_above ps k M b f i over p t = ap (λ o. match_ordering o (lower_place ps b f i) M (or_absent_if b (places_sets ps i)) p t) (sym (above i k over))

pub moved_below : (ps : Places) (k : ℕ) (b : Bool) (i : ℕ) → i < k → (p : List Step) (t : Tag) → places_sets ps i p t ≡ moved_place ps k b i p t
moved_below ps k b i under p t = ap (λ o. match_ordering o (places_sets ps i) (or_absent_if b (places_sets ps (suc i))) (or_absent_if b (places_sets ps (suc i))) p t) (sym (below i k under))

not_less : (o : Ordering) (X Y : Sets) (i k : ℕ) → k ≤ i → o ≡ nat_cmp i k → (p : List Step) (t : Tag) → Y p t ≡ match_ordering o X Y Y p t
not_less Less X Y i k over is p t = absurd (under (ranked i k Less is))
  where
    under : i < k → ⊥
    under h = omega arith
not_less Equal X Y i k over is p t = refl
not_less Greater X Y i k over is p t = refl

pub moved_above : (ps : Places) (k : ℕ) (b : Bool) (i : ℕ) → k ≤ i → (p : List Step) (t : Tag) → or_absent_if b (places_sets ps (suc i)) p t ≡ moved_place ps k b i p t
moved_above ps k b i over p t = not_less (nat_cmp i k) (places_sets ps i) (or_absent_if b (places_sets ps (suc i))) i k over refl p t

-- what stands behind the known places
pub beyond : (ps : Places) (i : ℕ) → length {A = KindTree} ps.known.now ≤ i → (p : List Step) (t : Tag) → places_sets ps i p t ≡ spot_sets ps.behind p t
beyond ps i over p t = ap (λ T. T t) (place_beyond ps.known.now i p (spot_sets ps.behind p) over)

one_of : (n i : ℕ) (G : Type 0) → (i < n → G) → (n ≤ i → G) → G
one_of zero i G under over = over (omega arith)
one_of (suc n) zero G under over = under (omega arith)
one_of (suc n) (suc i) G under over = one_of n i G (λ h. under (omega (arith, h))) (λ h. over (omega (arith, h)))

-- the places in memory, and the rest behind them, are those of S
pub places_all : (ks : List KindTree) (S : ℕ → Sets) (r : RestTree) → ArePlaces ks S → ((i : ℕ) → length ks ≤ i → SameSets (rest_at r) (S i)) → (i : ℕ) (p : List Step) (t : Tag) → places_at (places_view ks) i p (rest_at r p) t ≡ S i p t
places_all ks S r are behind i p t = one_of (length ks) i (places_at (places_view ks) i p (rest_at r p) t ≡ S i p t)
    (λ under. are.at i under p (rest_at r p) t)
    (λ over. ap (λ T. T t) (place_beyond ks i p (rest_at r p) over) ∙ behind i over p t)

-- the rest behind the places of which one was changed
pub behind_changed : (ps : Places) (k n : ℕ) (M : Sets) (b f : Bool) (r : RestTree) → (b ≡ false → ps.behind.absent ≡ true) → SameSets (rest_at r) (or_absent_if true (spot_sets ps.behind)) → k < n → length {A = KindTree} ps.known.now ≤ n → (i : ℕ) → n ≤ i → SameSets (rest_at r) (changed_place ps k M b f i)
behind_changed ps k n M b f r may rest at known i over p t =
    rest p t ∙ absent_already ps.behind b may p t
    ∙ ap (λ A. or_absent_if b A p t) (sym (one_sets (places_sets ps i) (spot_sets ps.behind) (beyond ps i (omega (arith, over, known)))))
    ∙ changed_above ps k M b f i (omega (arith, at, over)) p t

-- the rest behind the places of which one was removed
pub behind_moved : (ps : Places) (k n : ℕ) (b : Bool) (r : RestTree) → ps.behind.absent ≡ true → SameSets (rest_at r) (or_absent_if true (spot_sets ps.behind)) → n ≡ length {A = KindTree} ps.known.now → (i : ℕ) → n ≤ i → SameSets (rest_at r) (moved_place ps k b i)
behind_moved ps k n b r absent rest known i over p t = one_of k i (rest_at r p t ≡ moved_place ps k b i p t)
    (λ low. rest p t ∙ absent_already ps.behind false (λ is. absent) p t ∙ not_absent (spot_sets ps.behind) p t
    ∙ sym (beyond ps i (omega (arith, over, known)) p t)
    ∙ moved_below ps k b i low p t)
    (λ high. rest p t ∙ absent_already ps.behind b (λ is. absent) p t
    ∙ ap (λ A. or_absent_if b A p t) (sym (one_sets (places_sets ps (suc i)) (spot_sets ps.behind) (beyond ps (suc i) (omega (arith, over, known)))))
    ∙ moved_above ps k b i high p t)

-- the places up to the one that was changed
pub changed_first : (ps : Places) (k : ℕ) (K : KindTree) (b f : Bool) (ks ls : List KindTree) (n : ℕ) → ls ≡ ks ++ K ∷ [] → n ≡ length {A = KindTree} ls → length ks ≡ k → ArePlaces ks (lower_place ps b f) → AreSoFar ls n (changed_place ps k (tags_at K) b f)
changed_first ps k K b f ks ls n e count at are =
    more_so_far ks ls K k n (changed_place ps k (tags_at K) b f) e (count ∙ ap length e ∙ length-append ks (K ∷ []) ∙ omega (arith, at))
    (record { count = at; are = places_again ks (lower_place ps b f) (changed_place ps k (tags_at K) b f) (λ i below p t. changed_below ps k (tags_at K) b f i (omega (arith, below, at)) p t) are })
    (λ p t. changed_here ps k (tags_at K) b f p t)
