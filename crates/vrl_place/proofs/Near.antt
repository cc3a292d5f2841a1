-- The stretches of a path and its near steps, one by one, and what is written or removed at the near path.
use Rattle.std.proofs.Common.{◌≡◌, ℕ, zero, suc, ◌<◌, ◌≤◌, ◌+◌, List, [], ◌∷◌, ◌++◌, length, take, get_or, refl, sym, ap, ◌∙◌, subst, arith}
use Rattle.std.proofs.lemmas.List.{length-take, take_all}
use Rattle.vrl_path.specs.declared.path.Step.{Step as CodeStep}
use Rattle.vrl_kind.specs.Canonical.{IsCanonical}
use Rattle.vrl_kind.specs.Cut.{IsCut}
use Rattle.vrl_kind.specs.KindTree.{KindTree}
use Rattle.vrl_kind.specs.Kinds.{tags_at}
use Rattle.vrl_kind.specs.Stretch.{stretched}
use Rattle.vrl_kind.specs.declared.stretch.Stretch.{Stretch}
use Rattle.vrl_kind.proofs.Stretching.{canonical_stretched, tags_back}
use Rattle.vrl_place.specs.Far.{near_step, near_steps, AreLevels, AreStretchesOf, IsLevel, IsRemovedCut, IsStretchOf, IsWrittenCut}
use Rattle.vrl_place.specs.Remove.{IsRemoval}
use Rattle.vrl_place.specs.Write.{IsWrite}
use Rattle.vrl_place.proofs.FarRemovals.{far_removal}
use Rattle.vrl_place.proofs.FarWrites.{back, far_write}
use Rattle.vrl_place.proofs.Levels.{levels_blunt}
use Rattle.vrl_place.proofs.Same.{one_sets}

-- ---- step by step

pub as_many : (p : List CodeStep) (zs : List Stretch) → AreStretchesOf p zs → length p ≡ length zs
as_many [] [] are = refl
as_many [] (z ∷ zs) are = absurd are
as_many (s ∷ p) [] are = absurd are
as_many (s ∷ p) (z ∷ zs) are = ap suc (as_many p zs are.1)

stretches_next : (p : List CodeStep) (zs : List Stretch) (i : ℕ) (s : CodeStep) (z : Stretch) → i < length p
    → s ≡ get_or p i s → IsStretchOf s z
    → AreStretchesOf (take i p) zs → AreStretchesOf (take (suc i) p) (zs ++ z ∷ [])
stretches_next [] zs i s z below is stretch are = absurd (omega (arith, below))
stretches_next (x ∷ p) [] zero s z below is stretch are = (subst (λ t. IsStretchOf t z) is stretch, tt)
stretches_next (x ∷ p) (y ∷ zs) zero s z below is stretch are = absurd are
stretches_next (x ∷ p) [] (suc i) s z below is stretch are = absurd are
stretches_next (x ∷ p) (y ∷ zs) (suc i) s z below is stretch are =
    (are.0, stretches_next p zs i s z (omega (arith, below)) is stretch are.1)

levels_next : (d e : ℕ) (zs : List Stretch) (z : Stretch) (K : KindTree) → e ≡ d + length zs → IsLevel e z K
    → AreLevels d zs K → AreLevels d (zs ++ z ∷ []) K
levels_next d e [] z K is level levels = (subst (λ n. IsLevel n z K) (omega (arith, is)) level, tt)
levels_next d e (y ∷ zs) z K is level levels =
    (levels.0, levels_next (suc d) e zs z K (omega (arith, is)) level levels.1)

-- the stretches of the first steps are those of their levels
abbrev pub AreFirst : ℕ → List CodeStep → List Stretch → KindTree → Type 0
AreFirst i p zs K = AreStretchesOf (take i p) zs × AreLevels 0 zs K

pub first_on : (p : List CodeStep) (zs ys : List Stretch) (i next : ℕ) (s : CodeStep) (z : Stretch) (K : KindTree)
    → next ≡ suc i → i < length p → s ≡ get_or p i s → IsStretchOf s z → IsLevel i z K
    → ys ≡ zs ++ z ∷ [] → AreFirst i p zs K → AreFirst next p ys K
first_on p zs ys i next s z K e below is stretch level pushed are =
    let many : i ≡ 0 + length zs = omega (arith, below, length-take i p, as_many (take i p) zs are.0) in
    let first : AreStretchesOf (take (suc i) p) (zs ++ z ∷ []) = stretches_next p zs i s z below is stretch are.0 in
    let second : AreLevels 0 (zs ++ z ∷ []) K = levels_next 0 i zs z K many level are.1 in
    subst (λ n. AreFirst n p ys K) (sym e) (subst (λ xs. AreFirst (suc i) p xs K) (sym pushed) (first, second))

pub first_all : (p : List CodeStep) (zs : List Stretch) (i : ℕ) (K : KindTree) → length p ≤ i → AreFirst i p zs K
    → AreStretchesOf p zs × AreLevels 0 zs K
first_all p zs i K above are = (subst (λ q. AreStretchesOf q zs) (take_all i p above) are.0, are.1)

pub stretch_at : (p : List CodeStep) (zs : List Stretch) (i : ℕ) (s : CodeStep) (none : Stretch) → AreStretchesOf p zs
    → i < length p → s ≡ get_or p i s
    → IsStretchOf s (get_or zs i none)
stretch_at [] zs i s none are below is = absurd (omega (arith, below))
stretch_at (x ∷ p) [] i s none are below is = absurd are
stretch_at (x ∷ p) (y ∷ zs) zero s none are below is = subst (λ t. IsStretchOf t y) (sym is) are.0
stretch_at (x ∷ p) (y ∷ zs) (suc i) s none are below is = stretch_at p zs i s none are.1 (omega (arith, below)) is

near_next : (p : List CodeStep) (zs : List Stretch) (i : ℕ) (s : CodeStep) (none : Stretch) → AreStretchesOf p zs
    → i < length p → s ≡ get_or p i s
    → near_steps (take (suc i) zs) (take (suc i) p)
    ≡ near_steps (take i zs) (take i p) ++ near_step (get_or zs i none) s ∷ []
near_next [] zs i s none are below is = absurd (omega (arith, below))
near_next (x ∷ p) [] i s none are below is = absurd are
near_next (x ∷ p) (y ∷ zs) zero s none are below is = ap (λ t. near_step y t ∷ []) (sym is)
near_next (x ∷ p) (y ∷ zs) (suc i) s none are below is =
    ap (λ q. near_step y x ∷ q) (near_next p zs i s none are.1 (omega (arith, below)) is)

pub near_on : (p before after : List CodeStep) (zs : List Stretch) (i next : ℕ) (s t : CodeStep) (none : Stretch)
    → AreStretchesOf p zs → next ≡ suc i → i < length p → s ≡ get_or p i s
    → t ≡ near_step (get_or zs i none) s → after ≡ before ++ t ∷ [] → before ≡ near_steps (take i zs) (take i p)
    → after ≡ near_steps (take next zs) (take next p)
near_on p before after zs i next s t none are e below is near pushed done =
    pushed
    ∙ ap (λ q. q ++ t ∷ []) done
    ∙ ap (λ u. near_steps (take i zs) (take i p) ++ u ∷ []) near
    ∙ sym (near_next p zs i s none are below is)
    ∙ ap (λ n. near_steps (take n zs) (take n p)) (sym e)

pub near_all : (p all : List CodeStep) (zs : List Stretch) (i : ℕ) → AreStretchesOf p zs → length p ≤ i
    → all ≡ near_steps (take i zs) (take i p) → all ≡ near_steps zs p
near_all p all zs i are above done =
    let few : length zs ≤ i = omega (arith, above, as_many p zs are) in
    done ∙ ap (λ ys. near_steps ys (take i p)) (take_all i zs few) ∙ ap (near_steps zs) (take_all i p above)

-- ---- the write and the removal

-- the kind that is written at the near path, with longer arrays, is that written at the path
pub written_far : (path near steps : List CodeStep) (zs xs ys : List Stretch) (K L new N M : KindTree)
    → AreStretchesOf path zs → AreLevels 0 zs K → xs ≡ zs → near ≡ near_steps xs path → steps ≡ near → L ≡ K
    → IsWrite (tags_at L) steps (tags_at new) (tags_at N)
    → IsCanonical N → ys ≡ zs → IsCut (stretched ys N) M → IsWrittenCut K path new M
written_far path near steps zs xs ys K L new N M are levels first is second copy written form third small =
    let same : steps ≡ near_steps zs path = second ∙ is ∙ ap (λ ws. near_steps ws path) first in
    let at_near : IsWrite (tags_at K) (near_steps zs path) (tags_at new) (tags_at N) =
    subst (λ J. IsWrite (tags_at J) (near_steps zs path) (tags_at new) (tags_at N)) copy
    (subst (λ q. IsWrite (tags_at L) q (tags_at new) (tags_at N)) same written) in
    let far : IsWrite (tags_at K) path (tags_at new) (back zs (tags_at N)) =
    far_write path zs (tags_at K) (tags_at new) (tags_at N) are (levels_blunt zs K levels) at_near in
    record {
      whole = stretched zs N;
      canonical = canonical_stretched zs N form;
      write = subst (λ B. IsWrite (tags_at K) path (tags_at new) B)
          (sym (one_sets (tags_at (stretched zs N)) (back zs (tags_at N)) (λ p t. tags_back zs N p t))) far;
      cut = subst (λ ws. IsCut (stretched ws N) M) third small;
    }

-- the kind that a removal at the near path leaves, with longer arrays, is that of the removal at the path
pub removed_far : (path near steps : List CodeStep) (zs xs ys : List Stretch) (K L N M : KindTree)
    → AreStretchesOf path zs → AreLevels 0 zs K → xs ≡ zs → near ≡ near_steps xs path → steps ≡ near → L ≡ K
    → IsRemoval (tags_at L) steps (tags_at N) → IsCanonical N → ys ≡ zs → IsCut (stretched ys N) M
    → IsRemovedCut K path M
removed_far path near steps zs xs ys K L N M are levels first is second copy left form third small =
    let same : steps ≡ near_steps zs path = second ∙ is ∙ ap (λ ws. near_steps ws path) first in
    let at_near : IsRemoval (tags_at K) (near_steps zs path) (tags_at N) =
    subst (λ J. IsRemoval (tags_at J) (near_steps zs path) (tags_at N)) copy
    (subst (λ q. IsRemoval (tags_at L) q (tags_at N)) same left) in
    let far : IsRemoval (tags_at K) path (back zs (tags_at N)) =
    far_removal path zs (tags_at K) (tags_at N) are (levels_blunt zs K levels) at_near in
    record {
      whole = stretched zs N;
      canonical = canonical_stretched zs N form;
      removal = subst (λ B. IsRemoval (tags_at K) path B)
          (sym (one_sets (tags_at (stretched zs N)) (back zs (tags_at N)) (λ p t. tags_back zs N p t))) far;
      cut = subst (λ ws. IsCut (stretched ws N) M) third small;
    }
