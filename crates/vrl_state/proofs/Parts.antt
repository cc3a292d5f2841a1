-- What a walk over a version comes to, from what it comes to at a node and on both sides of it.
use Rattle.std.proofs.Common.{◌≡◌, ℕ, Bool, true, false, cond, not, List, [], ◌∷◌, ◌++◌, Option, Some, None, Less, Equal, Greater, is_eq, is_some, refl, sym, ap, ◌∙◌, subst}
use Rattle.std.proofs.lemmas.Cmp.{nat_list_cmp_total, tied_itself}
use Rattle.std.specs.Cmp.{eq_by_cmp_equiv}
use Rattle.std.specs.FinMap.Entries.{find-put, find-where_key}
use Rattle.std.specs.Ordering.{eq_by_cmp}
use Rattle.vrl_kind.specs.KindTree.{KindTree}
use Rattle.vrl_state.specs.Merging.{kept_if, puts, AreOtherNames, HoldsIf, IsJoinedAt, IsJoinedIf, IsJoinedPart, IsKeptAt, IsKeptPart, IsPartOf}
use Rattle.vrl_state.specs.Ordered.{found, put_entry, without_name, Entry, IsSorted}
use Rattle.vrl_state.specs.States.{IsEitherVariable, IsVariableWithin}
use Rattle.vrl_state.proofs.Cutting.{above_more, below, below_more, cut_at, find_absent, find_here, find_left, find_none, find_right, name_cmp, same_name}

-- ---- a name beside an entry

pub record IsLeft (x : List ℕ) (l : List Entry) (e : Entry) (r : List Entry) : Type 0 where
  pub whole : found x (l ++ e ∷ r) ≡ found x l
  pub right : found x r ≡ None
  pub below : name_cmp x e.0 ≡ Less
  pub other : AreOtherNames x e.0

pub record IsHere (l : List Entry) (e : Entry) (r : List Entry) : Type 0 where
  pub whole : found e.0 (l ++ e ∷ r) ≡ Some e.1
  pub left : found e.0 l ≡ None
  pub right : found e.0 r ≡ None

pub record IsRight (x : List ℕ) (l : List Entry) (e : Entry) (r : List Entry) : Type 0 where
  pub whole : found x (l ++ e ∷ r) ≡ found x r
  pub left : found x l ≡ None
  pub above : name_cmp x e.0 ≡ Greater
  pub other : AreOtherNames x e.0

pub here_at : (l : List Entry) (e : Entry) (r : List Entry) → IsSorted (l ++ e ∷ r) → IsHere l e r
here_at l e r s =
    let cut = cut_at l e r s in
    record { whole = find_here e.0 l e r s (tied_itself nat_list_cmp_total e.0); left = find_absent e.0 l cut.below; right = find_none e.0 r cut.above }

pub found_here : (x : List ℕ) (l : List Entry) (e : Entry) (r : List Entry) → IsSorted (l ++ e ∷ r) → x ≡ e.0 → found x (l ++ e ∷ r) ≡ Some e.1
found_here x l e r s same = ap (λ y. found y (l ++ e ∷ r)) same ∙ (here_at l e r s).whole

pub by_side : (P : List ℕ → Type 0) (l : List Entry) (e : Entry) (r : List Entry) → IsSorted (l ++ e ∷ r) → ((x : List ℕ) → IsLeft x l e r → P x) → P e.0 → ((x : List ℕ) → IsRight x l e r → P x) → (x : List ℕ) → P x
by_side P l e r s left here right x =
    let cut = cut_at l e r s in
    elim (name_cmp x e.0) as (λ o. name_cmp x e.0 ≡ o → P x) [
      | Less ↦ λ p. left x (record { whole = find_left x l e r s p; right = find_none x r (above_more x e.0 r p cut.above); below = p; other = ap is_eq p })
      | Equal ↦ λ p. subst P (sym (same_name x e.0 p)) here
      | Greater ↦ λ p. right x (record { whole = find_right x l e r s p; left = find_absent x l (below_more e.0 x l (below x e.0 p) cut.below); above = p; other = ap is_eq p })
    ] refl

-- ---- what holds of the kinds of a version holds of those of its parts

pub kinds_left : (P : Option KindTree → Type 0) (l : List Entry) (e : Entry) (r : List Entry) → P None → IsSorted (l ++ e ∷ r) → ((x : List ℕ) → P (found x (l ++ e ∷ r))) → (x : List ℕ) → P (found x l)
kinds_left P l e r none s all =
    by_side (λ x. P (found x l)) l e r s (λ x at. subst P at.whole (all x)) (subst P (sym (here_at l e r s).left) none) (λ x at. subst P (sym at.left) none)

pub kinds_here : (P : Option KindTree → Type 0) (l : List Entry) (e : Entry) (r : List Entry) → IsSorted (l ++ e ∷ r) → ((x : List ℕ) → P (found x (l ++ e ∷ r))) → P (Some e.1)
kinds_here P l e r s all = subst P (here_at l e r s).whole (all e.0)

pub kinds_right : (P : Option KindTree → Type 0) (l : List Entry) (e : Entry) (r : List Entry) → P None → IsSorted (l ++ e ∷ r) → ((x : List ℕ) → P (found x (l ++ e ∷ r))) → (x : List ℕ) → P (found x r)
kinds_right P l e r none s all =
    by_side (λ x. P (found x r)) l e r s (λ x at. subst P (sym at.right) none) (subst P (sym (here_at l e r s).right) none) (λ x at. subst P at.whole (all x))

-- ---- order

abbrev pub AreOver : List Entry → List Entry → Type 0
AreOver others part = (x : List ℕ) → IsVariableWithin (found x others) (found x part)

over_none : (K : Option KindTree) → IsVariableWithin K None
over_none K = tt

pub over_parts : (others l : List Entry) (e : Entry) (r : List Entry) → IsSorted (l ++ e ∷ r) → IsVariableWithin (found e.0 others) (Some e.1) → AreOver others l → AreOver others r → AreOver others (l ++ e ∷ r)
over_parts others l e r s here left right =
    by_side (λ x. IsVariableWithin (found x others) (found x (l ++ e ∷ r))) l e r s
    (λ x at. subst (IsVariableWithin (found x others)) (sym at.whole) (left x))
    (subst (IsVariableWithin (found e.0 others)) (sym (here_at l e r s).whole) here)
    (λ x at. subst (IsVariableWithin (found x others)) (sym at.whole) (right x))

pub over_left : (others l : List Entry) (e : Entry) (r : List Entry) → IsSorted (l ++ e ∷ r) → AreOver others (l ++ e ∷ r) → AreOver others l
over_left others l e r s all =
    by_side (λ x. IsVariableWithin (found x others) (found x l)) l e r s
    (λ x at. subst (IsVariableWithin (found x others)) at.whole (all x))
    (subst (IsVariableWithin (found e.0 others)) (sym (here_at l e r s).left) tt)
    (λ x at. subst (IsVariableWithin (found x others)) (sym at.left) tt)

pub over_here : (others l : List Entry) (e : Entry) (r : List Entry) → IsSorted (l ++ e ∷ r) → AreOver others (l ++ e ∷ r) → IsVariableWithin (found e.0 others) (Some e.1)
over_here others l e r s all = subst (IsVariableWithin (found e.0 others)) (here_at l e r s).whole (all e.0)

pub over_right : (others l : List Entry) (e : Entry) (r : List Entry) → IsSorted (l ++ e ∷ r) → AreOver others (l ++ e ∷ r) → AreOver others r
over_right others l e r s all =
    by_side (λ x. IsVariableWithin (found x others) (found x r)) l e r s
    (λ x at. subst (IsVariableWithin (found x others)) (sym at.right) tt)
    (subst (IsVariableWithin (found e.0 others)) (sym (here_at l e r s).right) tt)
    (λ x at. subst (IsVariableWithin (found x others)) at.whole (all x))

-- ---- entries that were put and names that were taken out

pub found_put : (e : Entry) (es : List Entry) → found e.0 (put_entry e es) ≡ Some e.1
found_put e es = find-put name_cmp nat_list_cmp_total e.0 e.0 e.1 es ∙ ap (λ o. cond (is_eq o) (Some e.1) (found e.0 es)) (tied_itself nat_list_cmp_total e.0)

pub found_beside : (x : List ℕ) (e : Entry) (es : List Entry) → AreOtherNames x e.0 → found x (put_entry e es) ≡ found x es
found_beside x e es other = find-put name_cmp nat_list_cmp_total x e.0 e.1 es ∙ ap (λ b. cond b (Some e.1) (found x es)) other

found_kept : (x y : List ℕ) (es : List Entry) → found x (without_name y es) ≡ cond (not (eq_by_cmp name_cmp y x)) (found x es) None
found_kept x y es = find-where_key name_cmp (λ z. not (eq_by_cmp name_cmp y z)) x (λ z tie. ap (λ w. not (eq_by_cmp name_cmp y w)) (sym (same_name x z tie))) es

pub found_taken : (x : List ℕ) (es : List Entry) → found x (without_name x es) ≡ None
found_taken x es = found_kept x x es ∙ ap (λ o. cond (not (is_eq o)) (found x es) None) (tied_itself nat_list_cmp_total x)

pub found_left : (x y : List ℕ) (es : List Entry) → AreOtherNames x y → found x (without_name y es) ≡ found x es
found_left x y es other = found_kept x y es ∙ ap (λ b. cond (not b) (found x es) None) ((eq_by_cmp_equiv nat_list_cmp_total).symm y x ∙ other)

-- ---- joins

pub joined_taken : (e : Entry) (before after : List Entry) → after ≡ without_name e.0 before → IsJoinedAt e None before after
joined_taken e before after is = (ap (found e.0) is ∙ found_taken e.0 before, λ x other. ap (found x) is ∙ found_left x e.0 before other)

pub joined_put : (e : Entry) (L M : KindTree) (before after : List Entry) → IsEitherVariable (Some e.1) (Some L) (Some M) → after ≡ put_entry (e.0, M) before → IsJoinedAt e (Some L) before after
joined_put e L M before after either is =
    (subst (IsEitherVariable (Some e.1) (Some L)) (sym (ap (found e.0) is ∙ found_put (e.0, M) before)) either, λ x other. ap (found x) is ∙ found_beside x (e.0, M) before other)

pub joined_stays : (e : Entry) (L : KindTree) (before after : List Entry) → found e.0 before ≡ Some e.1 → IsEitherVariable (Some e.1) (Some L) (Some e.1) → after ≡ before → IsJoinedAt e (Some L) before after
joined_stays e L before after holds either is =
    (subst (IsEitherVariable (Some e.1) (Some L)) (sym (ap (found e.0) is ∙ holds)) either, λ x other. ap (found x) is)

pub no_part : (K L M N : Option KindTree) → K ≡ None → IsJoinedIf K L M N → N ≡ M
no_part K L M N none is = subst (λ o. IsJoinedIf o L M N) none is

pub part_left : (before l : List Entry) (e : Entry) (r : List Entry) → IsSorted (l ++ e ∷ r) → IsPartOf (l ++ e ∷ r) before → IsPartOf l before
part_left before l e r s part =
    by_side (λ x. HoldsIf (found x l) (found x before)) l e r s
    (λ x at. subst (λ o. HoldsIf o (found x before)) at.whole (part x))
    (subst (λ o. HoldsIf o (found e.0 before)) (sym (here_at l e r s).left) tt)
    (λ x at. subst (λ o. HoldsIf o (found x before)) (sym at.left) tt)

pub part_here : (others before b : List Entry) (l : List Entry) (e : Entry) (r : List Entry) → IsSorted (l ++ e ∷ r) → IsPartOf (l ++ e ∷ r) before → IsJoinedPart l others before b → found e.0 b ≡ Some e.1
part_here others before b l e r s part first =
    let at = here_at l e r s in
    no_part _ (found e.0 others) (found e.0 before) (found e.0 b) at.left (first e.0) ∙ subst (λ o. HoldsIf o (found e.0 before)) at.whole (part e.0)

pub part_right : (others before b c : List Entry) (l : List Entry) (e : Entry) (r : List Entry) → IsSorted (l ++ e ∷ r) → IsPartOf (l ++ e ∷ r) before → IsJoinedPart l others before b → IsJoinedAt e (found e.0 others) b c → IsPartOf r c
part_right others before b c l e r s part first second =
    by_side (λ x. HoldsIf (found x r) (found x c)) l e r s
    (λ x at. subst (λ o. HoldsIf o (found x c)) (sym at.right) tt)
    (subst (λ o. HoldsIf o (found e.0 c)) (sym (here_at l e r s).right) tt)
    (λ x at. subst (HoldsIf (found x r)) (sym (second.1 x at.other ∙ no_part _ (found x others) (found x before) (found x b) at.left (first x)))
    (subst (λ o. HoldsIf o (found x before)) at.whole (part x)))

pub joined_parts : (others before b c after : List Entry) (l : List Entry) (e : Entry) (r : List Entry) → IsSorted (l ++ e ∷ r) → IsJoinedPart l others before b → IsJoinedAt e (found e.0 others) b c → IsJoinedPart r others c after → IsJoinedPart (l ++ e ∷ r) others before after
joined_parts others before b c after l e r s first second third =
    by_side (λ x. IsJoinedIf (found x (l ++ e ∷ r)) (found x others) (found x before) (found x after)) l e r s
    (λ x at.
    let is : found x after ≡ found x b = no_part _ (found x others) (found x c) (found x after) at.right (third x) ∙ second.1 x at.other in
    subst (λ o. IsJoinedIf o (found x others) (found x before) (found x after)) (sym at.whole) (subst (IsJoinedIf (found x l) (found x others) (found x before)) (sym is) (first x)))
    (let at = here_at l e r s in
    let is : found e.0 after ≡ found e.0 c = no_part _ (found e.0 others) (found e.0 c) (found e.0 after) at.right (third e.0) in
    subst (λ o. IsJoinedIf o (found e.0 others) (found e.0 before) (found e.0 after)) (sym at.whole) (subst (IsEitherVariable (Some e.1) (found e.0 others)) (sym is) second.0))
    (λ x at.
    let is : found x c ≡ found x before = second.1 x at.other ∙ no_part _ (found x others) (found x before) (found x b) at.left (first x) in
    subst (λ o. IsJoinedIf o (found x others) (found x before) (found x after)) (sym at.whole) (subst (λ o. IsJoinedIf (found x r) (found x others) o (found x after)) is (third x)))

-- ---- ends of scopes

kept_stays : (b : Bool) (K : Option KindTree) → kept_if b true K ≡ K
kept_stays true K = refl
kept_stays false K = refl

kept_here : (b : Bool) (y : List ℕ) (before after : List Entry) → IsKeptAt b y before after → found y after ≡ cond b (found y before) None
kept_here true y before after is = ap (found y) is
kept_here false y before after is = ap (found y) is ∙ found_taken y before

kept_beside : (b : Bool) (x y : List ℕ) (before after : List Entry) → AreOtherNames x y → IsKeptAt b y before after → found x after ≡ found x before
kept_beside true x y before after other is = ap (found x) is
kept_beside false x y before after other is = ap (found x) is ∙ found_left x y before other

-- of a name that the part lacks all stays
not_part : (names part : List Entry) (before after : List Entry) (x : List ℕ) → found x part ≡ None → IsKeptPart part names before after → found x after ≡ found x before
not_part names part before after x none kept = kept x ∙ ap (λ o. kept_if (is_some o) (is_some (found x names)) (found x before)) none

pub kept_parts : (names before b c after : List Entry) (l : List Entry) (e : Entry) (r : List Entry) → IsSorted (l ++ e ∷ r) → IsKeptPart l names before b → IsKeptAt (is_some (found e.0 names)) e.0 b c → IsKeptPart r names c after → IsKeptPart (l ++ e ∷ r) names before after
kept_parts names before b c after l e r s first second third =
    by_side (λ x. found x after ≡ kept_if (is_some (found x (l ++ e ∷ r))) (is_some (found x names)) (found x before)) l e r s
    (λ x at.
    not_part names r c after x at.right third ∙ kept_beside _ x e.0 b c at.other second ∙ first x
    ∙ ap (λ o. kept_if (is_some o) (is_some (found x names)) (found x before)) (sym at.whole))
    (let at = here_at l e r s in
    not_part names r c after e.0 at.right third ∙ kept_here _ e.0 b c second
    ∙ ap (λ o. cond (is_some (found e.0 names)) o None) (not_part names l before b e.0 at.left first)
    ∙ ap (λ o. kept_if (is_some o) (is_some (found e.0 names)) (found e.0 before)) (sym at.whole))
    (λ x at.
    third x
    ∙ ap (kept_if (is_some (found x r)) (is_some (found x names))) (kept_beside _ x e.0 b c at.other second ∙ not_part names l before b x at.left first)
    ∙ ap (λ o. kept_if (is_some o) (is_some (found x names)) (found x before)) (sym at.whole))

pub puts-append : (fs gs es : List Entry) → puts (fs ++ gs) es ≡ puts fs (puts gs es)
puts-append [] gs es = refl
puts-append (f ∷ fs) gs es = ap (put_entry f) (puts-append fs gs es)
