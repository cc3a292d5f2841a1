-- Two versions that are walked side by side: where both have a name at a root, what stands beside it is looked for beside it.
use Rattle.std.proofs.Common.{◌≡◌, ℕ, List, ◌∷◌, ◌++◌, Option, Some, None, Ordering, Less, Greater, Bool, is_some, refl, sym, ap, ◌∙◌, subst}
use Rattle.vrl_kind.specs.KindTree.{KindTree}
use Rattle.vrl_state.specs.Merging.{kept_if, HoldsIf, IsBeside, IsJoinedIf, IsJoinedPart, IsKeptPart, IsPartOf}
use Rattle.vrl_state.specs.Ordered.{found, Entry, IsSorted}
use Rattle.vrl_state.specs.States.{IsVariableWithin}
use Rattle.vrl_state.proofs.Cutting.{find_left, find_right, name_cmp}
use Rattle.vrl_state.proofs.Parts.{by_side, here_at, no_part, over_left, over_right, AreOver}

holds_itself : (o : Option KindTree) → HoldsIf o o
holds_itself None = tt
holds_itself (Some K) = refl

pub beside_itself : (o : Ordering) (x : List ℕ) (es : List Entry) → IsBeside o x es es
beside_itself o x es = record { holds = λ y. holds_itself (found y es); same = λ y p. refl }

pub beside_left : (x : List ℕ) (l : List Entry) (e : Entry) (r : List Entry) → IsSorted (l ++ e ∷ r) → x ≡ e.0 → IsBeside Less x l (l ++ e ∷ r)
beside_left x l e r s is =
    subst (λ z. IsBeside Less z l (l ++ e ∷ r)) (sym is)
    (record {
      holds = by_side (λ y. HoldsIf (found y l) (found y (l ++ e ∷ r))) l e r s
          (λ y at. subst (HoldsIf (found y l)) (sym at.whole) (holds_itself (found y l)))
          (subst (λ o. HoldsIf o (found e.0 (l ++ e ∷ r))) (sym (here_at l e r s).left) tt)
          (λ y at. subst (λ o. HoldsIf o (found y (l ++ e ∷ r))) (sym at.left) tt);
      same = λ y p. sym (find_left y l e r s p);
    })

pub beside_right : (x : List ℕ) (l : List Entry) (e : Entry) (r : List Entry) → IsSorted (l ++ e ∷ r) → x ≡ e.0 → IsBeside Greater x r (l ++ e ∷ r)
beside_right x l e r s is =
    subst (λ z. IsBeside Greater z r (l ++ e ∷ r)) (sym is)
    (record {
      holds = by_side (λ y. HoldsIf (found y r) (found y (l ++ e ∷ r))) l e r s
          (λ y at. subst (λ o. HoldsIf o (found y (l ++ e ∷ r))) (sym at.right) tt)
          (subst (λ o. HoldsIf o (found e.0 (l ++ e ∷ r))) (sym (here_at l e r s).right) tt)
          (λ y at. subst (HoldsIf (found y r)) (sym at.whole) (holds_itself (found y r)));
      same = λ y p. sym (find_right y l e r s p);
    })

-- what holds of each kind of a version holds of those of a part
kind_part : (P : Option KindTree → Type 0) (K L : Option KindTree) → P None → HoldsIf K L → P L → P K
kind_part P None L none is p = none
kind_part P (Some K) L none is p = subst P is p

pub kinds_part : (P : Option KindTree → Type 0) (part whole : List Entry) → P None → IsPartOf part whole → ((y : List ℕ) → P (found y whole)) → (y : List ℕ) → P (found y part)
kinds_part P part whole none is all y = kind_part P (found y part) (found y whole) none (is y) (all y)

-- ---- joins

none_joined : (K L J M N : Option KindTree) → K ≡ None → IsJoinedIf K L M N → IsJoinedIf K J M N
none_joined K L J M N none is = subst (λ o. IsJoinedIf o J M N) (sym none) (no_part K L M N none is)

pub joined_left : (part others before after l : List Entry) (e : Entry) (r : List Entry) → IsSorted (l ++ e ∷ r) → IsBeside Less e.0 part others → IsJoinedPart l part before after → IsJoinedPart l others before after
joined_left part others before after l e r s beside joined =
    by_side (λ y. IsJoinedIf (found y l) (found y others) (found y before) (found y after)) l e r s
    (λ y at. subst (λ o. IsJoinedIf (found y l) o (found y before) (found y after)) (beside.same y at.below) (joined y))
    (none_joined (found e.0 l) (found e.0 part) (found e.0 others) (found e.0 before) (found e.0 after) (here_at l e r s).left (joined e.0))
    (λ y at. none_joined (found y l) (found y part) (found y others) (found y before) (found y after) at.left (joined y))

pub joined_right : (part others before after l : List Entry) (e : Entry) (r : List Entry) → IsSorted (l ++ e ∷ r) → IsBeside Greater e.0 part others → IsJoinedPart r part before after → IsJoinedPart r others before after
joined_right part others before after l e r s beside joined =
    by_side (λ y. IsJoinedIf (found y r) (found y others) (found y before) (found y after)) l e r s
    (λ y at. none_joined (found y r) (found y part) (found y others) (found y before) (found y after) at.right (joined y))
    (none_joined (found e.0 r) (found e.0 part) (found e.0 others) (found e.0 before) (found e.0 after) (here_at l e r s).right (joined e.0))
    (λ y at. subst (λ o. IsJoinedIf (found y r) o (found y before) (found y after)) (beside.same y at.above) (joined y))

-- ---- order

-- names before e are found alike in both
over_before : (some others l : List Entry) (e : Entry) (r : List Entry) → IsSorted (l ++ e ∷ r) → ((y : List ℕ) → name_cmp y e.0 ≡ Less → found y some ≡ found y others) → AreOver some l → AreOver others l
over_before some others l e r s same over =
    by_side (λ y. IsVariableWithin (found y others) (found y l)) l e r s
    (λ y at. subst (λ o. IsVariableWithin o (found y l)) (same y at.below) (over y))
    (subst (IsVariableWithin (found e.0 others)) (sym (here_at l e r s).left) tt)
    (λ y at. subst (IsVariableWithin (found y others)) (sym at.left) tt)

over_behind : (some others l : List Entry) (e : Entry) (r : List Entry) → IsSorted (l ++ e ∷ r) → ((y : List ℕ) → name_cmp y e.0 ≡ Greater → found y some ≡ found y others) → AreOver some r → AreOver others r
over_behind some others l e r s same over =
    by_side (λ y. IsVariableWithin (found y others) (found y r)) l e r s
    (λ y at. subst (IsVariableWithin (found y others)) (sym at.right) tt)
    (subst (IsVariableWithin (found e.0 others)) (sym (here_at l e r s).right) tt)
    (λ y at. subst (λ o. IsVariableWithin o (found y r)) (same y at.above) (over y))

pub over_left_near : (part others l : List Entry) (e : Entry) (r : List Entry) → IsSorted (l ++ e ∷ r) → IsBeside Less e.0 part others → AreOver part l → AreOver others l
over_left_near part others l e r s beside over = over_before part others l e r s beside.same over

pub over_right_near : (part others l : List Entry) (e : Entry) (r : List Entry) → IsSorted (l ++ e ∷ r) → IsBeside Greater e.0 part others → AreOver part r → AreOver others r
over_right_near part others l e r s beside over = over_behind part others l e r s beside.same over

pub over_near_left : (part others l : List Entry) (e : Entry) (r : List Entry) → IsSorted (l ++ e ∷ r) → IsBeside Less e.0 part others → AreOver others (l ++ e ∷ r) → AreOver part l
over_near_left part others l e r s beside over = over_before others part l e r s (λ y p. sym (beside.same y p)) (over_left others l e r s over)

pub over_near_right : (part others l : List Entry) (e : Entry) (r : List Entry) → IsSorted (l ++ e ∷ r) → IsBeside Greater e.0 part others → AreOver others (l ++ e ∷ r) → AreOver part r
over_near_right part others l e r s beside over = over_behind others part l e r s (λ y p. sym (beside.same y p)) (over_right others l e r s over)

-- ---- ends of scopes

none_kept : (K : Option KindTree) (a b : Bool) (M N : Option KindTree) → K ≡ None → N ≡ kept_if (is_some K) a M → N ≡ kept_if (is_some K) b M
none_kept K a b M N none is = is ∙ ap (λ o. kept_if (is_some o) a M) none ∙ ap (λ o. kept_if (is_some o) b M) (sym none)

pub kept_left : (part names before after l : List Entry) (e : Entry) (r : List Entry) → IsSorted (l ++ e ∷ r) → IsBeside Less e.0 part names → IsKeptPart l part before after → IsKeptPart l names before after
kept_left part names before after l e r s beside kept =
    by_side (λ y. found y after ≡ kept_if (is_some (found y l)) (is_some (found y names)) (found y before)) l e r s
    (λ y at. kept y ∙ ap (λ o. kept_if (is_some (found y l)) (is_some o) (found y before)) (beside.same y at.below))
    (none_kept (found e.0 l) (is_some (found e.0 part)) (is_some (found e.0 names)) (found e.0 before) (found e.0 after) (here_at l e r s).left (kept e.0))
    (λ y at. none_kept (found y l) (is_some (found y part)) (is_some (found y names)) (found y before) (found y after) at.left (kept y))

pub kept_right : (part names before after l : List Entry) (e : Entry) (r : List Entry) → IsSorted (l ++ e ∷ r) → IsBeside Greater e.0 part names → IsKeptPart r part before after → IsKeptPart r names before after
kept_right part names before after l e r s beside kept =
    by_side (λ y. found y after ≡ kept_if (is_some (found y r)) (is_some (found y names)) (found y before)) l e r s
    (λ y at. none_kept (found y r) (is_some (found y part)) (is_some (found y names)) (found y before) (found y after) at.right (kept y))
    (none_kept (found e.0 r) (is_some (found e.0 part)) (is_some (found e.0 names)) (found e.0 before) (found e.0 after) (here_at l e r s).right (kept e.0))
    (λ y at. kept y ∙ ap (λ o. kept_if (is_some (found y r)) (is_some o) (found y before)) (beside.same y at.above))
