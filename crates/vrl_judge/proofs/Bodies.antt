-- The body of a closure: its names are bound, and it ends.
use Rattle.std.proofs.Common.{◌≡◌, ◌≢◌, ◌∷◌, ◌++◌, ℕ, Bool, true, false, All, List, [], length, option_map, bytes_eq, codes, refl, sym, ap, ap₂, ◌∙◌, subst, append_assoc, append-nil, length-append, arith}
use Rattle.std.proofs.lemmas.List.Elements.{All-head, All-tail}
use Rattle.vrl_kind.specs.KindTree.{KindTree}
use Rattle.vrl_state.specs.States.{kept as kept_by, IsEntered, IsLeft, IsRootKind, Scope, State}
use Rattle.vrl_state.proofs.Bodies.{begun, begun_more, begun_passed, IsBegun}
use Rattle.vrl_judge.specs.Bodies.{AreBound, IsBound, IsBoundUnless}
use Rattle.vrl_judge.specs.Closures.{IsBodyEndAs, IsBodyEntered}
use Rattle.vrl_judge.specs.Judging.{branches_known, loops_known, AreEnds, AreLeftEnds, HasJudged}
use Rattle.vrl_judge.specs.declared.checker.Checker.{Checker}
use Rattle.vrl_judge.specs.declared.ends.Ends.{Ends}
use Rattle.vrl_judge.specs.declared.finding.Finding.{Finding}
use Rattle.vrl_judge.proofs.Parts.{ends_in, ends_left, left_by}

-- ---- it begins

-- in a scope that is open, one is
pub still_open : (scope : Scope) (outer scopes : List Scope) → scopes ≡ scope ∷ outer → scopes ≢ []
still_open scope outer scopes is none = let lists : scope ∷ outer ≡ [] = sym is ∙ none in cc

one_begun : (done : List (List ℕ)) (x : List ℕ) (Ks : List KindTree) (K : KindTree) (a b c : State) (passed : Bool) → bytes_eq x (codes "_") ≡ passed → length Ks ≡ length done → IsRootKind K → IsBegun done Ks a b → IsBoundUnless passed x K b c
    → IsBegun (done ++ x ∷ []) (Ks ++ K ∷ []) a c
one_begun done x Ks K a b c true is many root before bound = subst (IsBegun (done ++ x ∷ []) (Ks ++ K ∷ []) a) (sym bound) (begun_passed done Ks x K a b many is before)
one_begun done x Ks K a b c false is many root before bound = begun_more done Ks x K a b c many is root before bound

-- behind the names that are bound, others
pub all_begun : (done left : List (List ℕ)) (Ks Ls : List KindTree) (a b c : State) → length Ks ≡ length done → length left ≡ length Ls → All IsRootKind Ls → IsBegun done Ks a b → AreBound left Ls b c → IsBegun (done ++ left) (Ks ++ Ls) a c
all_begun done [] Ks [] a b c same many all before bound =
    subst (IsBegun (done ++ []) (Ks ++ []) a) (sym bound) (subst (λ names. IsBegun names (Ks ++ []) a b) (sym (append-nil done)) (subst (λ Ms. IsBegun done Ms a b) (sym (append-nil Ks)) before))
all_begun done [] Ks (L ∷ Ls) a b c same many all before bound = absurd (omega (arith, many))
all_begun done (x ∷ left) Ks [] a b c same many all before bound = absurd (omega (arith, many))
all_begun done (x ∷ left) Ks (L ∷ Ls) a b c same many all before bound =
    let next = one_begun done x Ks L a b bound.0 (bytes_eq x (codes "_")) refl same (All-head IsRootKind L Ls all) before bound.1 in
    let more : length (Ks ++ L ∷ []) ≡ length (done ++ x ∷ []) = omega (arith, same, length-append Ks (L ∷ []), length-append done (x ∷ [])) in
    subst (λ names. IsBegun names (Ks ++ L ∷ Ls) a c) (append_assoc done (x ∷ []) left)
    (subst (λ Ms. IsBegun ((done ++ x ∷ []) ++ left) Ms a c) (append_assoc Ks (L ∷ []) Ls)
    (all_begun (done ++ x ∷ []) left (Ks ++ L ∷ []) Ls a bound.0 c more (omega (arith, many)) (All-tail IsRootKind L Ls all) next bound.2))

-- one name is bound, and then the others
pub bound_next : (names others : List (List ℕ)) (Ks Ls : List KindTree) (x : List ℕ) (K : KindTree) (a b c : State) → names ≡ x ∷ others → Ks ≡ K ∷ Ls → IsBound x K a b → AreBound others Ls b c → AreBound names Ks a c
bound_next names others Ks Ls x K a b c is also bound rest = subst (λ Ms. AreBound names Ms a c) (sym also) (subst (λ xs. AreBound xs (K ∷ Ls) a c) (sym is) (b, bound, rest))

-- none is left
pub none_bound : (names : List (List ℕ)) (Ks : List KindTree) (a : State) → length names ≡ 0 → AreBound names Ks a a
none_bound [] Ks a none = refl
none_bound (x ∷ names) Ks a none = absurd (omega arith)

pub no_kinds_bound : (names : List (List ℕ)) (Ks : List KindTree) (a : State) → length Ks ≡ 0 → AreBound names Ks a a
no_kinds_bound [] Ks a none = refl
no_kinds_bound (x ∷ names) [] a none = refl
no_kinds_bound (x ∷ names) (K ∷ Ks) a none = absurd (omega arith)

-- its scope is open, and its names are bound
pub body_entered : (names : List (List ℕ)) (Ks : List KindTree) (a : Checker) (opened bound : State) → IsEntered a.state opened → length names ≡ length Ks → All IsRootKind Ks → AreBound names Ks opened bound → IsBodyEntered names Ks a (record a { state = bound })
body_entered names Ks a opened bound enters many all are =
    let is = all_begun [] names [] Ks a.state opened bound refl many all (begun a.state opened enters) are in
    record { scope = is.scope; scopes = is.scopes; is = is.is; known = is.known; others = refl }

-- ---- it ends

pub body_ended : (now after : Checker) (part : Finding) (ends : Ends) → IsLeft now.state after.state → after.diagnostics ≡ now.diagnostics → after.empties ≡ now.empties → after.loops ≡ now.loops → after.patterns ≡ now.patterns → after.inside ≡ now.inside
    → ((scope : Scope) (scopes : List Scope) → AreEnds (scope ∷ scopes) part.ends → AreLeftEnds scope scopes part.ends ends) → IsBodyEndAs part now after (record { kind = part.kind; ends = ends })
body_ended now after part ends leaves same_codes same_empties same_loops same_patterns same_inside left_so b before entered known j here enters has =
    let lists : leaves.scope ∷ after.state.scopes ≡ enters.scope ∷ before.state.scopes = sym leaves.scopes ∙ has.gathered.scopes ∙ enters.scopes in
    let one : leaves.scope ≡ enters.scope = cc in
    let rest : after.state.scopes ≡ before.state.scopes = cc in
    let within = ends_in entered.state.scopes (enters.scope ∷ before.state.scopes) part.ends j enters.scopes has.ends in
    let told : HasJudged before after (record { kind = part.kind; ends = ends }) (left_by enters.scope j) = record {
      kind = has.kind;
      root = has.root;
      ends = ends_left enters.scope before.state.scopes part.ends ends j within (left_so enters.scope before.state.scopes within.are);
      gathered = record {
        ok = leaves.known ∙ ap₂ (λ x k. option_map (kept_by x) k) one has.gathered.ok;
        scopes = rest;
        diagnostics = ap (λ ds. ds.items) same_codes ∙ has.gathered.diagnostics ∙ ap (λ x. x.diagnostics.items ++ j.codes) enters.others;
        empties = ap (λ ts. ts.items) same_empties ∙ has.gathered.empties ∙ ap (λ x. x.empties.items ++ j.empties) enters.others;
        loops = ap (λ ls. branches_known ls.items) same_loops ∙ has.gathered.loops ∙ ap (λ x. branches_known x.loops.items ++ loops_known j.loops) enters.others;
        patterns = same_patterns ∙ has.gathered.patterns ∙ ap (λ x. x.patterns) enters.others;
        inside = same_inside ∙ has.gathered.inside ∙ ap (λ x. x.inside) enters.others;
      };
    } in
    subst (λ scope. HasJudged before after (record { kind = part.kind; ends = ends }) (left_by scope j)) (enters.is known here) told
