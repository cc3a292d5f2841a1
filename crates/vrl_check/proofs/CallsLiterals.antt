-- A function is asked about one literal, and nothing else.
use Rattle.std.proofs.Common.{◌≡◌, ℕ, zero, suc, ◌+◌, Bool, true, false, not, ◌&&◌, List, [], ◌∷◌, ◌++◌, map, replicate, Option, Some, None, is_some, slice_get, IsSomeAnd, refl, sym, ap, ◌∙◌, if◌then◌else◌, arith, add-zero}
use Rattle.std.proofs.Math.Bool.{and-false}
use Rattle.std.proofs.lemmas.List.{map-append}
use Rattle.vrl_value.specs.Tree.{Tree}
use Rattle.vrl_builtin.specs.Conditions.{first_wrong, first_wrong_from, is_refused}
use Rattle.vrl_builtin.specs.Rows.{literal_at, GivenTree, ParameterRow, Row}
use Rattle.vrl_builtin.specs.View.{given_tree}
use Rattle.vrl_builtin.specs.declared.given.Given.{Given}
use Rattle.vrl_check.specs.Calling.{alone_at}

-- ---- the literal's place

abbrev pub not_given : GivenTree
not_given = record { kind = None; literal = None }

abbrev pub given_literal : Tree → GivenTree
given_literal v = record { kind = None; literal = Some v }

-- nothing is given before the literal, nor behind it
pub literal_alone : (place : ℕ) (v : Tree) (i : ℕ) → literal_at i (replicate place not_given ++ (given_literal v ∷ [])) ≡ alone_at place v i
literal_alone zero v zero = refl
literal_alone zero v (suc i) = refl
literal_alone (suc place) v zero = refl
literal_alone (suc place) v (suc i) = literal_alone place v i

-- the same of what stands in memory
pub stands_alone : (given before : List Given) (last : Given) (place : ℕ) (v : Tree) → given ≡ before ++ (last ∷ []) → map given_tree before ≡ replicate place not_given → given_tree last ≡ given_literal v
    → (i : ℕ) → literal_at i (map given_tree given) ≡ alone_at place v i
stands_alone given before last place v is none one i =
    ap (λ gs. literal_at i (map given_tree gs)) is
    ∙ ap (literal_at i) (map-append given_tree before (last ∷ []))
    ∙ ap (λ gs. literal_at i (gs ++ (given_tree last ∷ []))) none
    ∙ ap (λ g. literal_at i (replicate place not_given ++ (g ∷ []))) one
    ∙ literal_alone place v i

-- ---- the function's answer

-- without a literal none is wrong
passed : (wants : Bool) (found : Option ℕ) (place : ℕ) → (if wants && false then Some place else found) ≡ found
passed wants found place = ap (λ b. if b then Some place else found) (and-false wants)

-- the first place of these
here : (k : ℕ) (givens : List GivenTree) (l : Option Tree) → literal_at (k + zero) givens ≡ l → literal_at k givens ≡ l
here k givens l is = ap (λ n. literal_at n givens) (sym (add-zero k)) ∙ is

next : (k i : ℕ) (givens : List GivenTree) (l : Option Tree) → literal_at (k + suc i) givens ≡ l → literal_at (suc k + i) givens ≡ l
next k i givens l is =
    let same : suc k + i ≡ k + suc i = omega arith in
    ap (λ n. literal_at n givens) same ∙ is

none_wrong : (accepts : ℕ → Tree → Bool) (ps : List ParameterRow) (k : ℕ) (givens : List GivenTree) → ((i : ℕ) → literal_at (k + i) givens ≡ None) → first_wrong_from k ps accepts givens ≡ None
none_wrong accepts [] k givens none = refl
none_wrong accepts (p ∷ ps) k givens none =
    ap (λ l. if p.literal && is_refused (accepts k) l then Some k else first_wrong_from (suc k) ps accepts givens) (here k givens None (none zero))
    ∙ passed p.literal (first_wrong_from (suc k) ps accepts givens) k
    ∙ none_wrong accepts ps (suc k) givens (λ i. next k i givens None (none (suc i)))

refused_here : (accepted wants : Bool) (k : ℕ) (found : Option ℕ) → wants ≡ true → found ≡ None → is_some (if wants && not accepted then Some k else found) ≡ not accepted
refused_here true wants k found is none = ap (λ b. is_some (if b then Some k else found)) (and-false wants) ∙ ap is_some none
refused_here false wants k found is none = ap (λ b. is_some (if b && true then Some k else found)) is

-- the one literal is refused where the row doesn't allow it
pub wrong_alone : (accepts : ℕ → Tree → Bool) (ps : List ParameterRow) (n k place : ℕ) (v : Tree) (givens : List GivenTree) → k + n ≡ place → ((i : ℕ) → literal_at (k + i) givens ≡ alone_at n v i)
    → IsSomeAnd (slice_get ps n) (λ p. p.literal ≡ true) → is_some (first_wrong_from k ps accepts givens) ≡ not (accepts place v)
wrong_alone accepts [] n k place v givens at alone wants = absurd wants
wrong_alone accepts (p ∷ ps) zero k place v givens at alone wants =
    let same : k ≡ place = omega arith in
    ap (λ l. is_some (if p.literal && is_refused (accepts k) l then Some k else first_wrong_from (suc k) ps accepts givens)) (here k givens (Some v) (alone zero))
    ∙ refused_here (accepts k v) p.literal k (first_wrong_from (suc k) ps accepts givens) wants (none_wrong accepts ps (suc k) givens (λ i. next k i givens None (alone (suc i))))
    ∙ ap (λ m. not (accepts m v)) same
wrong_alone accepts (p ∷ ps) (suc n) k place v givens at alone wants =
    let rest : suc k + n ≡ place = omega arith in
    ap (λ l. is_some (if p.literal && is_refused (accepts k) l then Some k else first_wrong_from (suc k) ps accepts givens)) (here k givens None (alone zero))
    ∙ ap is_some (passed p.literal (first_wrong_from (suc k) ps accepts givens) k)
    ∙ wrong_alone accepts ps n (suc k) place v givens rest (λ i. next k i givens (alone_at n v i) (alone (suc i))) wants

pub refused_alone : (r : Row) (place : ℕ) (v : Tree) (givens : List GivenTree) → ((i : ℕ) → literal_at i givens ≡ alone_at place v i) → IsSomeAnd (slice_get r.parameters place) (λ p. p.literal ≡ true)
    → is_some (first_wrong r givens) ≡ not (r.accepts place v)
refused_alone r place v givens alone wants =
    wrong_alone r.accepts r.parameters place 0 place v givens (omega arith) (λ i. let same : 0 + i ≡ i = omega arith in ap (λ n. literal_at n givens) same ∙ alone i) wants
