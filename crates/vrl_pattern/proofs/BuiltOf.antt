-- What is built of each source.
use Rattle.std.proofs.Common.{◌≡◌, ℕ, zero, suc, ◌+◌, ◌<◌, Bool, true, false, if◌then◌else◌, List, [], ◌∷◌, ◌++◌, length, drop, drop-cons, take, get_or, slice_index_or, append_assoc, subst, refl, sym, ap, ◌∙◌, arith}
use Rattle.std.proofs.lemmas.List.{take_more}
use Rattle.regex.specs.declared.string.regex.Regex.{Regex}
use Rattle.vrl_pattern.specs.Built.{AreBuilt, IsBuiltOf}
use Rattle.vrl_pattern.specs.Malformed.{is_malformed, malformed_from}

-- one is built of each
pub as_many : (ss : List (List ℕ)) (rs : List Regex) → AreBuilt ss rs → length rs ≡ length ss
as_many [] [] built = refl
as_many [] (r ∷ rs) built = absurd built
as_many (s ∷ ss) [] built = absurd built
as_many (s ∷ ss) (r ∷ rs) built = ap suc (as_many ss rs built.1)

pub built_at : (ss : List (List ℕ)) (rs : List Regex) (n : ℕ) (d : Regex) → AreBuilt ss rs → n < length rs → IsBuiltOf (slice_index_or ss n []) (slice_index_or rs n d)
built_at [] [] n d built below = absurd (omega arith)
built_at [] (r ∷ rs) n d built below = absurd built
built_at (s ∷ ss) [] n d built below = absurd built
built_at (s ∷ ss) (r ∷ rs) zero d built below = built.0
built_at (s ∷ ss) (r ∷ rs) (suc n) d built below = built_at ss rs n d built.1 (omega arith)

-- one more
pub one_more : (ss : List (List ℕ)) (rs : List Regex) (s : List ℕ) (r : Regex) → AreBuilt ss rs → IsBuiltOf s r → AreBuilt (ss ++ s ∷ []) (rs ++ r ∷ [])
one_more [] [] s r built here = (here, tt)
one_more [] (t ∷ rs) s r built here = absurd built
one_more (u ∷ ss) [] s r built here = absurd built
one_more (u ∷ ss) (t ∷ rs) s r built here = (built.0, one_more ss rs s r built.1 here)

-- ---- one source after the other

malformed_step : (n : ℕ) (s : List ℕ) (ss : List (List ℕ)) → malformed_from n (s ∷ ss) ≡ (if is_malformed s then n ∷ [] else []) ++ malformed_from (suc n) ss
malformed_step n s ss = by_test (is_malformed s)
  where
    by_test : (b : Bool) → (if b then n ∷ malformed_from (suc n) ss else malformed_from (suc n) ss) ≡ (if b then n ∷ [] else []) ++ malformed_from (suc n) ss
    by_test true = refl
    by_test false = refl

-- the numbers so far, with those of what is left, are those of all
pub numbers_go_on : (sources : List (List ℕ)) (n next : ℕ) (s d : List ℕ) (numbers after : List ℕ) → next ≡ suc n → n < length sources → s ≡ get_or sources n d →
    after ≡ numbers ++ (if is_malformed s then n ∷ [] else []) → numbers ++ malformed_from n (drop n sources) ≡ malformed_from 0 sources →
    after ++ malformed_from next (drop next sources) ≡ malformed_from 0 sources
numbers_go_on sources n next s d numbers after step below is adds so_far =
    rw (adds, step) (append_assoc numbers _ _ ∙ ap (λ m. numbers ++ m) (sym (malformed_step n s (drop (suc n) sources)) ∙ ap (λ t. malformed_from n (t ∷ drop (suc n) sources)) is ∙ ap (malformed_from n) (sym (drop-cons sources n d below))) ∙ so_far)

none_added : (numbers : List ℕ) (b : Bool) (n : ℕ) → numbers ++ (if b then n ∷ [] else []) ≡ [] → (numbers ≡ []) × (b ≡ false)
none_added [] true n none = absurd cc
none_added [] false n none = (refl, refl)
none_added (m ∷ numbers) b n none = absurd cc

-- while no source is malformed, one is built of each so far
pub built_so_far : (sources : List (List ℕ)) (n next : ℕ) (s d : List ℕ) (numbers after : List ℕ) (rs later : List Regex) → next ≡ n + 1 → n < length sources → s ≡ get_or sources n d →
    after ≡ numbers ++ (if is_malformed s then n ∷ [] else []) → (is_malformed s ≡ false → (r : Regex) × (later ≡ rs ++ r ∷ []) × IsBuiltOf s r) →
    (numbers ≡ [] → AreBuilt (take n sources) rs) → after ≡ [] → AreBuilt (take next sources) later
built_so_far sources n next s d numbers after rs later step below is adds made so_far none =
    let both = none_added numbers (is_malformed s) n (sym adds ∙ none) in
    let one = made both.1 in
    rw (step, one.1, take_more sources n d below)
    (one_more (take n sources) rs (get_or sources n d) one.0 (so_far both.0) (subst (λ t. IsBuiltOf t one.0) is one.2))
