-- Nestings of stretches, and the places of a list of tokens.
use Rattle.std.proofs.Common.{◌≡◌, ℕ, suc, ◌+◌, ◌<◌, ◌≤◌, if◌then◌else◌, min, Bool, true, false, IsTrue, List, [], ◌∷◌, ◌++◌, length, reverse, get_or, take, drop, map, inl, inr, refl, sym, ap, ◌∙◌, subst, arith, length-append}
use Rattle.std.proofs.lemmas.Bool.{cases_lt}
use Rattle.std.proofs.lemmas.List.{length-map, length-reverse, length-take-le, map-append, reverse-append, reverse-reverse, take-append-drop, take-map, take_more}
use Rattle.std.proofs.lemmas.Grind.{get_or_default_zero}
use Rattle.std.proofs.Math.Seq.{take-append_seam}
use Rattle.vrl_token.specs.declared.nesting.Progress.{Progress}
use Rattle.vrl_token.specs.declared.token.Spanned.{Spanned}
use Rattle.vrl_token.specs.declared.token.Token.{Token}
use Rattle.vrl_token.specs.Depths.{AreCounts, IsProgress, behind_first, first_of, held, nesting_behind, nesting_inside, nestings_of}
use Rattle.vrl_token.specs.Brackets.{closes}
use Rattle.vrl_token.specs.Nesting.{IsDeepAt, IsTooDeep, count_in, last_nesting, nesting_in, opens, parts, stretches_behind, stretches_from, with_innermost, without_innermost}
use Rattle.vrl_token.specs.Reading.{backwards}
use Rattle.vrl_token.proofs.Runs.{heads}

held_nesting : (m c n : ℕ) → min (c + (1 + n)) m ≡ min (min (min n m + 1) m + min c m) m
held_nesting m c n = omega arith

inside : (all : List Token) (n : ℕ) (rs : List ℕ) → held (nesting_in all (n ∷ rs)) ≡ nesting_inside (first_of (nestings_of all rs)) (held (count_in n all))
inside all n [] = refl
inside all n (r ∷ rs) = held_nesting _ (count_in n all) (nesting_in all (r ∷ rs))

without_nestings : (all : List Token) (rs : List ℕ) → nestings_of all (without_innermost rs) ≡ without_innermost (nestings_of all rs)
without_nestings all [] = refl
without_nestings all (s ∷ []) = refl
without_nestings all (s ∷ r ∷ rs) = refl

with_nestings : (all : List Token) (n : ℕ) (rs : List ℕ)
    → nestings_of all (with_innermost n rs) ≡ with_innermost (nesting_inside (first_of (behind_first (nestings_of all rs))) (held (count_in n all))) (nestings_of all rs)
with_nestings all n [] = refl
with_nestings all n (s ∷ rs) = ap (λ (v : ℕ). v ∷ nestings_of all rs) (inside all n rs)

nestings_by : (all : List Token) (o c p : Bool) (n : ℕ) (rs : List ℕ)
    → nestings_of all (if o then n ∷ rs else if c then without_innermost rs else if p then with_innermost n rs else rs)
    ≡ (let v = nesting_inside (if o then first_of (nestings_of all rs) else first_of (behind_first (nestings_of all rs))) (held (count_in n all)) in
    if o then v ∷ nestings_of all rs else if c then without_innermost (nestings_of all rs) else if p then with_innermost v (nestings_of all rs) else nestings_of all rs)
nestings_by all true c p n rs = ap (λ (v : ℕ). v ∷ nestings_of all rs) (inside all n rs)
nestings_by all false true p n rs = without_nestings all rs
nestings_by all false false true n rs = with_nestings all n rs
nestings_by all false false false n rs = refl

pub nestings_more : (all before : List Token) (t : Token) (old new : List ℕ) (nesting count : ℕ) → count ≡ held (count_in (suc (length before)) all) → old ≡ nestings_of all (stretches_behind before)
    → nesting ≡ nesting_behind t count old → new ≡ stretches_from t nesting old → new ≡ nestings_of all (stretches_behind (t ∷ before))
nestings_more all before t old new nesting count counted was behind from =
    from ∙ ap (λ (v : ℕ). stretches_from t v old) (behind ∙ ap (λ (k : ℕ). nesting_behind t k old) counted)
    ∙ ap (λ (l : List ℕ). stretches_from t (nesting_behind t (held (count_in (suc (length before)) all)) l) l) was
    ∙ sym (nestings_by all (opens t) (closes t) (parts t) (suc (length before)) (stretches_behind before))

innermost_nesting : (all : List Token) (rs : List ℕ) (n : ℕ) (ns : List ℕ) → n ∷ ns ≡ nestings_of all rs → n ≡ held (nesting_in all rs)
innermost_nesting all [] n ns is = cc
innermost_nesting all (r ∷ rs) n ns is = heads is

held_both : (m a b : ℕ) → min (min a m + min b m) m ≡ min (a + b) m
held_both m a b = omega arith

pub depth_is : (all before : List Token) (progress : Progress) (depth : ℕ) → IsProgress all before progress → depth ≡ held (progress.nestings.innermost + progress.last) → depth ≡ held (nesting_in all (stretches_behind before) + last_nesting before)
depth_is all before progress depth is sum =
    let nesting = innermost_nesting all (stretches_behind before) progress.nestings.innermost (reverse progress.nestings.around.items) is.nestings_are in
    sum ∙ ap (λ (n : ℕ). held (n + progress.last)) nesting ∙ ap (λ (n : ℕ). held (held (nesting_in all (stretches_behind before)) + n)) is.last_is ∙ held_both _ (nesting_in all (stretches_behind before)) (last_nesting before)

-- ---- the tokens before a place

pub backwards_more : (tokens : List Spanned) (i : ℕ) (x : Spanned) → i < length tokens → x ≡ get_or tokens i x → backwards (take (i + 1) tokens) ≡ x.token ∷ backwards (take i tokens)
backwards_more tokens i x within is =
    ap backwards (take_more tokens i x within)
    ∙ ap reverse (map-append (λ t. t.token) (take i tokens) (get_or tokens i x ∷ []))
    ∙ reverse-append (map (λ t. t.token) (take i tokens)) ((get_or tokens i x).token ∷ [])
    ∙ ap (λ (y : Spanned). y.token ∷ backwards (take i tokens)) (sym is)

pub length-backwards : (tokens : List Spanned) → length (backwards tokens) ≡ length tokens
length-backwards tokens = length-reverse (map (λ t. t.token) tokens) ∙ length-map tokens (λ t. t.token)

pub deep_at : (tokens : List Spanned) (i : ℕ) → IsDeepAt (backwards tokens) (backwards (take i tokens)) → IsTooDeep (backwards tokens)
deep_at tokens i deep = record {
  before = backwards (take i tokens);
  behind = backwards (drop i tokens);
  parts_are = ap backwards (sym (take-append-drop i tokens)) ∙ ap reverse (map-append (λ t. t.token) (take i tokens) (drop i tokens))
      ∙ reverse-append (map (λ t. t.token) (take i tokens)) (map (λ t. t.token) (drop i tokens));
  deep = deep;
}

pub deep_behind : (tokens : List Spanned) (i : ℕ) (x : Spanned) → i < length tokens → x ≡ get_or tokens i x → IsDeepAt (backwards tokens) (x.token ∷ backwards (take i tokens)) → IsTooDeep (backwards tokens)
deep_behind tokens i x within item deep = deep_at tokens (i + 1) (subst (IsDeepAt (backwards tokens)) (sym (backwards_more tokens i x within item)) deep)

-- the tokens before a place are those of a front
front_of : (tokens : List Spanned) (before behind : List Token) → backwards tokens ≡ behind ++ before → (length before ≤ length tokens) × (before ≡ backwards (take (length before) tokens))
front_of tokens before behind is =
    let forwards : map (λ t. t.token) tokens ≡ reverse before ++ reverse behind
    = sym (reverse-reverse (map (λ t. t.token) tokens)) ∙ ap reverse is ∙ reverse-append behind before in
    let long : length tokens ≡ length behind + length before = sym (length-backwards tokens) ∙ ap length is ∙ length-append behind before in
    let same : length (reverse before) ≡ length before = length-reverse before in
    let front : map (λ t. t.token) (take (length before) tokens) ≡ reverse before
    = sym (take-map (λ t. t.token) (length before) tokens) ∙ ap (take (length before)) forwards
    ∙ ap (λ (k : ℕ). take k (reverse before ++ reverse behind)) (sym same) ∙ take-append_seam (reverse before) (reverse behind) in
    (omega arith, sym (reverse-reverse before) ∙ ap reverse (sym front))

pub shallow_all : (tokens : List Spanned) → ((k : ℕ) → k ≤ length tokens → ¬ IsDeepAt (backwards tokens) (backwards (take k tokens))) → ¬ IsTooDeep (backwards tokens)
shallow_all tokens shallow deep =
    let front = front_of tokens deep.before deep.behind deep.parts_are in
    shallow (length deep.before) front.0 (subst (IsDeepAt (backwards tokens)) front.1 deep.deep)

-- at this place and before it the tokens aren't nested too deeply
pub record IsShallow (tokens : List Spanned) (i : ℕ) (progress : Progress) : Type 0 where
  pub progress_is : IsProgress (backwards tokens) (backwards (take i tokens)) progress
  pub shallow : (k : ℕ) → k ≤ i → ¬ IsDeepAt (backwards tokens) (backwards (take k tokens))

pub shallow_first : (tokens : List Spanned) (progress : Progress) → IsProgress (backwards tokens) [] progress → ¬ IsDeepAt (backwards tokens) [] → IsShallow tokens 0 progress
shallow_first tokens progress is not = record {
  progress_is = is;
  shallow = λ k first. let none : 0 ≡ k = omega arith in subst (λ (n : ℕ). ¬ IsDeepAt (backwards tokens) (backwards (take n tokens))) none not;
}

pub shallow_more : (tokens : List Spanned) (i : ℕ) (x : Spanned) (old new : Progress) → i < length tokens → x ≡ get_or tokens i x → IsShallow tokens i old
    → IsProgress (backwards tokens) (x.token ∷ backwards (take i tokens)) new → ¬ IsDeepAt (backwards tokens) (x.token ∷ backwards (take i tokens)) → IsShallow tokens (i + 1) new
shallow_more tokens i x old new within item was progress not =
    let more = sym (backwards_more tokens i x within item) in
    record {
      progress_is = subst (λ (before : List Token). IsProgress (backwards tokens) before new) more progress;
      shallow = λ k upto. elim (cases_lt k (i + 1)) [
        | inl before ↦ was.shallow k (omega arith)
        | inr past ↦
            let last : i + 1 ≡ k = omega arith in
            subst (λ (n : ℕ). ¬ IsDeepAt (backwards tokens) (backwards (take n tokens))) last (subst (λ (before : List Token). ¬ IsDeepAt (backwards tokens) before) more not)
      ];
    }

-- ---- counts by place

count_at : (all : List Token) (counts : List ℕ) (i x : ℕ) → AreCounts all counts → i ≤ length all → x ≡ get_or counts i x → x ≡ held (count_in i all)
count_at all counts i x are within is =
    let long = are.length_is in
    let inside_counts : i < length counts = omega arith in
    is ∙ get_or_default_zero counts i x inside_counts ∙ are.counts_are i inside_counts

pub count_first : (tokens : List Spanned) (counts : List ℕ) (x : ℕ) → AreCounts (backwards tokens) counts → x ≡ get_or counts 0 x → x ≡ held (count_in 0 (backwards tokens))
count_first tokens counts x are is = count_at (backwards tokens) counts 0 x are (omega arith) is

pub count_behind : (tokens : List Spanned) (counts : List ℕ) (i x : ℕ) → AreCounts (backwards tokens) counts → i < length tokens → x ≡ get_or counts (i + 1) x
    → x ≡ held (count_in (suc (length (backwards (take i tokens)))) (backwards tokens))
count_behind tokens counts i x are within is =
    let long = length-backwards tokens in
    let short : length (backwards (take i tokens)) ≡ i = length-backwards (take i tokens) ∙ length-take-le i tokens (omega arith) in
    let next : i + 1 ≡ suc (length (backwards (take i tokens))) = omega arith in
    count_at (backwards tokens) counts (i + 1) x are (omega arith) is ∙ ap (λ (k : ℕ). held (count_in k (backwards tokens))) next

-- ---- tests

pub not_deep : {P : Type 0} (b : Bool) → b ≡ false → (P → IsTrue b) → ¬ P
not_deep b off tells p = let on : b ≡ true = tells p in cc

pub never : {P : Type 0} → IsTrue false → P
never e = let on : false ≡ true = e in cc
