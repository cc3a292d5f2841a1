-- Characters between quotes, cut at their first backslash.
use Rattle.std.proofs.Common.{◌≡◌, ◌≢◌, ℕ, ◌≤◌, List, [], ◌∷◌, ◌++◌, inl, inr, refl, sym, ap, ◌∙◌, subst, append_assoc, arith}
use Rattle.std.proofs.lemmas.Bool.Decides.{eqb_tells}
use Rattle.vrl_token.specs.Scan.{HasNoByte}
use Rattle.vrl_token.specs.Quoted.{RawPair}
use Rattle.std.specs.List.{AllByRecursion}
use Rattle.vrl_token.specs.Characters.{Character, IsEscape, IsInside, IsKnown, escape_of, escaped, plain, plains, raw_of, spelling_of, text_of}

-- the characters are plain ones, an escape and others
pub record HasEscape (quote : ℕ) (characters : List Character) (before behind : List ℕ) : Type 0 where
  pub letter : ℕ
  pub others : List Character
  pub parts : characters ≡ plains before ++ escaped letter ∷ others
  pub behind_is : behind ≡ letter ∷ spelling_of others
  pub inside : AllByRecursion (IsInside quote) others

pub find_escape : (quote : ℕ) (characters : List Character) (before behind : List ℕ) → AllByRecursion (IsInside quote) characters → AllByRecursion (λ b. b ≢ 92) before → spelling_of characters ≡ before ++ 92 ∷ behind
    → HasEscape quote characters before behind
find_escape quote [] [] behind inside apart parts = cc
find_escape quote [] (x ∷ xs) behind inside apart parts = cc
find_escape quote (plain b ∷ cs) [] behind inside apart parts = let same : b ≡ 92 = cc in absurd (inside.0.1 same)
find_escape quote (plain b ∷ cs) (x ∷ xs) behind inside apart parts =
    let head : b ≡ x = cc in
    let tail : spelling_of cs ≡ xs ++ 92 ∷ behind = cc in
    let more = find_escape quote cs xs behind inside.1 apart.1 tail in
    record { letter = more.letter; others = more.others; parts = ap (λ y. plain y ∷ cs) head ∙ ap (λ t. plain x ∷ t) more.parts; behind_is = more.behind_is; inside = more.inside }
find_escape quote (escaped b ∷ cs) [] behind inside apart parts =
    let tail : b ∷ spelling_of cs ≡ behind = cc in
    record { letter = b; others = cs; parts = refl; behind_is = sym tail; inside = inside.1 }
find_escape quote (escaped b ∷ cs) (x ∷ xs) behind inside apart parts = let same : x ≡ 92 = cc in absurd (apart.0 same)

pub text_of-escape : (before : List ℕ) (b : ℕ) (others : List Character) → text_of (plains before ++ escaped b ∷ others) ≡ before ++ (escape_of b ∷ [] ++ text_of others)
text_of-escape [] b others = refl
text_of-escape (x ∷ xs) b others = ap (λ t. x ∷ t) (text_of-escape xs b others)

pub raw_of-escape : (before : List ℕ) (b : ℕ) (others : List Character) → raw_of (plains before ++ escaped b ∷ others) ≡ before ++ raw_of (escaped b ∷ others)
raw_of-escape [] b others = refl
raw_of-escape (x ∷ xs) b others = ap (λ t. x ∷ t) (raw_of-escape xs b others)

pub known_escape : (before : List ℕ) (b : ℕ) (others : List Character) → AllByRecursion IsKnown (plains before ++ escaped b ∷ others) → IsEscape b × AllByRecursion IsKnown others
known_escape [] b others known = known
known_escape (x ∷ xs) b others known = known_escape xs b others known.1

pub escape_known : (before : List ℕ) (b : ℕ) (others : List Character) → IsEscape b → AllByRecursion IsKnown others → AllByRecursion IsKnown (plains before ++ escaped b ∷ others)
escape_known [] b others escape known = (escape, known)
escape_known (x ∷ xs) b others escape known = (tt, escape_known xs b others escape known)

-- where no byte is a backslash, each stands for itself
pub text_of-plain : (characters : List Character) → AllByRecursion (λ b. b ≢ 92) (spelling_of characters) → text_of characters ≡ spelling_of characters
text_of-plain [] apart = refl
text_of-plain (plain b ∷ cs) apart = ap (λ t. b ∷ t) (text_of-plain cs apart.1)
text_of-plain (escaped b ∷ cs) apart = absurd (apart.0 refl)

pub raw_of-plain : (characters : List Character) → AllByRecursion (λ b. b ≢ 92) (spelling_of characters) → raw_of characters ≡ spelling_of characters
raw_of-plain [] apart = refl
raw_of-plain (plain b ∷ cs) apart = ap (λ t. b ∷ t) (raw_of-plain cs apart.1)
raw_of-plain (escaped b ∷ cs) apart = absurd (apart.0 refl)

pub known_plain : (characters : List Character) → AllByRecursion (λ b. b ≢ 92) (spelling_of characters) → AllByRecursion IsKnown characters
known_plain [] apart = tt
known_plain (plain b ∷ cs) apart = (tt, known_plain cs apart.1)
known_plain (escaped b ∷ cs) apart = absurd (apart.0 refl)

-- ---- reading on from a place

-- what is read of a text's characters so far, and the characters that are left
pub record IsReadSoFar (all : List Character) (out rest : List ℕ) : Type 0 where
  pub left : List Character
  pub inside : AllByRecursion (IsInside 34) left
  pub parts : rest ≡ spelling_of left
  pub value : text_of all ≡ out ++ text_of left
  pub known : AllByRecursion IsKnown left → AllByRecursion IsKnown all
  pub only : AllByRecursion IsKnown all → AllByRecursion IsKnown left

-- what stands behind the next backslash
pub next_escape : {all : List Character} {out rest before behind : List ℕ} → IsReadSoFar all out rest → AllByRecursion (λ b. b ≢ 92) before → rest ≡ before ++ 92 ∷ behind → (next : List Character) × HasEscape 34 next before behind
    × (text_of all ≡ out ++ text_of next) × (AllByRecursion IsKnown next → AllByRecursion IsKnown all) × (AllByRecursion IsKnown all → AllByRecursion IsKnown next)
next_escape {all} {out} {rest} {before} {behind} so_far apart parts =
    (so_far.left, find_escape 34 so_far.left before behind so_far.inside apart (sym so_far.parts ∙ parts), so_far.value, so_far.known, so_far.only)

pub read_escape : {all : List Character} {out rest escape behind meaning : List ℕ} (before : List ℕ) (letter : ℕ) → IsReadSoFar all out rest → AllByRecursion (λ b. b ≢ 92) before → rest ≡ before ++ 92 ∷ escape → escape ≡ letter ∷ behind
    → IsEscape letter → meaning ≡ escape_of letter ∷ [] → IsReadSoFar all ((out ++ before) ++ meaning) behind
read_escape {all} {out} {rest} {escape} {behind} {meaning} before letter so_far apart parts cut is_escape means =
    let next = next_escape so_far apart parts in
    let has = next.1 in
    let same : has.letter ≡ letter = cc (has.behind_is, cut) in
    let tail : behind ≡ spelling_of has.others = cc (has.behind_is, cut) in
    record {
      left = has.others;
      inside = has.inside;
      parts = tail;
      value = next.2 ∙ ap (λ cs. out ++ text_of cs) has.parts ∙ ap (λ t. out ++ t) (text_of-escape before has.letter has.others)
          ∙ ap (λ b. out ++ (before ++ (escape_of b ∷ [] ++ text_of has.others))) same
          ∙ ap (λ m. out ++ (before ++ (m ++ text_of has.others))) (sym means)
          ∙ sym (append_assoc (out ++ before) meaning (text_of has.others) ∙ append_assoc out before (meaning ++ text_of has.others));
      known = λ h. next.3 (subst (AllByRecursion IsKnown) (sym has.parts) (escape_known before has.letter has.others (subst IsEscape (sym same) is_escape) h));
      only = λ h. (known_escape before has.letter has.others (subst (AllByRecursion IsKnown) has.parts (next.4 h))).1;
    }

-- a letter that is no escape
pub unknown_letter : {all : List Character} {out rest escape behind : List ℕ} (before : List ℕ) (letter : ℕ) → IsReadSoFar all out rest → AllByRecursion (λ b. b ≢ 92) before → rest ≡ before ++ 92 ∷ escape → escape ≡ letter ∷ behind
    → ¬ IsEscape letter → ¬ AllByRecursion IsKnown all
unknown_letter {all} {out} {rest} {escape} {behind} before letter so_far apart parts cut other known =
    let next = next_escape so_far apart parts in
    let has = next.1 in
    let same : has.letter ≡ letter = cc (has.behind_is, cut) in
    other (subst IsEscape same (known_escape before has.letter has.others (subst (AllByRecursion IsKnown) has.parts (next.4 known))).0)

pub read_end : {all : List Character} {out rest : List ℕ} → IsReadSoFar all out rest → AllByRecursion (λ b. b ≢ 92) rest → AllByRecursion IsKnown all × (text_of all ≡ out ++ rest)
read_end {all} {out} {rest} so_far apart =
    let plain_left = subst (AllByRecursion (λ b. b ≢ 92)) so_far.parts apart in
    (so_far.known (known_plain so_far.left plain_left), so_far.value ∙ ap (λ t. out ++ t) (text_of-plain so_far.left plain_left ∙ sym so_far.parts))

-- a character of several bytes behind a backslash is no escape
high_letter : (letter : ℕ) (escape rest : List ℕ) → escape ≡ letter ∷ rest → HasNoByte escape → ¬ IsEscape letter
high_letter letter escape rest is high known = let big : 128 ≤ letter = subst HasNoByte is high in grind (arith, known, big)

pub unknown_byte : {all : List Character} {out rest : List ℕ} (before escape : List ℕ) → IsReadSoFar all out rest → AllByRecursion (λ b. b ≢ 92) before → rest ≡ before ++ 92 ∷ escape → HasNoByte escape → ¬ AllByRecursion IsKnown all
unknown_byte {all} {out} {rest} before escape so_far apart parts high known =
    let next = next_escape so_far apart parts in
    let has = next.1 in
    high_letter has.letter escape (spelling_of has.others) has.behind_is high (known_escape before has.letter has.others (subst (AllByRecursion IsKnown) has.parts (next.4 known))).0

-- ---- raw texts

pub record IsRawSoFar (all : List Character) (out rest : List ℕ) : Type 0 where
  pub left : List Character
  pub inside : AllByRecursion (IsInside 39) left
  pub parts : rest ≡ spelling_of left
  pub value : raw_of all ≡ out ++ raw_of left

other_letter : (letter : ℕ) (others : List Character) → letter ≢ 39 → raw_of (escaped letter ∷ others) ≡ 92 ∷ letter ∷ raw_of others
other_letter letter others other = elim (eqb_tells letter 39) [ inl same ↦ absurd (other same.1) | inr apart ↦ rw apart.0 refl ]

-- what a pair stands for, and the characters behind it
record IsPairRead (letter : ℕ) (others : List Character) (meaning behind : List ℕ) : Type 0 where
  left : List Character
  inside : AllByRecursion (IsInside 39) left
  parts : behind ≡ spelling_of left
  value : raw_of (escaped letter ∷ others) ≡ meaning ++ raw_of left

pair_read : (letter : ℕ) (others : List Character) (escape meaning behind : List ℕ) → AllByRecursion (IsInside 39) others → escape ≡ letter ∷ spelling_of others → RawPair escape meaning behind → IsPairRead letter others meaning behind
pair_read letter others escape meaning behind inside is pair =
    elim pair [
      | inl quote ↦
          let same : letter ≡ 39 = cc (is, quote.0) in
          let tail : behind ≡ spelling_of others = cc (is, quote.0) in
          record { left = others; inside = inside; parts = tail; value = rw (same, quote.1) refl }
      | inr (inl slash) ↦
          let same : letter ≡ 92 = cc (is, slash.0) in
          let tail : behind ≡ spelling_of others = cc (is, slash.0) in
          record { left = others; inside = inside; parts = tail; value = rw (same, slash.1) refl }
      | inr (inr other) ↦
          record {
            left = plain letter ∷ others;
            inside = ((λ e. other.2 (spelling_of others) (is ∙ ap (λ b. b ∷ spelling_of others) e), λ e. other.3 (spelling_of others) (is ∙ ap (λ b. b ∷ spelling_of others) e)), inside);
            parts = sym other.0 ∙ is;
            value = other_letter letter others (λ e. other.2 (spelling_of others) (is ∙ ap (λ b. b ∷ spelling_of others) e)) ∙ ap (λ m. m ++ letter ∷ raw_of others) (sym other.1);
          }
    ]

pub raw_escape : {all : List Character} {out rest escape meaning behind : List ℕ} (before : List ℕ) → IsRawSoFar all out rest → AllByRecursion (λ b. b ≢ 92) before → rest ≡ before ++ 92 ∷ escape → RawPair escape meaning behind
    → IsRawSoFar all ((out ++ before) ++ meaning) behind
raw_escape {all} {out} {rest} {escape} {meaning} {behind} before so_far apart parts pair =
    let has = find_escape 39 so_far.left before escape so_far.inside apart (sym so_far.parts ∙ parts) in
    let read = pair_read has.letter has.others escape meaning behind has.inside has.behind_is pair in
    record {
      left = read.left;
      inside = read.inside;
      parts = read.parts;
      value = so_far.value ∙ ap (λ cs. out ++ raw_of cs) has.parts ∙ ap (λ t. out ++ t) (raw_of-escape before has.letter has.others)
          ∙ ap (λ t. out ++ (before ++ t)) read.value ∙ sym (append_assoc (out ++ before) meaning (raw_of read.left) ∙ append_assoc out before (meaning ++ raw_of read.left));
    }

pub raw_end : {all : List Character} {out rest : List ℕ} → IsRawSoFar all out rest → AllByRecursion (λ b. b ≢ 92) rest → out ++ rest ≡ raw_of all
raw_end {all} {out} {rest} so_far apart =
    let plain_left = subst (AllByRecursion (λ b. b ≢ 92)) so_far.parts apart in
    sym (so_far.value ∙ ap (λ t. out ++ t) (raw_of-plain so_far.left plain_left ∙ sym so_far.parts))
