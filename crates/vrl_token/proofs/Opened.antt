-- The first template that opens in the characters between quotes, found byte by byte.
use Rattle.std.proofs.Common.{◌≡◌, ◌≢◌, ℕ, suc, ◌+◌, ◌-◌, ◌≤◌, ◌<◌, ◌==◌, if◌then◌else◌, Some, List, [], ◌∷◌, ◌++◌, length, get_or, take, drop, inl, inr, refl, sym, ap, ◌∙◌, subst, append_assoc, arith}
use denote.Ref.{Bor}
use Rattle.std.proofs.Math.Seq.{get_or-append_seam, split_at, take-length}
use Rattle.std.proofs.lemmas.Bool.Decides.{eqb_tells}
use Rattle.std.proofs.lemmas.List.{append-nil, drop_at, length-append, length-drop, length-take-le, take_at}
use Rattle.std.proofs.lemmas.Str.{IsCharBoundary-after_ascii, IsCharBoundary-before_ascii, IsUtf8-drop}
use Rattle.std.specs.List.{AllByRecursion}
use Rattle.std.specs.Str.{IsUtf8, IsCharBoundary}
use Rattle.vrl_token.specs.declared.template.Pending.{Pending}
use Rattle.vrl_token.specs.declared.template.Pending.TheVariants.{Escape, Brace, Nothing}
use Rattle.vrl_token.specs.Characters.{Character, IsInside, escaped, plain, spelling_of}
use Rattle.vrl_token.specs.Openings.{CutsOpening, IsOpenedAt, IsUnslashed, Opens, pending_behind}
use Rattle.vrl_token.specs.Quoted.{IsInner}
use Rattle.vrl_token.specs.Templates.{HasOpening}
use Rattle.vrl_token.proofs.Quotes.{all-append, one_more, spelling_of-append}

-- ---- characters of which no backslash stands for itself

pub unslashed_of : (cs : List Character) → AllByRecursion (IsInside 34) cs → AllByRecursion IsUnslashed cs
unslashed_of [] inside = tt
unslashed_of (plain b ∷ cs) inside = (inside.0.1, unslashed_of cs inside.1)
unslashed_of (escaped b ∷ cs) inside = (tt, unslashed_of cs inside.1)

-- characters begin with others where their spelling does
pub record IsFront (front cs : List Character) (tail : List ℕ) : Type 0 where
  pub left : List Character
  pub parts : cs ≡ front ++ left
  pub tail_is : tail ≡ spelling_of left

more_front : {front cs : List Character} {tail : List ℕ} (c d : Character) → c ≡ d → IsFront front cs tail → IsFront (d ∷ front) (c ∷ cs) tail
more_front {front} {cs} {tail} c d same is = record { left = is.left; parts = ap (λ x. x ∷ cs) same ∙ ap (λ t. d ∷ t) is.parts; tail_is = is.tail_is }

pub spelled_front : (front cs : List Character) (tail : List ℕ) → AllByRecursion IsUnslashed front → AllByRecursion IsUnslashed cs → spelling_of cs ≡ spelling_of front ++ tail → IsFront front cs tail
spelled_front [] cs tail one two e = record { left = cs; parts = refl; tail_is = sym e }
spelled_front (plain d ∷ front) [] tail one two e = cc
spelled_front (plain d ∷ front) (plain c ∷ cs) tail one two e =
    let head : c ≡ d = cc in
    let rest : spelling_of cs ≡ spelling_of front ++ tail = cc in
    more_front (plain c) (plain d) (ap plain head) (spelled_front front cs tail one.1 two.1 rest)
spelled_front (plain d ∷ front) (escaped c ∷ cs) tail one two e = let slash : d ≡ 92 = cc in absurd (one.0 slash)
spelled_front (escaped d ∷ front) [] tail one two e = cc
spelled_front (escaped d ∷ front) (plain c ∷ cs) tail one two e = let slash : c ≡ 92 = cc in absurd (two.0 slash)
spelled_front (escaped d ∷ front) (escaped c ∷ cs) tail one two e =
    let head : c ≡ d = cc in
    let rest : spelling_of cs ≡ spelling_of front ++ tail = cc in
    more_front (escaped c) (escaped d) (ap escaped head) (spelled_front front cs tail one.1 two.1 rest)

-- two equal bytes that are no backslash stand for themselves
pub record AreTwo (b : ℕ) (cs : List Character) (tail : List ℕ) : Type 0 where
  pub left : List Character
  pub parts : cs ≡ plain b ∷ plain b ∷ left
  pub tail_is : tail ≡ spelling_of left

pub two_plain : (b : ℕ) (cs : List Character) (tail : List ℕ) → b ≢ 92 → b ∷ b ∷ tail ≡ spelling_of cs → AreTwo b cs tail
two_plain b [] tail other e = cc
two_plain b (plain c ∷ []) tail other e = cc
two_plain b (plain c ∷ plain d ∷ cs) tail other e =
    let head : c ≡ b = cc in
    let next : d ≡ b = cc in
    record { left = cs; parts = ap (λ x. plain x ∷ plain d ∷ cs) head ∙ ap (λ x. plain b ∷ plain x ∷ cs) next; tail_is = cc }
two_plain b (plain c ∷ escaped d ∷ cs) tail other e = let slash : b ≡ 92 = cc in absurd (other slash)
two_plain b (escaped c ∷ cs) tail other e = let slash : b ≡ 92 = cc in absurd (other slash)

-- ---- characters in which none opens

pub none_before : (cs ds : List Character) → ¬ HasOpening (cs ++ ds) → ¬ HasOpening cs
none_before cs ds none has = none (record { before = has.before; behind = has.behind ++ ds; parts = ap (λ t. t ++ ds) has.parts ∙ append_assoc has.before (plain 123 ∷ plain 123 ∷ has.behind) ds })

none_in_one : ¬ HasOpening (plain 123 ∷ [])
none_in_one has = let size = ap length has.parts ∙ length-append has.before (plain 123 ∷ plain 123 ∷ has.behind) in omega arith

opening_behind : (c : Character) {cs : List Character} → HasOpening cs → HasOpening (c ∷ cs)
opening_behind c has = record { before = c ∷ has.before; behind = has.behind; parts = ap (λ t. c ∷ t) has.parts }

-- none opens with a `{` behind another character
apart_at : (cs : List Character) (c : Character) → ¬ HasOpening cs → c ≢ plain 123 → (before behind : List Character) → ¬ ((cs ++ c ∷ []) ++ plain 123 ∷ [] ≡ before ++ plain 123 ∷ plain 123 ∷ behind)
apart_at [] c none other [] behind e = let head : c ≡ plain 123 = cc in other head
apart_at [] c none other (x ∷ xs) behind e = let tail : plain 123 ∷ [] ≡ xs ++ plain 123 ∷ plain 123 ∷ behind = cc in none_in_one (record { before = xs; behind = behind; parts = tail })
apart_at (k ∷ []) c none other [] behind e = let next : c ≡ plain 123 = cc in other next
apart_at (k ∷ l ∷ cs) c none other [] behind e =
    let head : k ≡ plain 123 = cc in
    let next : l ≡ plain 123 = cc in
    none (record { before = []; behind = cs; parts = ap (λ x. x ∷ l ∷ cs) head ∙ ap (λ x. plain 123 ∷ x ∷ cs) next })
apart_at (k ∷ cs) c none other (x ∷ xs) behind e =
    let tail : (cs ++ c ∷ []) ++ plain 123 ∷ [] ≡ xs ++ plain 123 ∷ plain 123 ∷ behind = cc in
    apart_at cs c (λ h. none (opening_behind k h)) other xs behind tail

apart : (cs : List Character) (c : Character) → ¬ HasOpening cs → c ≢ plain 123 → ¬ HasOpening ((cs ++ c ∷ []) ++ plain 123 ∷ [])
apart cs c none other has = apart_at cs c none other has.before has.behind has.parts

-- ---- the bytes before a place

-- what is open is spelled so
abbrev pub pending_text : Pending → List ℕ
pending_text Escape = 92 ∷ []
pending_text Brace = 123 ∷ []
pending_text Nothing = []

-- none opens in characters with what is open behind them; a `{` more opens none where nothing is
abbrev pub NoneOpens : Pending → List Character → Type 0
NoneOpens Escape cs = ¬ HasOpening cs
NoneOpens Brace cs = ¬ HasOpening (cs ++ plain 123 ∷ [])
NoneOpens Nothing cs = ¬ HasOpening (cs ++ plain 123 ∷ [])

pub record IsPassed (text : List ℕ) (place : ℕ) (pending : Pending) : Type 0 where
  pub characters : List Character
  pub unslashed : AllByRecursion IsUnslashed characters
  pub parts : take place text ≡ spelling_of characters ++ pending_text pending
  pub none : NoneOpens pending characters

pub passed_none : (text : List ℕ) → IsPassed text 0 Nothing
passed_none text = record { characters = []; unslashed = tt; parts = refl; none = none_in_one }

-- one more character
spelled_more : (cs : List Character) (c : Character) → spelling_of (cs ++ c ∷ []) ++ [] ≡ spelling_of cs ++ spelling_of (c ∷ [])
spelled_more cs c = append-nil _ ∙ spelling_of-append cs (c ∷ [])

not_plain : (b : ℕ) → b ≢ 123 → plain b ≢ plain 123
not_plain b other e = let same : b ≡ 123 = cc in other same

-- behind whole characters, a byte that is no `{`
passed_other : (text : List ℕ) (next b : ℕ) (cs : List Character) → AllByRecursion IsUnslashed cs → ¬ HasOpening cs → take next text ≡ spelling_of cs ++ b ∷ [] → b ≢ 123
    → IsPassed text next (if b == 92 then Escape else if b == 123 then Brace else Nothing)
passed_other text next b cs unslashed none parts other =
    elim (eqb_tells b 92) [
      | inl slash ↦ rw slash.0 (record { characters = cs; unslashed = unslashed; parts = parts ∙ ap (λ x. spelling_of cs ++ x ∷ []) slash.1; none = none })
      | inr no_slash ↦
          elim (eqb_tells b 123) [
            | inl brace ↦ absurd (other brace.1)
            | inr no_brace ↦
                rw (no_slash.0, no_brace.0)
                (record {
                  characters = cs ++ plain b ∷ [];
                  unslashed = all-append IsUnslashed cs (plain b ∷ []) unslashed (no_slash.1, tt);
                  parts = parts ∙ sym (spelled_more cs (plain b));
                  none = apart cs (plain b) none (not_plain b other);
                })
          ]
    ]

-- behind whole characters, a `{`
passed_brace : (text : List ℕ) (next b : ℕ) (cs : List Character) → AllByRecursion IsUnslashed cs → ¬ HasOpening (cs ++ plain 123 ∷ []) → take next text ≡ spelling_of cs ++ b ∷ [] → b ≡ 123
    → IsPassed text next (if b == 92 then Escape else if b == 123 then Brace else Nothing)
passed_brace text next b cs unslashed none parts brace = rw brace (record { characters = cs; unslashed = unslashed; parts = parts ∙ ap (λ x. spelling_of cs ++ x ∷ []) brace; none = none })

pub passed_more : (text : List ℕ) (place next b : ℕ) (pending : Pending) → IsPassed text place pending → next ≡ place + 1 → place < length text → get_or text place 0 ≡ b → ¬ Opens pending b → IsPassed text next (pending_behind pending b)
passed_more text place next b Escape was is below byte opens = record {
  characters = was.characters ++ escaped b ∷ [];
  unslashed = all-append IsUnslashed was.characters (escaped b ∷ []) was.unslashed (tt, tt);
  parts = one_more text place next b (spelling_of was.characters ++ 92 ∷ []) is below byte was.parts ∙ append_assoc (spelling_of was.characters) (92 ∷ []) (b ∷ []) ∙ sym (spelled_more was.characters (escaped b));
  none = apart was.characters (escaped b) was.none (λ e. cc);
}
passed_more text place next b Brace was is below byte opens =
    let braced : List Character = was.characters ++ plain 123 ∷ [] in
    let read : take place text ≡ spelling_of braced = was.parts ∙ sym (spelling_of-append was.characters (plain 123 ∷ [])) in
    passed_other text next b braced (all-append IsUnslashed was.characters (plain 123 ∷ []) was.unslashed ((λ e. omega (arith, e)), tt)) was.none
    (one_more text place next b (spelling_of braced) is below byte read) opens
passed_more text place next b Nothing was is below byte opens =
    let read : take place text ≡ spelling_of was.characters = was.parts ∙ append-nil _ in
    let more = one_more text place next b (spelling_of was.characters) is below byte read in
    elim (eqb_tells b 123) [
      | inl brace ↦ passed_brace text next b was.characters was.unslashed was.none more brace.1
      | inr other ↦ passed_other text next b was.characters was.unslashed (none_before was.characters (plain 123 ∷ []) was.none) more other.1
    ]

-- ---- the end

-- the bytes are those of characters and a part that is no whole one
same_characters : (text : List ℕ) (front cs : List Character) → AllByRecursion IsUnslashed front → AllByRecursion IsUnslashed cs → text ≡ spelling_of front → text ≡ spelling_of cs → cs ≡ front
same_characters text front cs one two is spelled =
    let all = spelled_front front cs [] one two (sym spelled ∙ is ∙ sym (append-nil (spelling_of front))) in
    all.parts ∙ ap (λ t. front ++ t) (none_left all.left all.tail_is) ∙ append-nil front
  where
    none_left : (cs : List Character) → [] ≡ spelling_of cs → cs ≡ []
    none_left [] e = refl
    none_left (plain b ∷ cs) e = cc
    none_left (escaped b ∷ cs) e = cc

no_lone_slash : (cs : List Character) → AllByRecursion IsUnslashed cs → ¬ (92 ∷ [] ≡ spelling_of cs)
no_lone_slash [] unslashed e = cc
no_lone_slash (plain b ∷ cs) unslashed e = let slash : b ≡ 92 = cc in unslashed.0 slash
no_lone_slash (escaped b ∷ cs) unslashed e = cc

pub all_behind : {X : Type 0} (P : X → Type 0) (xs ys : List X) → AllByRecursion P (xs ++ ys) → AllByRecursion P ys
all_behind P [] ys all = all
all_behind P (x ∷ xs) ys all = all_behind P xs ys all.1

pub passed_all : (text : List ℕ) (pending : Pending) (cs : List Character) → IsPassed text (length text) pending → IsInner 34 text cs → ¬ HasOpening cs
passed_all text Escape cs was inner =
    let unslashed = unslashed_of cs inner.inside in
    let all = spelled_front was.characters cs (92 ∷ []) was.unslashed unslashed (sym inner.spelled ∙ sym (take-length text) ∙ was.parts) in
    absurd (no_lone_slash all.left (all_behind IsUnslashed was.characters all.left (subst (AllByRecursion IsUnslashed) all.parts unslashed)) all.tail_is)
passed_all text Brace cs was inner =
    let braced : List Character = was.characters ++ plain 123 ∷ [] in
    let same = same_characters text braced cs (all-append IsUnslashed was.characters (plain 123 ∷ []) was.unslashed ((λ e. omega (arith, e)), tt)) (unslashed_of cs inner.inside)
    (sym (take-length text) ∙ was.parts ∙ sym (spelling_of-append was.characters (plain 123 ∷ []))) inner.spelled in
    subst (λ x. ¬ HasOpening x) (sym same) was.none
passed_all text Nothing cs was inner =
    let same = same_characters text was.characters cs was.unslashed (unslashed_of cs inner.inside) (sym (take-length text) ∙ was.parts ∙ append-nil _) inner.spelled in
    subst (λ x. ¬ HasOpening x) (sym same) (none_before was.characters (plain 123 ∷ []) was.none)

-- ---- an opening

brace_passed : (text : List ℕ) (place : ℕ) (was : IsPassed text place Brace) → place < length text → place ≡ length (spelling_of was.characters) + 1
brace_passed text place was below = sym (length-take-le place text (omega arith)) ∙ ap length was.parts ∙ length-append (spelling_of was.characters) (123 ∷ [])

pub some_passed : (text : List ℕ) (place b : ℕ) (pending : Pending) → IsPassed text place pending → place < length text → Opens pending b → 1 ≤ place
some_passed text place b Escape was below opens = absurd opens
some_passed text place b Brace was below opens = let size = brace_passed text place was below in omega arith
some_passed text place b Nothing was below opens = absurd opens

pub passed_opens : (text : List ℕ) (place b : ℕ) (pending : Pending) → IsPassed text place pending → place < length text → get_or text place 0 ≡ b → Opens pending b → IsOpenedAt text (place - 1)
passed_opens text place b Escape was below byte opens = absurd opens
passed_opens text place b Nothing was below byte opens = absurd opens
passed_opens text place b Brace was below byte opens =
    let size = brace_passed text place was below in
    record {
      before = was.characters;
      behind = drop (suc place) text;
      parts = split_at text place 0 below ∙ ap (λ t. t ++ get_or text place 0 ∷ drop (suc place) text) was.parts
          ∙ append_assoc (spelling_of was.characters) (123 ∷ []) (get_or text place 0 ∷ drop (suc place) text)
          ∙ ap (λ x. spelling_of was.characters ++ 123 ∷ x ∷ drop (suc place) text) (byte ∙ opens);
      unslashed = was.unslashed;
      is_first = was.none;
      at = omega arith;
    }

-- ---- cutting at it

pub opening_stands : {text : List ℕ} {place : ℕ} (is : IsOpenedAt text place) → drop place text ≡ 123 ∷ 123 ∷ is.behind
opening_stands {text} {place} is = ap (drop place) is.parts ∙ drop_at (spelling_of is.before) (123 ∷ 123 ∷ is.behind) place is.at

opening_below : {text : List ℕ} {place : ℕ} → IsOpenedAt text place → place < length text
opening_below {text} {place} is = rw (is.parts, length-append) (let size = is.at in omega arith)

pub boundary_at_opening : {text : List ℕ} {place : ℕ} → IsOpenedAt text place → IsCharBoundary text place
boundary_at_opening {text} {place} is =
    let byte : get_or text place 0 ≡ 123 = rw (is.parts, ← is.at) (get_or-append_seam (spelling_of is.before) 123 (123 ∷ is.behind) 0) in
    IsCharBoundary-before_ascii text place (opening_below is) (rw byte (omega arith))

pub boundary_behind_opening : {text opening : List ℕ} {place : ℕ} → IsUtf8 text → IsOpenedAt text place → opening ≡ drop place text → IsCharBoundary opening 2
boundary_behind_opening {text} {opening} {place} utf8 is cut =
    let whole : opening ≡ 123 ∷ 123 ∷ is.behind = cut ∙ opening_stands is in
    let utf8_opening : IsUtf8 opening = subst IsUtf8 (sym cut) (IsUtf8-drop text place utf8 (boundary_at_opening is)) in
    subst (λ t. IsCharBoundary t 2) (sym whole) (IsCharBoundary-after_ascii (123 ∷ 123 ∷ is.behind) 1 (subst IsUtf8 whole utf8_opening) (omega arith) (omega arith))

pub opening_cut : {text opening before : List ℕ} {place : ℕ} (cs : List Character) (rest : Bor (List ℕ)) → IsOpenedAt text place → before ≡ take place text → opening ≡ drop place text → rest.now ≡ drop 2 opening → IsInner 34 text cs
    → CutsOpening cs before (Some rest)
opening_cut {text} {opening} {before} {place} cs rest is front cut back inner =
    let all = spelled_front is.before cs (123 ∷ 123 ∷ is.behind) is.unslashed (unslashed_of cs inner.inside) (sym inner.spelled ∙ is.parts) in
    let two = two_plain 123 all.left is.behind (λ e. omega (arith, e)) all.tail_is in (
      is.before,
      two.left,
      record { parts = all.parts ∙ ap (λ t. is.before ++ t) two.parts; is_first = is.is_first },
      front ∙ ap (take place) is.parts ∙ take_at (spelling_of is.before) (123 ∷ 123 ∷ is.behind) place is.at,
      back ∙ ap (drop 2) (cut ∙ opening_stands is) ∙ two.tail_is,
    )

-- no more stands behind the opening than in the text
pub behind_opening : (text : List ℕ) {opening rest : List ℕ} (place : ℕ) → opening ≡ drop place text → rest ≡ drop 2 opening → length rest ≤ length text
behind_opening text {opening} place cut back =
    let first = ap length cut ∙ length-drop place text in
    let second = ap length back ∙ length-drop 2 opening in
    omega arith
