-- Characters before a closing quote.
use Rattle.std.proofs.Common.{◌≡◌, ◌≢◌, ℕ, suc, ◌+◌, ◌<◌, Bool, true, false, List, [], ◌∷◌, ◌++◌, length, get_or, take, drop, inl, inr, refl, sym, ap, ◌∙◌, subst, append_assoc, arith, add-one}
use Rattle.std.proofs.Math.Seq.{take-suc, split_at, take-length}
use Rattle.std.proofs.lemmas.List.{append-nil, length-take-le}
use Rattle.std.proofs.lemmas.List.{drop_at, length-append}
use Rattle.std.proofs.Math.Seq.{get_or-append_seam}
use Rattle.std.proofs.lemmas.Str.{IsCharBoundary-after_ascii, IsCharBoundary-before_ascii, IsUtf8-drop}
use Rattle.std.specs.List.{AllByRecursion}
use Rattle.std.specs.Str.{IsUtf8, IsCharBoundary}
use Rattle.vrl_token.specs.Characters.{Character, IsInside, IsUnclosed, escaped, plain, spelling_of}
use Rattle.vrl_token.specs.Quoted.{IsClosedAt}

pub spelling_of-append : (cs ds : List Character) → spelling_of (cs ++ ds) ≡ spelling_of cs ++ spelling_of ds
spelling_of-append [] ds = refl
spelling_of-append (plain b ∷ cs) ds = ap (λ t. b ∷ t) (spelling_of-append cs ds)
spelling_of-append (escaped b ∷ cs) ds = ap (λ t. 92 ∷ b ∷ t) (spelling_of-append cs ds)

pub all-append : {X : Type 0} (P : X → Type 0) (xs ys : List X) → AllByRecursion P xs → AllByRecursion P ys → AllByRecursion P (xs ++ ys)
all-append P [] ys left right = right
all-append P (x ∷ xs) ys left right = (left.0, all-append P xs ys left.1 right)

abbrev pub tail_of : Bool → List ℕ
tail_of true = 92 ∷ []
tail_of false = []

-- The bytes before a place are characters that may stand between the quotes. The flag says that the last byte is a backslash, behind them.
pub record IsScanned (quote : ℕ) (text : List ℕ) (place : ℕ) (pending : Bool) : Type 0 where
  pub characters : List Character
  pub inside : AllByRecursion (IsInside quote) characters
  pub parts : take place text ≡ spelling_of characters ++ tail_of pending

pub scanned_none : (quote : ℕ) (text : List ℕ) → IsScanned quote text 0 false
scanned_none quote text = record { characters = []; inside = tt; parts = refl }

pub one_more : (text : List ℕ) (place next b : ℕ) (front : List ℕ) → next ≡ place + 1 → place < length text → get_or text place 0 ≡ b → take place text ≡ front → take next text ≡ front ++ b ∷ []
one_more text place next b front is below byte before =
    rw (is, add-one) (take-suc text place 0 below ∙ ap (λ t. t ++ get_or text place 0 ∷ []) before ∙ ap (λ x. front ++ x ∷ []) byte)

pub scanned_plain : {quote : ℕ} (text : List ℕ) (place next b : ℕ) → IsScanned quote text place false → next ≡ place + 1 → place < length text → get_or text place 0 ≡ b → b ≢ 92 → b ≢ quote → IsScanned quote text next false
scanned_plain {quote} text place next b scanned is below byte other apart = record {
  characters = scanned.characters ++ plain b ∷ [];
  inside = all-append (IsInside quote) scanned.characters (plain b ∷ []) scanned.inside ((apart, other), tt);
  parts = one_more text place next b (spelling_of scanned.characters) is below byte (scanned.parts ∙ append-nil (spelling_of scanned.characters)) ∙ sym (append-nil _ ∙ spelling_of-append scanned.characters (plain b ∷ []));
}

pub scanned_backslash : {quote : ℕ} (text : List ℕ) (place next b : ℕ) → IsScanned quote text place false → next ≡ place + 1 → place < length text → get_or text place 0 ≡ b → b ≡ 92 → IsScanned quote text next true
scanned_backslash {quote} text place next b scanned is below byte slash = record {
  characters = scanned.characters;
  inside = scanned.inside;
  parts = one_more text place next 92 (spelling_of scanned.characters) is below (byte ∙ slash) (scanned.parts ∙ append-nil (spelling_of scanned.characters));
}

pub scanned_escaped : {quote : ℕ} (text : List ℕ) (place next b : ℕ) → IsScanned quote text place true → next ≡ place + 1 → place < length text → get_or text place 0 ≡ b → IsScanned quote text next false
scanned_escaped {quote} text place next b scanned is below byte = record {
  characters = scanned.characters ++ escaped b ∷ [];
  inside = all-append (IsInside quote) scanned.characters (escaped b ∷ []) scanned.inside (tt, tt);
  parts = one_more text place next b (spelling_of scanned.characters ++ 92 ∷ []) is below byte scanned.parts ∙ append_assoc (spelling_of scanned.characters) (92 ∷ []) (b ∷ []) ∙ sym (append-nil _ ∙ spelling_of-append scanned.characters (escaped b ∷ []));
}

pub scanned_closes : {quote : ℕ} (text : List ℕ) (place : ℕ) → IsScanned quote text place false → place < length text → get_or text place 0 ≡ quote → IsClosedAt quote text place
scanned_closes {quote} text place scanned below byte =
    let front : take place text ≡ spelling_of scanned.characters = scanned.parts ∙ append-nil _ in
    record {
      characters = scanned.characters;
      behind = drop (suc place) text;
      is_quoted = record { parts = split_at text place 0 below ∙ ap (λ t. t ++ get_or text place 0 ∷ drop (suc place) text) front ∙ ap (λ b. spelling_of scanned.characters ++ b ∷ drop (suc place) text) byte; inside = scanned.inside };
      at = ap length (sym front) ∙ length-take-le place text (omega arith);
    }

pub scanned_all : {quote : ℕ} (text : List ℕ) (pending : Bool) → IsScanned quote text (length text) pending → IsUnclosed quote text
scanned_all text true scanned = record { characters = scanned.characters; parts = inr (sym (take-length text) ∙ scanned.parts); inside = scanned.inside }
scanned_all text false scanned = record { characters = scanned.characters; parts = inl (sym (take-length text) ∙ scanned.parts ∙ append-nil _); inside = scanned.inside }

-- ---- cutting at the quote

pub quote_stands : {quote place : ℕ} {text : List ℕ} → IsClosedAt quote text place → (place < length text) × (get_or text place 0 ≡ quote)
quote_stands {quote} {place} {text} closed =
    let front = spelling_of closed.characters in
    (rw (closed.is_quoted.parts, length-append) (let size = closed.at in omega arith), rw (closed.is_quoted.parts, ← closed.at) (get_or-append_seam front quote closed.behind 0))

pub behind_quote : {quote place : ℕ} {text : List ℕ} (closed : IsClosedAt quote text place) → drop place text ≡ quote ∷ closed.behind
behind_quote {quote} {place} {text} closed = ap (drop place) closed.is_quoted.parts ∙ drop_at (spelling_of closed.characters) (quote ∷ closed.behind) place closed.at

pub boundary_at_quote : {quote place : ℕ} {text : List ℕ} → IsClosedAt quote text place → quote < 128 → IsCharBoundary text place
boundary_at_quote {quote} {place} {text} closed ascii = let stands = quote_stands closed in IsCharBoundary-before_ascii text place stands.0 (rw stands.1 ascii)

pub boundary_one : (text bytes : List ℕ) → IsUtf8 text → bytes ≡ text → 0 < length bytes → get_or bytes 0 0 < 128 → IsCharBoundary text 1
boundary_one text bytes utf8 same some ascii = IsCharBoundary-after_ascii text 0 utf8 (subst (λ t. 0 < length t) same some) (subst (λ t. get_or t 0 0 < 128) same ascii)

pub boundary_behind_quote : {quote place : ℕ} {text closing : List ℕ} → IsUtf8 text → IsClosedAt quote text place → closing ≡ drop place text → quote < 128 → IsCharBoundary closing 1
boundary_behind_quote {quote} {place} {text} {closing} utf8 closed is ascii =
    let whole : closing ≡ quote ∷ closed.behind = is ∙ behind_quote closed in
    boundary_one closing (quote ∷ closed.behind) (subst IsUtf8 (sym is) (IsUtf8-drop text place utf8 (boundary_at_quote closed ascii))) (sym whole) (omega arith) ascii
