-- The steps of a walk over tokens.
use Rattle.std.proofs.Common.{◌≡◌, ◌≤◌, ◌+◌, ℕ, zero, suc, Bool, true, false, All, List, [], ◌∷◌, length, sym, ap, ◌∙◌, subst, arith}
use Rattle.std.specs.Str.{IsCharBoundary}
use Rattle.std.proofs.lemmas.List.Elements.{All-head, All-tail}
use Rattle.vrl_token.specs.Placing.{InOrderFrom, IsOnCharacters, script_limit, spans_of}
use Rattle.vrl_token.specs.declared.token.Spanned.{Spanned}
use Rattle.vrl_token.specs.declared.token.Token.{Token}
use Rattle.vrl_token.specs.declared.token.Token.TheVariants as token
use Rattle.vrl_format.specs.Layout.{blocks_behind}
use Rattle.vrl_format.specs.Pieces.{Sort, block_start, block_end, comment, opener, closer, plain, bytes_between, is_semicolon, remarks_in, sort_of}
use Rattle.vrl_format.specs.Writing.{at_first, put_separator, stepped, taken, walked, Walking, walking_in, with_noted}
use Rattle.vrl_format.specs.declared.walk.Walk.{Walk}
use Rattle.vrl_format.proofs.Noted.{noted_blocks}

-- ---- how many blocks are open

-- each token has a byte
room_for : (start stop : ℕ) (ts : List Spanned) → InOrderFrom start stop (spans_of ts) → length ts + start ≤ stop
room_for start stop [] order = omega (arith, order)
room_for start stop (t ∷ ts) order =
    let more = room_for t.span.end stop ts order.2 in
    let before = order.0 in
    let within = order.1 in omega (arith, more, before, within)

one_more : (s : Sort) (n : ℕ) → blocks_behind s n ≤ suc n
one_more block_start n = omega arith
one_more block_end zero = omega arith
one_more block_end (suc n) = omega arith
one_more comment n = omega arith
one_more opener n = omega arith
one_more closer n = omega arith
one_more plain n = omega arith

separator_room : (text : List ℕ) (k : Walking) (t : Spanned) (behind : List Spanned) (semi bare : Bool) → (put_separator text k t behind semi bare).writing.blocks ≤ suc k.writing.blocks
separator_room text k t behind false bare = omega arith
separator_room text k t behind true true = one_more (sort_of k.braces t.token) k.writing.blocks
separator_room text k t behind true false = omega arith

taken_room : (text : List ℕ) (k : Walking) (t : Spanned) (behind : List Spanned) (u : Token) → (taken text k t behind u).writing.blocks ≤ suc k.writing.blocks
taken_room text k t behind token.Separator = separator_room text k t behind (is_semicolon text t) k.bare
taken_room text k t behind u = one_more (sort_of k.braces t.token) k.writing.blocks

stepped_room : (text : List ℕ) (place : ℕ) (k : Walking) (t : Spanned) (behind : List Spanned) → (stepped text place k t behind).writing.blocks ≤ suc k.writing.blocks
stepped_room text place k t behind =
    let before = bytes_between text place t.span.start in
    let step = taken_room text (with_noted k before) t behind t.token in
    let same = noted_blocks k.writing (remarks_in before) in omega (arith, step, same)

-- ---- the loop

-- the walk came to a place of the text, where these tokens are left, and goes on to what it was to
-- make of all tokens
pub record IsWalkedTo (text : List ℕ) (tokens : List Spanned) (walk : Walk) (place : ℕ) (rest : List Spanned) : Type 0 where
  pub goes_on : walked text place (walking_in walk) rest ≡ walked text 0 at_first tokens
  pub spans : InOrderFrom place (length text) (spans_of rest)
  pub characters : All (λ t. IsOnCharacters text t.span) rest
  pub boundary : IsCharBoundary text place
  pub room : walk.layout.blocks + length rest ≤ script_limit

pub walked_none : (text : List ℕ) (tokens : List Spanned) (walk : Walk) → walking_in walk ≡ at_first → length text ≤ script_limit → InOrderFrom 0 (length text) (spans_of tokens)
    → All (λ t. IsOnCharacters text t.span) tokens → IsCharBoundary text 0 → IsWalkedTo text tokens walk 0 tokens
walked_none text tokens walk first short spans characters boundary = record {
  goes_on = ap (λ k. walked text 0 k tokens) first;
  spans = spans;
  characters = characters;
  boundary = boundary;
  room = let none = ap (λ k. k.writing.blocks) first in let room = room_for 0 (length text) tokens spans in omega (arith, none, room, short);
}

pub walked_on : (text : List ℕ) (tokens : List Spanned) (walk next : Walk) (place : ℕ) (rest behind : List Spanned) (first : Spanned) → rest ≡ first ∷ behind → IsWalkedTo text tokens walk place rest
    → walking_in next ≡ stepped text place (walking_in walk) first behind → IsWalkedTo text tokens next first.span.end behind
walked_on text tokens walk next place rest behind first is at step =
    let P : Spanned → Type 0 = λ t. IsOnCharacters text t.span in
    let each : All P (first ∷ behind) = subst (All P) is at.characters in record {
      goes_on = ap (λ k. walked text first.span.end k behind) step ∙ ap (walked text place (walking_in walk)) (sym is) ∙ at.goes_on;
      spans = (subst (λ r. InOrderFrom place (length text) (spans_of r)) is at.spans).2;
      characters = All-tail P first behind each;
      boundary = (All-head P first behind each).1;
      room =
          let blocks = ap (λ k. k.writing.blocks) step in
          let more = stepped_room text place (walking_in walk) first behind in
          let long = ap length is in
          let room = at.room in omega (arith, blocks, more, long, room);
    }
