-- What is cut character by character are the pieces.
use Rattle.std.proofs.Common.{◌≡◌, ◌≤◌, ◌+◌, ℕ, zero, suc, Bool, true, false, nat_lt, List, [], ◌∷◌, ◌++◌, map, take, drop, length, encode_utf8, encode_utf8_all, refl, sym, ap, ◌∙◌, append_assoc, arith, if◌then◌else◌}
use Rattle.std.proofs.lemmas.Bool.{ltb-false}
use Rattle.std.proofs.lemmas.List.{append-nil, length-append}
use Rattle.std.proofs.lemmas.Str.{len_utf8_bounds, length-encode}
use Rattle.vrl_value.specs.Tree.{Tree, string}
use Rattle.fn_list.specs.Chunks.{cut_up}
use Rattle.fn_list.specs.Pieces.{all_pieces, last_piece, start, with_character, with_characters, Cut}

pub snoc : (size : ℕ) (s : Cut) (cs : List ℕ) (c : ℕ) → with_characters size s (cs ++ c ∷ []) ≡ with_character size (with_characters size s cs) c
snoc size s [] c = refl
snoc size s (d ∷ cs) c = snoc size (with_character size s d) cs c

-- a piece with characters left to come, and then the others
abbrev texts : List (List ℕ) → List Tree
texts ps = map string (map encode_utf8_all ps)

encode_some : (c : ℕ) → 1 ≤ length (encode_utf8 c)
encode_some c = let long = length-encode c in let some = (len_utf8_bounds c).0 in omega (arith, long, some)

some_byte : (c : ℕ) (bs : List ℕ) → last_piece (bs ++ encode_utf8 c) ≡ string (bs ++ encode_utf8 c) ∷ []
some_byte c bs = by (bs ++ encode_utf8 c) (longer bs) where
  longer : (xs : List ℕ) → 1 ≤ length (xs ++ encode_utf8 c)
  longer xs = let long : length (xs ++ encode_utf8 c) ≡ length xs + length (encode_utf8 c) = length-append xs (encode_utf8 c) in let some : 1 ≤ length (encode_utf8 c) = encode_some c in omega (arith, long, some)

  by : (ys : List ℕ) → 1 ≤ length ys → last_piece ys ≡ string ys ∷ []
  by [] some = let no : ⊥ = omega (arith, some) in absurd no
  by (y ∷ ys) some = refl

-- what one piece with so much room, and the others, come to
abbrev rest_of : ℕ → List ℕ → ℕ → List ℕ → ℕ → List Tree
rest_of size current room [] most = last_piece current
rest_of size current room (c ∷ cs) most = string (current ++ encode_utf8_all (take room (c ∷ cs))) ∷ texts (cut_up most size (drop room (c ∷ cs)))

none_left : (most size : ℕ) → cut_up most size [] ≡ []
none_left zero size = refl
none_left (suc most) size = refl

room_test : (n : ℕ) (b : Bool) → nat_lt 1 (suc (suc n)) ≡ b → b ≡ true
room_test n true is = refl
room_test n false is = let no : suc (suc n) ≤ 1 = ltb-false 1 (suc (suc n)) is in let never : ⊥ = omega (arith, no) in absurd never

-- a piece with room for more
with_room : (size : ℕ) (closed : List Tree) (current : List ℕ) (n c : ℕ) → with_character size (record { closed = closed; current = current; room = suc (suc n) }) c ≡ record { closed = closed; current = current ++ encode_utf8 c; room = suc n }
with_room size closed current n c =
    ap (λ b. if b then record { closed = closed; current = current ++ encode_utf8 c; room = suc n } else record { closed = closed ++ (string (current ++ encode_utf8 c) ∷ []); current = []; room = size }) (room_test n (nat_lt 1 (suc (suc n))) refl)

more_room : (size : ℕ) (current : List ℕ) (n c : ℕ) (cs : List ℕ) (most : ℕ) → rest_of size (current ++ encode_utf8 c) (suc n) cs most ≡ rest_of size current (suc (suc n)) (c ∷ cs) most
more_room size current n c [] most =
    some_byte c current ∙ ap (λ bs. string (current ++ bs) ∷ []) (sym (append-nil (encode_utf8 c))) ∙ ap (λ ps. string (current ++ (encode_utf8 c ++ [])) ∷ texts ps) (sym (none_left most size))
more_room size current n c (d ∷ cs) most = ap (λ bs. string bs ∷ texts (cut_up most size (drop n cs))) (append_assoc current (encode_utf8 c) (encode_utf8_all (take (suc n) (d ∷ cs))))

-- a piece that is full, and the next one
next_piece : (size : ℕ) (c : ℕ) (current : List ℕ) (cs : List ℕ) (most : ℕ) → string (current ++ encode_utf8 c) ∷ rest_of size [] size cs most ≡ rest_of size current 1 (c ∷ cs) (suc most)
next_piece size c current [] most = ap (λ bs. string (current ++ bs) ∷ []) (sym (append-nil (encode_utf8 c)))
next_piece size c current (d ∷ cs) most = ap (λ bs. string (current ++ bs) ∷ texts (cut_up (suc most) size (d ∷ cs))) (sym (append-nil (encode_utf8 c)))

pub all_cut : (size : ℕ) (cs : List ℕ) (most : ℕ) (closed : List Tree) (current : List ℕ) (room : ℕ) → 1 ≤ size → 1 ≤ room → length cs ≤ suc most →
    all_pieces (with_characters size (record { closed = closed; current = current; room = room }) cs) ≡ closed ++ rest_of size current room cs most
all_cut size cs most closed current zero sized some few = let no : ⊥ = omega (arith, some) in absurd no
all_cut size [] most closed current (suc n) sized some few = refl
all_cut size (c ∷ cs) most closed current (suc (suc n)) sized some few =
    ap (λ s. all_pieces (with_characters size s cs)) (with_room size closed current n c) ∙ all_cut size cs most closed (current ++ encode_utf8 c) (suc n) sized (omega arith) (omega (arith, few)) ∙ ap (λ ts. closed ++ ts) (more_room size current n c cs most)
all_cut size (c ∷ []) zero closed current (suc zero) sized some few = append-nil (closed ++ (string (current ++ encode_utf8 c) ∷ [])) ∙ ap (λ bs. closed ++ (string (current ++ bs) ∷ [])) (sym (append-nil (encode_utf8 c)))
all_cut size (c ∷ d ∷ cs) zero closed current (suc zero) sized some few = let no : ⊥ = omega (arith, few) in absurd no
all_cut size (c ∷ cs) (suc most) closed current (suc zero) sized some few =
    all_cut size cs most (closed ++ (string (current ++ encode_utf8 c) ∷ [])) [] size sized sized (omega (arith, few))
    ∙ append_assoc closed (string (current ++ encode_utf8 c) ∷ []) (rest_of size [] size cs most) ∙ ap (λ ts. closed ++ ts) (next_piece size c current cs most)

pub pieces_told : (size : ℕ) (cs : List ℕ) → 1 ≤ size → all_pieces (with_characters size (start size) cs) ≡ texts (cut_up (length cs) size cs)
pieces_told size [] sized = refl
pieces_told size (c ∷ cs) sized = all_cut size (c ∷ cs) (length cs) [] [] size sized sized (omega arith)
