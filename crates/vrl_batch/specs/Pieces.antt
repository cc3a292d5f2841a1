-- What is left of the last take.
use Rattle.std.specs.Prelude.{◌≡◌, ℕ, ◌+◌, ◌≤◌, List, [], ◌∷◌, ◌++◌, length, Option, option_map}
use Rattle.vrl_batch.specs.Limits.{input_limit}
use Rattle.vrl_batch.specs.Reads.{BytesHeld, most_taken}
use Rattle.vrl_batch.specs.declared.fault.BatchFault.{BatchFault}
use Rattle.vrl_batch.specs.declared.fault.BatchFault.TheVariants.{ReadFault, TooMuch, Memory}

-- what is left of the last take, and how many bytes were taken in all
pub record PieceHeld : Type 0 where
  pub rest : List ℕ
  pub taken : ℕ

-- the bytes of a reader that holds this piece, with so many lines behind it
abbrev pub held_by : PieceHeld → ℕ → BytesHeld
held_by piece number = record { held = piece.rest; next = number + 1; taken = piece.taken }

-- a take gave so many bytes, from the front of those left
pub record TakesPiece (piece piece_after : PieceHeld) (left left_after : Option (List ℕ))
    (taken taken_after count : ℕ) : Type 0 where
  pub length_is : length piece_after.rest ≡ count
  pub is_front : left ≡ option_map (λ rest. piece_after.rest ++ rest) left_after
  pub counted : taken_after ≡ taken + count
  pub counted_too : piece_after.taken ≡ piece.taken + count
  pub within : piece_after.taken ≤ input_limit
  pub most : count ≤ most_taken

-- why a take gave none: the source failed and gave no byte, or it has more than the limit and gave
-- one byte of them, which isn't kept
abbrev pub MissesPiece : (piece piece_after : PieceHeld) (left left_after : Option (List ℕ)) (taken taken_after : ℕ)
    → BatchFault → Type 0
MissesPiece piece piece_after left left_after taken taken_after ReadFault =
    (left_after ≡ left) × (taken_after ≡ taken) × (piece_after.taken ≡ piece.taken) × (piece_after.rest ≡ [])
MissesPiece piece piece_after left left_after taken taken_after TooMuch = (byte : ℕ)
    × (left ≡ option_map (λ rest. byte ∷ rest) left_after) × (taken_after ≡ taken + 1) × (piece.taken ≡ input_limit)
    × (piece_after.taken ≡ input_limit + 1) × (piece_after.rest ≡ [])
MissesPiece piece piece_after left left_after taken taken_after Memory = ⊥
