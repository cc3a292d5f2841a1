-- The gaps of a layout are spelled so, and what they keep of the pieces before them.
use Rattle.std.proofs.Common.{◌≡◌, refl, ℕ, zero, suc, ◌<◌, Bool, true, false, List, [], ◌∷◌, ◌++◌, Option, Some, None, inl, length, arith}
use Rattle.std.specs.List.{AllByRecursion}
use Rattle.std.specs.Prelude.{replicate, ◌*◌}
use Rattle.vrl_token.specs.declared.piece.Piece.{Piece}
use Rattle.vrl_token.specs.declared.piece.Piece.TheVariants.{Blank, Newline}
use Rattle.vrl_token.specs.Context.{closes_before, operand_before, regexes_before}
use Rattle.vrl_token.specs.Lexical.{BeginsOutside, IsBlank}
use Rattle.vrl_token.specs.Pieces.{IsGap}
use Rattle.vrl_format.specs.Layout.{Gap, nothing, space, break, blocks_at, gap, indent}
use Rattle.vrl_format.specs.Pieces.{Between, Sort}
use Rattle.vrl_format.proofs.Cuts.{AreSpelled, joined}
use Rattle.vrl_format.proofs.Elements.{Plan, cuts_of, gap_plans, indent_plans, lead_plans}

-- ---- pieces before a place, behind a gap

abbrev pub indent_behind : ℕ → List Piece → List Piece
indent_behind zero after = after
indent_behind (suc blocks) after = Blank ∷ after

abbrev pub gap_behind : Gap → ℕ → List Piece → List Piece
gap_behind nothing blocks after = after
gap_behind space blocks after = Blank ∷ after
gap_behind (break false) blocks after = indent_behind blocks (Newline ∷ after)
gap_behind (break true) blocks after = indent_behind blocks (Newline ∷ Newline ∷ after)

abbrev pub lead_behind : Option Sort → List Between → Sort → ℕ → List Piece → List Piece
lead_behind None between s blocks after = after
lead_behind (Some a) between s blocks after = gap_behind (gap a between s) (blocks_at s blocks) after

-- ---- blanks

all_blank : (n : ℕ) → AllByRecursion IsBlank (replicate n 32)
all_blank zero = tt
all_blank (suc n) = (inl refl, all_blank n)

some_copies : (n : ℕ) (b : ℕ) → 0 < n → 0 < length (replicate n b)
some_copies zero b some = some
some_copies (suc n) b some = omega arith

is_gap : (blanks rest : List ℕ) → 0 < length blanks → AllByRecursion IsBlank blanks → BeginsOutside IsBlank rest
    → IsGap (blanks ++ rest) rest
is_gap blanks rest some all ends =
    record { gap = blanks; some = some; run = record { parts = refl; passes = all; ends = ends } }

-- ---- gaps

indent_spelled : (blocks : ℕ) (after : List Piece) (later : List Plan) → BeginsOutside IsBlank (joined (cuts_of later))
    → AreSpelled (indent_behind blocks after) (cuts_of later) → AreSpelled after (cuts_of (indent_plans blocks later))
indent_spelled zero after later apart spelled = spelled
indent_spelled (suc blocks) after later apart spelled = (
  is_gap (indent (suc blocks)) (joined (cuts_of later)) (some_copies (2 * suc blocks) 32 (omega arith))
      (all_blank (2 * suc blocks)) apart,
  spelled,
)

pub gap_spelled : (g : Gap) (blocks : ℕ) (q : Bool) (after : List Piece) (later : List Plan)
    → BeginsOutside IsBlank (joined (cuts_of later))
    → AreSpelled (gap_behind g blocks after) (cuts_of later) → AreSpelled after (cuts_of (gap_plans g blocks q later))
gap_spelled nothing blocks q after later apart spelled = spelled
gap_spelled space blocks q after later apart spelled =
    (is_gap (32 ∷ []) (joined (cuts_of later)) (omega arith) (inl refl, tt) apart, spelled)
gap_spelled (break false) blocks q after later apart spelled =
    (refl, indent_spelled blocks (Newline ∷ after) later apart spelled)
gap_spelled (break true) blocks q after later apart spelled =
    (refl, (refl, indent_spelled blocks (Newline ∷ Newline ∷ after) later apart spelled))

pub lead_spelled : (last : Option Sort) (between : List Between) (s : Sort) (blocks : ℕ) (q : Bool) (after : List Piece)
    (later : List Plan)
    → BeginsOutside IsBlank (joined (cuts_of later))
    → AreSpelled (lead_behind last between s blocks after) (cuts_of later)
    → AreSpelled after (cuts_of (lead_plans last between s blocks q later))
lead_spelled None between s blocks q after later apart spelled = spelled
lead_spelled (Some a) between s blocks q after later apart spelled =
    gap_spelled (gap a between s) (blocks_at s blocks) q after later apart spelled

-- ---- what gaps keep

indent_regexes : (blocks : ℕ) (after : List Piece) → regexes_before (indent_behind blocks after) ≡ regexes_before after
indent_regexes zero after = refl
indent_regexes (suc blocks) after = refl

gap_regexes : (g : Gap) (blocks : ℕ) (after : List Piece)
    → regexes_before (gap_behind g blocks after) ≡ regexes_before after
gap_regexes nothing blocks after = refl
gap_regexes space blocks after = refl
gap_regexes (break false) blocks after = indent_regexes blocks (Newline ∷ after)
gap_regexes (break true) blocks after = indent_regexes blocks (Newline ∷ Newline ∷ after)

pub lead_regexes : (last : Option Sort) (between : List Between) (s : Sort) (blocks : ℕ) (after : List Piece)
    → regexes_before (lead_behind last between s blocks after) ≡ regexes_before after
lead_regexes None between s blocks after = refl
lead_regexes (Some a) between s blocks after = gap_regexes (gap a between s) (blocks_at s blocks) after

-- behind a newline no operand stands, nor a bracket that closes
pub indent_operand : (blocks : ℕ) (after : List Piece) → operand_before (indent_behind blocks (Newline ∷ after)) ≡ false
indent_operand zero after = refl
indent_operand (suc blocks) after = refl

pub indent_closes : (blocks : ℕ) (after : List Piece) → closes_before (indent_behind blocks (Newline ∷ after)) ≡ false
indent_closes zero after = refl
indent_closes (suc blocks) after = refl
