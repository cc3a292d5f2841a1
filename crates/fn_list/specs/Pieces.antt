-- A text cut character by character, as the code does it; what comes of it is what `Chunks` says.
use Rattle.std.specs.Prelude.{ℕ, List, [], ◌∷◌, ◌++◌, map, nat_lt, pred, encode_utf8, string_bytes, if◌then◌else◌}
use Rattle.vrl_value.specs.Tree.{Tree}
use Rattle.vrl_value.specs.View.{tree_of}
use Rattle.vrl_value.specs.Tree.{string}
use Rattle.fn_list.specs.declared.chunks.Cutting.{Cutting}

-- the pieces that are full, as values, the one that isn't, and how many characters it has room for
pub record Cut : Type 0 where
  pub closed : List Tree
  pub current : List ℕ
  pub room : ℕ

abbrev pub seen : Cutting → Cut
seen c = record { closed = map tree_of c.closed.items; current = string_bytes c.current; room = c.room }

-- with one character more
abbrev pub with_character : ℕ → Cut → ℕ → Cut
with_character size s c =
    if nat_lt 1 s.room then record { closed = s.closed; current = s.current ++ encode_utf8 c; room = pred s.room }
    else record { closed = s.closed ++ (string (s.current ++ encode_utf8 c) ∷ []); current = []; room = size }

abbrev pub with_characters : ℕ → Cut → List ℕ → Cut
with_characters size s [] = s
with_characters size s (c ∷ cs) = with_characters size (with_character size s c) cs

-- with the last piece, unless it is empty
abbrev pub last_piece : List ℕ → List Tree
last_piece [] = []
last_piece (b ∷ bs) = string (b ∷ bs) ∷ []

abbrev pub all_pieces : Cut → List Tree
all_pieces s = s.closed ++ last_piece s.current

abbrev pub start : ℕ → Cut
start size = record { closed = []; current = []; room = size }
