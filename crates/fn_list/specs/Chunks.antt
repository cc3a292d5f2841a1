-- `chunks`: a text in pieces of so many characters.
use Rattle.std.specs.Prelude.{ℕ, zero, suc, ℤ, pos, Bool, true, List, [], ◌∷◌, map, take, drop, length, chars, Option, Some, codes, int_lt, unsigned_abs, if◌then◌else◌}
use Rattle.std.specs.Str.{encode_utf8_all}
use Rattle.vrl_value.specs.Tree.{Tree, string, integer, array}
use Rattle.vrl_value.specs.View.{items_of_trees}
use Rattle.vrl_value.specs.declared.value.Tag.TheVariants as tag
use Rattle.vrl_kind.specs.Kinds.{only_at}
use Rattle.vrl_builtin.specs.Containers.{array_of}
use Rattle.vrl_builtin.specs.Rows.{Row, Answer, value, failure, named, any_literal, integer_at, literal_at, parameter, text_at}
use Rattle.vrl_builtin.specs.TagSets.{integers, strings}

-- the first so many characters, and then the pieces of the rest, of which there are no more than
-- the first number
abbrev pub cut_up : ℕ → ℕ → List ℕ → List (List ℕ)
cut_up zero size cs = []
cut_up (suc most) size [] = []
cut_up (suc most) size (c ∷ cs) = take size (c ∷ cs) ∷ cut_up most size (drop size (c ∷ cs))

-- a text has no more pieces than characters
abbrev pub pieces_of : ℕ → List ℕ → List (List ℕ)
pieces_of size s = map encode_utf8_all (cut_up (length (chars s)) size (chars s))

abbrev pub is_small : ℤ → Bool
is_small n = int_lt n (pos 1)

abbrev pub chunked : List ℕ → ℤ → Answer
chunked s n = if is_small n then failure (codes "chunk_size below 1")
    else value (array (items_of_trees (map string (pieces_of (unsigned_abs n) s))))

-- unless the size is a literal of at least 1
abbrev pub may_be_small : Option Tree → Bool
may_be_small (Some (integer n)) = is_small n
may_be_small literal = true

abbrev pub chunks_row : Row
chunks_row = record {
  name = codes "chunks";
  parameters = parameter (codes "value") strings ∷ parameter (codes "chunk_size") integers ∷ [];
  accepts = any_literal;
  kind = λ givens sources. array_of (only_at tag.Text);
  may_fail = λ givens. may_be_small (literal_at 1 givens);
  means =
      λ arguments setting. named (codes "chunks") (chunked (text_at 0 [] arguments) (integer_at 1 (pos 1) arguments));
}
