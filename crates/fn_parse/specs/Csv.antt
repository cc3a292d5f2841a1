-- `parse_csv`: the fields of the first row of a text of comma-separated values (RFC 4180), by the
-- default reader of the crate `csv`.
use Rattle.std.specs.Prelude.{ℕ, Bool, true, false, ◌==◌, ◌&&◌, ◌||◌, not, List, [], ◌∷◌, map, length, Option, Some, None, codes, is_none, if◌then◌else◌}
use Rattle.std.specs.Char.{is_ascii}
use Rattle.std.specs.Str.Lossy.{utf8_lossy}
use Rattle.csv.specs.Machine.{Read, next_record}
use Rattle.csv.specs.Reading.{default_config, strip_bom}
use Rattle.csv.specs.declared.parser.Config.{Config}
use Rattle.csv.specs.declared.parser.State.TheVariants.{StartRecord}
use Rattle.vrl_value.specs.Tree.{Tree, string, array}
use Rattle.vrl_value.specs.View.{items_of_trees}
use Rattle.vrl_value.specs.declared.value.Tag.TheVariants as tag
use Rattle.vrl_kind.specs.KindTree.{KindTree}
use Rattle.vrl_kind.specs.Kinds.{only_at}
use Rattle.vrl_builtin.specs.Containers.{array_of}
use Rattle.vrl_builtin.specs.Rows.{Row, Answer, value, failure, named, any_literal, kind_at, literal_at, optional_parameter, parameter, text_at}
use Rattle.vrl_builtin.specs.TagSets.{strings}

-- a character of ASCII other than `"` and the ends of lines
abbrev pub is_delimiter : ℕ → Bool
is_delimiter b = is_ascii b && not (b == 34 || b == 13 || b == 10)

-- the delimiter that is a text's one byte
abbrev pub delimiter_of : List ℕ → Option ℕ
delimiter_of [] = None
delimiter_of (b ∷ bs) = if length bs == 0 && is_delimiter b then Some b else None

-- the reader's setting with a delimiter
abbrev pub delimited_by : ℕ → Config
delimited_by d = record default_config { delimiter = d }

abbrev pub fields_read : Option Read → List (List ℕ)
fields_read None = []
fields_read (Some row) = row.0

-- the fields of the first row; none where there is no row
abbrev pub first_row : ℕ → List ℕ → List (List ℕ)
first_row d s = fields_read (next_record (delimited_by d) StartRecord [] [] (strip_bom s))

-- each field as the text of its bytes, of which those that are no UTF-8 become U+FFFD
abbrev pub row_of : ℕ → List ℕ → Tree
row_of d s = array (items_of_trees (map (λ f. string (utf8_lossy f)) (first_row d s)))

abbrev pub parsed_by : Option ℕ → List ℕ → Answer
parsed_by None s = failure (codes "bad delimiter")
parsed_by (Some d) s = value (row_of d s)

-- unless the delimiter isn't given, or is a literal that is one
abbrev pub may_be_bad : Option KindTree → Option Tree → Bool
may_be_bad K (Some (string s)) = is_none (delimiter_of s)
may_be_bad None None = false
may_be_bad K literal = true

abbrev pub parse_csv_row : Row
parse_csv_row = record {
  name = codes "parse_csv";
  parameters = parameter (codes "value") strings ∷ optional_parameter (codes "delimiter") strings ∷ [];
  accepts = any_literal;
  kind = λ givens sources. array_of (only_at tag.Text);
  may_fail = λ givens. may_be_bad (kind_at 1 givens) (literal_at 1 givens);
  means = λ arguments setting. named (codes "parse_csv")
      (parsed_by (delimiter_of (text_at 1 (codes ",") arguments)) (text_at 0 [] arguments));
}
