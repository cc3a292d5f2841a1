use Rattle.std.proofs.Common.{◌≡◌, ◌++◌, drop, map}
use Rattle.std.specs.Str.Lossy.{utf8_lossy}
use Rattle.csv.specs.Records.{fields_of}
use Rattle.vrl_value.specs.Tree.{string}
use Rattle.vrl_value.specs.View.{tree_of}
use Rattle.fn_parse.proofs.parse_csv.texts_of.Given as goal

-- the fields that were shown and those that are left are the row's
abbrev pub invariant-loop-field : goal.invariant-loop-field
invariant-loop-field l = record {
  row : l.field-iterator.row.now ≡ l.row;
  shown : map tree_of l.texts.items ++ map (λ f. string (utf8_lossy f)) (drop l.field-iterator.at (fields_of l.row)) ≡ map (λ f. string (utf8_lossy f)) (fields_of l.row);
}
