-- `to_bool`: the boolean that a value without parts stands for.
use Rattle.std.specs.Prelude.{ℕ, pos, Bool, true, false, not, List, [], ◌∷◌, map, Option, Some, None, codes, bytes_eq, if◌then◌else◌}
use Rattle.std.specs.Char.{to_ascii_lowercase}
use Rattle.std.specs.List.{list_any}
use Rattle.std.specs.Ordering.{int_eq}
use Rattle.vrl_value.specs.Tree.{Tree, string, integer, boolean, null, timestamp, regex, array, object}
use Rattle.vrl_value.specs.declared.value.Tag.TheVariants as tag
use Rattle.vrl_builtin.specs.OneTag.{OneTagRow}
use Rattle.vrl_builtin.specs.Rows.{told, parameter, allowed_at, value_at}
use Rattle.vrl_builtin.specs.TagSets.{no_tags}

-- the same word, the case of ASCII letters ignored
abbrev pub is_word : List ℕ → List ℕ → Bool
is_word s word = bytes_eq (map to_ascii_lowercase s) (map to_ascii_lowercase word)

abbrev pub is_one_of : List (List ℕ) → List ℕ → Bool
is_one_of words s = list_any (is_word s) words

abbrev pub true_words : List (List ℕ)
true_words = codes "true" ∷ codes "t" ∷ codes "yes" ∷ codes "y" ∷ codes "1" ∷ []

abbrev pub false_words : List (List ℕ)
false_words = codes "false" ∷ codes "f" ∷ codes "no" ∷ codes "n" ∷ codes "0" ∷ []

abbrev pub truth_of_word : List ℕ → Option Bool
truth_of_word s = if is_one_of true_words s then Some true else (if is_one_of false_words s then Some false else None)

-- each number but 0 is true, and null is false; none for a string that is no such word
abbrev pub truth_of : Tree → Option Bool
truth_of (string s) = truth_of_word s
truth_of (integer n) = Some (not (int_eq n (pos 0)))
truth_of (boolean b) = Some b
truth_of null = Some false
truth_of (timestamp nanos) = Some false
truth_of (regex n) = Some false
truth_of (array ts) = Some false
truth_of (object ms) = Some false

abbrev pub to_bool_row : OneTagRow
to_bool_row = record {
  name = codes "to_bool";
  parameters =
      parameter (codes "value") (record no_tags { string = true; integer = true; boolean = true; null = true }) ∷ [];
  tag = tag.Bool;
  may_fail = λ givens. allowed_at 0 tag.Text givens;
  means = λ arguments setting. told boolean (codes "not a boolean word") (truth_of (value_at 0 arguments));
}
