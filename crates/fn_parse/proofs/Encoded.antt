-- The members of an object, as they are written one after the other.
use Rattle.std.proofs.Common.{◌≡◌, ◌++◌, ◌==◌, ℕ, false, List, [], ◌∷◌, Option, Some, None, IsTrue, String, Global, codes, string_bytes, length, refl, sym, ap, ◌∙◌, append_assoc}
use Rattle.std.proofs.lemmas.Bool.{and_parts, true≢false}
use Rattle.std.proofs.lemmas.List.{append-nil}
use Rattle.std.specs.List.{list_any}
use Rattle.vrl_value.specs.Regexes.{members_regexes_below, regexes_below}
use Rattle.vrl_value.specs.Tree.{Tree, string, integer, boolean, null, timestamp, regex, array, object, Members, no_members, member}
use Rattle.vrl_value.specs.View.{members_view, tree_of}
use Rattle.vrl_value.specs.declared.value.Value.{Value}
use Rattle.vrl_builtin.specs.Conditions.{arguments_below}
use Rattle.vrl_builtin.specs.Rows.{argument_at, members_given, optional_members, value_or}
use Rattle.fn_parse.proofs.Below.{argument_below}
use Rattle.fn_parse.specs.EncodeKeyValue.{field_text, is_special, spaced_fields, wants_quotes}

-- those that are left, the first of them behind this separator
abbrev pub fields_behind : List (List ℕ) → List ℕ → Members → List ℕ
fields_behind sources separator no_members = []
fields_behind sources separator (member k t ms) = separator ++ (field_text sources k t ++ spaced_fields sources ms)

space_behind : (sources : List (List ℕ)) (ms : Members) → spaced_fields sources ms ≡ fields_behind sources (codes " ") ms
space_behind sources no_members = refl
space_behind sources (member k t ms) = refl

-- one field more is written, and then those that are left
pub one_written : (sources : List (List ℕ)) (separator before after whole : List ℕ) (es left : List (String Global × Value)) (e : String Global × Value) → es ≡ e ∷ left →
    after ≡ before ++ (separator ++ field_text sources (string_bytes e.0) (tree_of e.1)) → before ++ fields_behind sources separator (members_view es) ≡ whole →
    after ++ fields_behind sources (codes " ") (members_view left) ≡ whole
one_written sources separator before after whole es left e is added told =
    let field = field_text sources (string_bytes e.0) (tree_of e.1) in
    let others = spaced_fields sources (members_view left) in
    sym (ap (λ s. after ++ s) (space_behind sources (members_view left))) ∙ ap (λ s. s ++ others) added ∙ append_assoc before (separator ++ field) others
    ∙ ap (λ s. before ++ s) (append_assoc separator field others) ∙ sym (ap (λ fs. before ++ fields_behind sources separator (members_view fs)) is) ∙ told

-- where none is left, all are written
pub all_written : (sources : List (List ℕ)) (separator before whole : List ℕ) (es : List (String Global × Value)) → es ≡ [] → before ++ fields_behind sources separator (members_view es) ≡ whole → before ≡ whole
all_written sources separator before whole es none told = sym (append-nil before) ∙ sym (ap (λ fs. before ++ fields_behind sources separator (members_view fs)) none) ∙ told

-- each field's regexes are in order where those of all that are left are
pub first_regexes_below : (count : ℕ) (es left : List (String Global × Value)) (e : String Global × Value) → es ≡ e ∷ left → IsTrue (members_regexes_below count (members_view es)) →
    IsTrue (regexes_below count (tree_of e.1)) × IsTrue (members_regexes_below count (members_view left))
first_regexes_below count es left e is below =
    and_parts (regexes_below count (tree_of e.1)) _ (sym (ap (λ fs. members_regexes_below count (members_view fs)) is) ∙ below)

pub quotes_wanted : (s : List ℕ) → (length s == 0) ≡ false → list_any is_special s ≡ wants_quotes s
quotes_wanted [] some = absurd (true≢false some)
quotes_wanted (b ∷ s) some = refl

-- ---- the regexes of the object that is given

given_object : (a : Option Tree) (ms : Members) → Some ms ≡ members_given a → value_or null a ≡ object ms
given_object (Some (object ns)) ms is = let same : ms ≡ ns = cc in ap object (sym same)
given_object None ms is = absurd cc
given_object (Some (string s)) ms is = absurd cc
given_object (Some (integer n)) ms is = absurd cc
given_object (Some (boolean b)) ms is = absurd cc
given_object (Some null) ms is = absurd cc
given_object (Some (timestamp n)) ms is = absurd cc
given_object (Some (regex n)) ms is = absurd cc
given_object (Some (array ts)) ms is = absurd cc

pub object_below : (count : ℕ) (arguments : List (Option Tree)) (ms : Members) → IsTrue (arguments_below count arguments) → Some ms ≡ optional_members 0 arguments → IsTrue (members_regexes_below count ms)
object_below count arguments ms below is = ap (regexes_below count) (sym (given_object (argument_at 0 arguments) ms is)) ∙ argument_below count arguments below
