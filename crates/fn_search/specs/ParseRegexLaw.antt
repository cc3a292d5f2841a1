-- `parse_regex` and `parse_regex_all` keep the law.
use Rattle.std.specs.Prelude.{◌≡◌, ℕ, Bool, true, false, List, [], ◌∷◌, map, Option, Some, None, IfSome, codes, refl}
use Rattle.std.proofs.Common.{subst, sym}
use Rattle.std.proofs.lemmas.Bool.{true≢false}
use Rattle.vrl_value.specs.Tree.{Tree, no_items}
use Rattle.vrl_value.specs.View.{items_of_trees}
use Rattle.vrl_value.specs.declared.value.Tag.TheVariants as tag
use Rattle.vrl_kind.specs.KindTree.{KindTree}
use Rattle.vrl_kind.specs.Sets.{Sets}
use Rattle.vrl_builtin.specs.Conditions.{IsGiven, IsLiteral}
use Rattle.vrl_builtin.specs.Containers.{array_of}
use Rattle.vrl_builtin.specs.Law.{IsLawful, IsOfGiven, KeepsLaw}
use Rattle.vrl_builtin.specs.Rows.{ParameterRow, value, named, argument_at, boolean_at, boolean_or, kind_at, literal_at, optional_regex, regex_given, text_at}
use Rattle.vrl_builtin.proofs.Containers.{array_is_lawful, EachItem, IsLawfulPart}
use Rattle.vrl_builtin.proofs.Lawful.{told_is_lawful}
use Rattle.vrl_pattern.specs.Groups.{groups_of}
use Rattle.vrl_pattern.specs.Matches.{all_matches, first_match, group_places}
use Rattle.regex.specs.Patterns.{Match}
use Rattle.fn_search.specs.Fields.{fields_kind}
use Rattle.fn_search.specs.FieldsLaw.{fields_are_lawful}
use Rattle.fn_search.specs.ParseRegex.{accepts, all_parsed, match_object, numeric_parameter, object_kind, parse_regex_all_row, parse_regex_row, parsed, pattern_parameter, names_given}
use Rattle.fn_search.specs.Sources.{source_at}

-- an argument that is written as a literal is what is given
literal_is : (p : ParameterRow) (accepts : Tree → Bool) (K : Option KindTree) (literal argument : Option Tree)
    → p.literal ≡ true → IsGiven p accepts K literal → IsOfGiven K argument →
    IfSome literal (λ v. argument ≡ Some v) → argument ≡ literal
literal_is p accepts None None None wants given of same = refl
literal_is p accepts None (Some v) None wants given of same = same
literal_is p accepts None literal (Some u) wants given of same = absurd of
literal_is p accepts (Some K) literal None wants given of same = absurd of
literal_is p accepts (Some K) (Some v) (Some u) wants given of same = same
literal_is p accepts (Some K) None (Some u) wants given of same =
    absurd (true≢false (sym (subst (λ b. IsLiteral b accepts None) wants given.allowed).0))

pub fields_present : (names : List (List ℕ)) (numbered : Bool) → fields_kind names numbered [] tag.Absent ≡ false
fields_present names true = refl
fields_present names false = refl

parsed_is_lawful : (sources : List (List ℕ)) (number : Option ℕ) (numbered : Bool) (s : List ℕ)
    (arguments : List (Option Tree)) →
    IsLawful (fields_kind (names_given sources number) numbered) true arguments
    (named (codes "parse_regex") (parsed sources number numbered s))
parsed_is_lawful sources None numbered s arguments = refl
parsed_is_lawful sources (Some n) numbered s arguments =
    let source = source_at n sources in
    told_is_lawful (match_object source numbered s) (codes "no match") (codes "parse_regex") (first_match source s)
    (fields_kind (groups_of source) numbered) arguments
    (λ m. fields_are_lawful (groups_of source) numbered s (group_places source m) true arguments)

each_match : (source : List ℕ) (numbered : Bool) (s : List ℕ) (arguments : List (Option Tree)) (ms : List Match) →
    EachItem (IsLawfulPart (fields_kind (groups_of source) numbered) arguments)
    (items_of_trees (map (match_object source numbered s) ms))
each_match source numbered s arguments [] = tt
each_match source numbered s arguments (m ∷ ms) =
    let lawful = fields_are_lawful (groups_of source) numbered s (group_places source m) false arguments in
    (record { allowed = lawful.0; ordered = lawful.1; regexes = lawful.2 }, each_match source numbered s arguments ms)

all_is_lawful : (sources : List (List ℕ)) (number : Option ℕ) (numbered : Bool) (s : List ℕ)
    (arguments : List (Option Tree)) →
    IsLawful (array_of (fields_kind (names_given sources number) numbered)) false arguments
    (value (all_parsed sources number numbered s))
all_is_lawful sources None numbered s arguments = array_is_lawful (fields_kind [] numbered) false arguments no_items tt
all_is_lawful sources (Some n) numbered s arguments =
    let source = source_at n sources in
    array_is_lawful (fields_kind (groups_of source) numbered) false arguments _
    (each_match source numbered s arguments (all_matches source s))

-- what is known of the two literals is what the call is given
known_is_lawful : (sources : List (List ℕ)) (pattern numeric first second : Option Tree) (P : Sets → Type 0)
    → first ≡ pattern → second ≡ numeric → P (object_kind sources first second)
    → P (object_kind sources pattern numeric)
known_is_lawful sources pattern numeric first second P same also holds =
    subst (λ a. P (object_kind sources a numeric)) same (subst (λ a. P (object_kind sources first a)) also holds)

pub parse_regex-law : KeepsLaw parse_regex_row
parse_regex-law = record {
  present = λ givens sources given below. fields_present (names_given sources (regex_given (literal_at 1 givens)))
      (boolean_or false (literal_at 2 givens));
  lawful = λ givens arguments setting given fit instances below.
      let number = optional_regex 1 arguments in
      let numbered = boolean_at 2 false arguments in
      let s = text_at 0 [] arguments in
      known_is_lawful setting.sources (literal_at 1 givens) (literal_at 2 givens) (argument_at 1 arguments)
      (argument_at 2 arguments)
      (λ A. IsLawful A true arguments (named (codes "parse_regex") (parsed setting.sources number numbered s)))
      (literal_is pattern_parameter (accepts 1) (kind_at 1 givens) (literal_at 1 givens)
      (argument_at 1 arguments) refl given.1.0 (instances.kinds 1) (instances.literals 1))
      (literal_is numeric_parameter (accepts 2) (kind_at 2 givens) (literal_at 2 givens)
      (argument_at 2 arguments) refl given.1.1.0 (instances.kinds 2) (instances.literals 2))
      (parsed_is_lawful setting.sources number numbered s arguments);
}

pub parse_regex_all-law : KeepsLaw parse_regex_all_row
parse_regex_all-law = record {
  present = λ givens sources given below. refl;
  lawful = λ givens arguments setting given fit instances below.
      let number = optional_regex 1 arguments in
      let numbered = boolean_at 2 false arguments in
      let s = text_at 0 [] arguments in
      known_is_lawful setting.sources (literal_at 1 givens) (literal_at 2 givens) (argument_at 1 arguments)
      (argument_at 2 arguments)
      (λ A. IsLawful (array_of A) false arguments (value (all_parsed setting.sources number numbered s)))
      (literal_is pattern_parameter (accepts 1) (kind_at 1 givens) (literal_at 1 givens)
      (argument_at 1 arguments) refl given.1.0 (instances.kinds 1) (instances.literals 1))
      (literal_is numeric_parameter (accepts 2) (kind_at 2 givens) (literal_at 2 givens)
      (argument_at 2 arguments) refl given.1.1.0 (instances.kinds 2) (instances.literals 2))
      (all_is_lawful setting.sources number numbered s arguments);
}
