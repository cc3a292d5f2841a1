-- The rules of the command as `clap` builds it, and which of them a word names.
use Rattle.std.proofs.Common.{◌≡◌, ◌==◌, ◌||◌, ℕ, Bool, cond, codes, true, false, refl, List, [], ◌∷◌, Option, Some, None}
use Rattle.std.specs.Str.{bytes_eq}
use Rattle.clap.specs.Simple.{App, Shape, built, new_rule, new_shape}
use Rattle.clap.specs.Faults.{is_simple_and_free}
use Rattle.clap.specs.Walk.{Rule, Text, arg_by_id, arg_by_index, arg_by_long}
use Rattle.clap.specs.declared.builder.action.ArgAction.TheVariants.{Set, SetTrue}
use Rattle.clap.specs.declared.builder.value_parser.ValueParser.TheVariants as vp
use Rattle.remap_words.specs.Command.{remap_app}
use Rattle.remap_words.specs.Uses.{Word, check, drop_on_error, envelope, flag, generate, jobs, keep_on_abort, kind, option_spelt, option_with_value, refused}

abbrev pub built_option : Text → Rule
built_option name = record (new_rule name) {
  long = Some name;
  action = Some Set;
  range = Some (record { start_inclusive = 1; end_inclusive = 1 });
  parser = Some vp.String;
}

abbrev pub built_flag : Text → Rule
built_flag name = record (new_rule name) {
  long = Some name;
  action = Some SetTrue;
  range = Some (record { start_inclusive = 0; end_inclusive = 0 });
  defaults = codes "false" ∷ [];
  missing = codes "true" ∷ [];
  parser = Some vp.Bool;
}

abbrev pub built_script : Rule
built_script = record (new_rule (codes "script")) {
  index = Some 1;
  action = Some Set;
  range = Some (record { start_inclusive = 1; end_inclusive = 1 });
  parser = Some vp.String;
  required = true;
}

unfoldable pub table : List Rule
table = built_script ∷ built_option (codes "kind") ∷ built_option (codes "jobs") ∷ built_option (codes "generate")
    ∷ built_flag (codes "drop-on-error") ∷ built_flag (codes "keep-on-abort") ∷ built_flag (codes "envelope") ∷ built_flag (codes "check") ∷ []

abbrev pub shape : Shape
shape = record (new_shape (codes "remap")) {
  rules = table;
  no_binary_name = true;
  disable_help_flag = true;
  disable_help_subcommand = true;
  disable_version_flag = true;
  is_built = true;
}

abbrev pub built_app : App
built_app = record { top = shape; subs = [] }

pub built_is : built remap_app ≡ built_app
unfolding table
built_is = refl

pub free_is : is_simple_and_free remap_app ≡ true
free_is = refl

-- ---- the option that a word names

-- one of seven by their tests in turn, or the last
abbrev pub pick : {X : Type 0} → Bool → Bool → Bool → Bool → Bool → Bool → Bool → X → X → X → X → X → X → X → X → X
pick a b c d e f i k j g o t v h n = cond a k (cond b j (cond c g (cond d o (cond e t (cond f v (cond i h n))))))

abbrev pub pick_by : {X : Type 0} → Text → X → X → X → X → X → X → X → X → X
pick_by name = pick (bytes_eq (codes "kind") name) (bytes_eq (codes "jobs") name) (bytes_eq (codes "generate") name)
    (bytes_eq (codes "drop-on-error") name) (bytes_eq (codes "keep-on-abort") name) (bytes_eq (codes "envelope") name) (bytes_eq (codes "check") name)

abbrev pub rule_named : Text → Option Rule
rule_named name = pick_by name (Some (built_option (codes "kind"))) (Some (built_option (codes "jobs"))) (Some (built_option (codes "generate")))
    (Some (built_flag (codes "drop-on-error"))) (Some (built_flag (codes "keep-on-abort"))) (Some (built_flag (codes "envelope"))) (Some (built_flag (codes "check"))) None

-- a test with no other beside it
pub alone : (b : Bool) → (b || false) ≡ b
alone true = refl
alone false = refl

pub by_long : (name : Text) → arg_by_long table name ≡ rule_named name
unfolding table
by_long name = rw (
  alone (bytes_eq (codes "kind") name),
  alone (bytes_eq (codes "jobs") name),
  alone (bytes_eq (codes "generate") name),
  alone (bytes_eq (codes "drop-on-error") name),
  alone (bytes_eq (codes "keep-on-abort") name),
  alone (bytes_eq (codes "envelope") name),
  alone (bytes_eq (codes "check") name),
) refl

pub by_spelling : (name : Text) (value : Option Text)
    → option_spelt (45 ∷ 45 ∷ name) value ≡ pick_by name (option_with_value kind value) (option_with_value jobs value) (option_with_value generate value)
    (flag drop_on_error value) (flag keep_on_abort value) (flag envelope value) (flag check value) refused
by_spelling name value = refl

-- what holds of each option and its word holds of the rule and the word that one name has
pub picked : (P : Option Rule → Word → Type 0) (name : Text) (k j g o t v h n : Word)
    → P (Some (built_option (codes "kind"))) k → P (Some (built_option (codes "jobs"))) j → P (Some (built_option (codes "generate"))) g
    → P (Some (built_flag (codes "drop-on-error"))) o → P (Some (built_flag (codes "keep-on-abort"))) t → P (Some (built_flag (codes "envelope"))) v
    → P (Some (built_flag (codes "check"))) h → P None n → P (rule_named name) (pick_by name k j g o t v h n)
picked P name k j g o t v h n at_k at_j at_g at_o at_t at_v at_h at_n = go (bytes_eq (codes "kind") name) (bytes_eq (codes "jobs") name) (bytes_eq (codes "generate") name)
    (bytes_eq (codes "drop-on-error") name) (bytes_eq (codes "keep-on-abort") name) (bytes_eq (codes "envelope") name) (bytes_eq (codes "check") name)
  where
    go : (a b c d e f i : Bool) → P (pick a b c d e f i (Some (built_option (codes "kind"))) (Some (built_option (codes "jobs"))) (Some (built_option (codes "generate")))
        (Some (built_flag (codes "drop-on-error"))) (Some (built_flag (codes "keep-on-abort"))) (Some (built_flag (codes "envelope"))) (Some (built_flag (codes "check"))) None)
        (pick a b c d e f i k j g o t v h n)
    go true b c d e f i = at_k
    go false true c d e f i = at_j
    go false false true d e f i = at_g
    go false false false true e f i = at_o
    go false false false false true f i = at_t
    go false false false false false true i = at_v
    go false false false false false false true = at_h
    go false false false false false false false = at_n

-- ---- the positional

pub at_first : arg_by_index table 1 ≡ Some built_script
unfolding table
at_first = refl

pub at_second : arg_by_index table 2 ≡ None
unfolding table
at_second = refl

-- at any position stands the script, or nothing
pub at_any : (P : Option Rule → Type 0) (position : ℕ) → P (Some built_script) → P None → P (arg_by_index table position)
unfolding table
at_any P position here none = go (1 == position)
  where
    go : (b : Bool) → P (cond b (Some built_script) None)
    go true = here
    go false = none

-- ---- the rules by their ids

pub script_by_id : arg_by_id table (codes "script") ≡ Some built_script
unfolding table
script_by_id = refl

pub kind_by_id : arg_by_id table (codes "kind") ≡ Some (built_option (codes "kind"))
unfolding table
kind_by_id = refl

pub jobs_by_id : arg_by_id table (codes "jobs") ≡ Some (built_option (codes "jobs"))
unfolding table
jobs_by_id = refl

pub generate_by_id : arg_by_id table (codes "generate") ≡ Some (built_option (codes "generate"))
unfolding table
generate_by_id = refl
