-- The command as `clap` is told of it, and what the matches tell.
use Rattle.std.specs.Prelude.{◌≡◌, Bool, true, List, ℕ, Option, Some, None, Result, Ok, Err, codes, if◌then◌else◌}
use Rattle.clap.specs.Words.{App, Rule, first_value, found_of, new_app, new_rule, one_text, with_rule}
use Rattle.clap.specs.declared.builder.action.ArgAction.TheVariants.{SetTrue}
use Rattle.clap.specs.declared.parser.matches.ArgMatches.{ArgMatches}
use Rattle.clap.specs.declared.error.kind.ErrorKind.{ErrorKind}
use Rattle.clap.specs.declared.error.kind.ErrorKind.TheVariants.{OutOfMemory}
use Rattle.remap_words.specs.View.{invocation_of}
use Rattle.remap_words.specs.Words.{Settings, Invocation}
use Rattle.remap_words.specs.declared.invocation.Invocation.{Invocation as Read}
use Rattle.remap_words.specs.declared.invocation.WordsFault.{WordsFault}
use Rattle.remap_words.specs.declared.invocation.WordsFault.TheVariants.{Memory, Refused}

abbrev pub script_rule : Rule
script_rule = record (new_rule (codes "script")) { required = true }

abbrev pub option_rule : List ℕ → Rule
option_rule name = record (new_rule name) { long = Some name }

abbrev pub flag_rule : List ℕ → Rule
flag_rule name = record (new_rule name) { long = Some name; action = Some SetTrue }

-- one command, whose words do not begin with the program's name, with no options of its own
abbrev pub bare_app : App
bare_app = record (new_app (codes "remap")) {
  top = record (new_app (codes "remap")).top {
    no_binary_name = true;
    disable_help_flag = true;
    disable_version_flag = true;
    disable_help_subcommand = true;
  };
}

abbrev pub with_value_rules : App → App
with_value_rules app = with_rule (with_rule (with_rule app (option_rule (codes "kind")))
    (option_rule (codes "jobs"))) (option_rule (codes "generate"))

abbrev pub with_flag_rules : App → App
with_flag_rules app = with_rule (with_rule (with_rule (with_rule app (flag_rule (codes "drop-on-error")))
    (flag_rule (codes "keep-on-abort"))) (flag_rule (codes "envelope"))) (flag_rule (codes "check"))

abbrev pub remap_app : App
remap_app = with_flag_rules (with_value_rules (with_rule bare_app script_rule))

abbrev pub flag_text : Bool → List ℕ
flag_text b = if b then codes "true" else codes "false"

-- want of memory is told apart from every other error
abbrev pub fault_by : ErrorKind → WordsFault
fault_by OutOfMemory = Memory
fault_by _ = Refused

-- what is given is answered by what it means, or is refused
abbrev pub IsAnswer : Option Invocation → Result Read WordsFault → Type 0
IsAnswer (Some i) (Ok read) = invocation_of read ≡ i
IsAnswer (Some i) (Err fault) = ⊥
IsAnswer None (Ok read) = ⊥
IsAnswer None (Err fault) = fault ≡ Refused

-- the matches tell what is given
pub record AreMatchesOf (g : Settings) (m : ArgMatches) : Type 0 where
  pub script : first_value (found_of m) (codes "script") ≡ g.script
  pub kind : first_value (found_of m) (codes "kind") ≡ g.kind
  pub jobs : first_value (found_of m) (codes "jobs") ≡ g.jobs
  pub generate : first_value (found_of m) (codes "generate") ≡ g.generate
  pub drop_on_error : one_text (found_of m) (codes "drop-on-error")
      ≡ Some (flag_text g.drop_on_error)
  pub keep_on_abort : one_text (found_of m) (codes "keep-on-abort")
      ≡ Some (flag_text g.keep_on_abort)
  pub envelope : one_text (found_of m) (codes "envelope") ≡ Some (flag_text g.envelope)
  pub check : one_text (found_of m) (codes "check") ≡ Some (flag_text g.check)
