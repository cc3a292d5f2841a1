-- What the words of the command line mean, those behind the program's name: `SCRIPT [--kind FILE]
-- [--jobs N] [--drop-on-error] [--keep-on-abort] [--envelope] [--check] [--generate COUNT:SEED]`,
-- with the options in any order.
use Rattle.std.specs.Prelude.{ℕ, Bool, true, false, List, [], ◌∷◌, Option, Some, None, ◌==◌, if◌then◌else◌, is_some}
use Rattle.std.specs.Prelude.{option_and_then, option_map}
use Rattle.std.specs.List.{after_first, before_first}
use Rattle.remap_words.specs.Numbers.{number_in}
use Rattle.remap_words.specs.Uses as one
use Rattle.remap_words.specs.Uses.{Use, uses_of}

-- what is done with the script
pub data Mode : Type 0 where
  -- it is run over the lines of the input
  lines : Mode
  -- it is checked, and no input is read
  check : Mode
  -- it is run over this many made lines, which begin from this seed
  generate : ℕ → ℕ → Mode

-- what a list of words asks for
pub record Invocation : Type 0 where
  pub script : List ℕ
  pub kind : Option (List ℕ)
  pub jobs : ℕ
  pub drop_on_error : Bool
  pub keep_on_abort : Bool
  pub envelope : Bool
  pub mode : Mode

-- ---- each use at most once

-- what the uses give
pub record Settings : Type 0 where
  pub script : Option (List ℕ)
  pub kind : Option (List ℕ)
  pub jobs : Option (List ℕ)
  pub generate : Option (List ℕ)
  pub drop_on_error : Bool
  pub keep_on_abort : Bool
  pub envelope : Bool
  pub check : Bool

abbrev pub nothing_given : Settings
nothing_given = record {
  script = None;
  kind = None;
  jobs = None;
  generate = None;
  drop_on_error = false;
  keep_on_abort = false;
  envelope = false;
  check = false;
}

abbrev pub unless : Bool → Settings → Option Settings
unless twice given = if twice then None else Some given

-- one use more, which is refused the second time
abbrev pub with_use : Use → Settings → Option Settings
with_use (one.script name) g = unless (is_some g.script) (record g { script = Some name })
with_use (one.kind name) g = unless (is_some g.kind) (record g { kind = Some name })
with_use (one.jobs text) g = unless (is_some g.jobs) (record g { jobs = Some text })
with_use (one.generate text) g = unless (is_some g.generate) (record g { generate = Some text })
with_use one.drop_on_error g = unless g.drop_on_error (record g { drop_on_error = true })
with_use one.keep_on_abort g = unless g.keep_on_abort (record g { keep_on_abort = true })
with_use one.envelope g = unless g.envelope (record g { envelope = true })
with_use one.check g = unless g.check (record g { check = true })

abbrev pub with_uses : List Use → Settings → Option Settings
with_uses [] g = Some g
with_uses (first ∷ others) g = option_and_then (with_uses others) (with_use first g)

-- what is given by the words, or none where they are refused
abbrev pub given_of : List (List ℕ) → Option Settings
given_of words = option_and_then (λ uses. with_uses uses nothing_given) (uses_of None words)

-- ---- what the values say

-- a name is not empty
abbrev pub name_of : List ℕ → Option (List ℕ)
name_of [] = None
name_of (b ∷ bs) = Some (b ∷ bs)

-- a kind file need not be named
abbrev pub kind_file_of : Option (List ℕ) → Option (Option (List ℕ))
kind_file_of None = Some None
kind_file_of (Some name) = option_map (λ n. Some n) (name_of name)

-- one worker, or as many as one or two digits say, from 1 to 32
abbrev pub jobs_of : Option (List ℕ) → Option ℕ
jobs_of None = Some 1
jobs_of (Some text) = number_in 2 1 32 text

abbrev pub is_colon : ℕ → Bool
is_colon b = b == 58

-- `COUNT:SEED`, with a count of 1 to 1,000,000 and a seed of 32 bits
abbrev pub generate_of : List ℕ → Option Mode
generate_of text = option_and_then (λ count.
    option_map (generate count) (number_in 10 0 4294967295 (after_first is_colon text)))
    (number_in 7 1 1000000 (before_first is_colon text))

-- a script is checked, or run over made lines, but not both; made lines are no envelopes
abbrev pub mode_of : (is_check envelope : Bool) → Option (List ℕ) → Option Mode
mode_of false envelope None = Some lines
mode_of true envelope None = Some check
mode_of false false (Some text) = generate_of text
mode_of false true (Some text) = None
mode_of true envelope (Some text) = None

abbrev pub invocation_given : Settings → Option Invocation
invocation_given g = option_and_then (λ script. option_and_then (λ kind. option_and_then (λ jobs.
    option_map (λ mode. record {
      script = script;
      kind = kind;
      jobs = jobs;
      drop_on_error = g.drop_on_error;
      keep_on_abort = g.keep_on_abort;
      envelope = g.envelope;
      mode = mode;
    }) (mode_of g.check g.envelope g.generate)) (jobs_of g.jobs)) (kind_file_of g.kind))
    (option_and_then name_of g.script)

-- what the words mean, or none where they are refused
abbrev pub words_mean : List (List ℕ) → Option Invocation
words_mean words = option_and_then invocation_given (given_of words)
