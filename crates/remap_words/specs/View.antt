-- How contracts see words, and what is read of them.
use Rattle.std.specs.Prelude.{◌≤◌, ◌<◌, ◌^◌, ⊤, List, ℕ, String, map, option_map, string_bytes}
use Rattle.std.specs.declared.alloc.Global.{Global}
use Rattle.remap_words.specs.Words.{Invocation, Mode, check, generate, lines}
use Rattle.remap_words.specs.declared.invocation.Invocation.{Invocation as Read}
use Rattle.remap_words.specs.declared.invocation.Mode.{Mode as ReadMode}
use Rattle.remap_words.specs.declared.invocation.Mode.TheVariants as read

-- the bytes of each word
abbrev pub texts : List (String Global) → List (List ℕ)
texts words = map (λ word. string_bytes word) words

abbrev pub mode_of_read : ReadMode → Mode
mode_of_read read.Lines = lines
mode_of_read read.Check = check
mode_of_read (read.Generate count seed) = generate count seed

abbrev pub invocation_of : Read → Invocation
invocation_of i = record {
  script = i.script.now;
  kind = option_map (λ name. name.now) i.kind;
  jobs = i.jobs;
  drop_on_error = i.drop_on_error;
  keep_on_abort = i.keep_on_abort;
  envelope = i.envelope;
  mode = mode_of_read i.mode;
}

abbrev pub IsModeInBounds : Mode → Type 0
IsModeInBounds (generate count seed) = (1 ≤ count) × (count ≤ 1000000) × (seed < 2 ^ 32)
IsModeInBounds _ = ⊤

-- the numbers of an invocation are within their bounds
pub record IsInBounds (i : Invocation) : Type 0 where
  pub least_jobs : 1 ≤ i.jobs
  pub most_jobs : i.jobs ≤ 32
  pub mode : IsModeInBounds i.mode
