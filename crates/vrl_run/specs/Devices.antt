-- What the devices of a call tell, before it and after it, by its status and by the bytes that are
-- written. Nothing of this speaks of a script.
use Rattle.std.specs.Prelude.{◌≡◌, ℕ, ◌+◌, ◌<◌, ◌≤◌, Bool, true, false, List, ◌++◌, length, take, ℤ, Option, option_map, IfSome, IsTrue, ◌⊎◌}
use Rattle.vrl_io.specs.Faults.{HasRisen}
use Rattle.vrl_value.specs.Moment.{IsInRange}
use Rattle.vrl_batch.specs.Limits.{input_limit}
use Rattle.vrl_batch.specs.Lines.{event_lines}
use Rattle.vrl_batch.specs.Moments.{MovesAtMost, MovesOn}
use Rattle.vrl_batch.specs.Sinks.{Appends, AppendsFront}
use Rattle.vrl_run.specs.declared.status.Status.{Status}
use Rattle.vrl_run.specs.declared.status.Status.TheVariants.{ReadFault, WriteFault}

-- An answer: its status, and the bytes that belong to it.
pub record Answer : Type 0 where
  pub status : Status
  pub output : List ℕ
  pub report : List ℕ

-- What the devices of a call tell at a time: of the input what is left, how much was taken, whether
-- it has ended, and how often it failed; of the clock the moments to come; and of the sinks what
-- they hold, and how often they failed.
pub record Devices : Type 0 where
  pub left : Option (List ℕ)
  pub taken : ℕ
  pub ended : Bool
  pub read_faults : ℕ
  pub ahead : Option (ℕ → ℤ)
  pub output : Option (List ℕ)
  pub output_faults : ℕ
  pub report : Option (List ℕ)
  pub report_faults : ℕ

abbrev pub devices : Option (List ℕ) → ℕ → Bool → ℕ → Option (ℕ → ℤ) → Option (List ℕ) → ℕ → Option (List ℕ) → ℕ
    → Devices
devices left taken ended read_faults ahead output output_faults report report_faults = record {
  left = left;
  taken = taken;
  ended = ended;
  read_faults = read_faults;
  ahead = ahead;
  output = output;
  output_faults = output_faults;
  report = report;
  report_faults = report_faults;
}

-- The input has these bytes, and the clock these moments to come, as far as they tell them.
pub record AreTold (input : List ℕ) (moments : ℕ → ℤ) (before : Devices) : Type 0 where
  pub is_left : IfSome before.left (λ bytes. bytes ≡ input)
  pub are_ahead : IfSome before.ahead (λ told. (i : ℕ) → told i ≡ moments i)

-- Of the input these bytes were taken, and the clock told at most one moment for each line of them
-- that isn't blank.
pub record IsAskedAtMost (before after : Devices) : Type 0 where
  pub taken : List ℕ
  pub is_left : before.left ≡ option_map (λ rest. taken ++ rest) after.left
  pub counted : after.taken ≡ before.taken + length taken
  pub clock : MovesAtMost before.ahead (length (event_lines taken)) after.ahead

-- Just the bytes of the input were taken, and it has said that it is at its end; the clock told a
-- moment for each line that isn't blank, in the range of moments.
pub record IsReadToEnd (input : List ℕ) (moments : ℕ → ℤ) (before after : Devices) : Type 0 where
  pub taken : after.taken ≡ before.taken + length input
  pub ended : IsTrue after.ended
  pub clock : MovesOn before.ahead (length (event_lines input)) after.ahead
  pub in_range : (i : ℕ) → i < length (event_lines input) → IsInRange (moments i)

-- The sinks hold what they held, and then these bytes.
pub record HoldsBytes (written reported : List ℕ) (before after : Devices) : Type 0 where
  pub output : Appends before.output after.output written
  pub report : Appends before.report after.report reported

-- The sinks hold what they held, and then a front of these bytes.
pub record HoldsFronts (written reported : List ℕ) (before after : Devices) : Type 0 where
  pub output : AppendsFront before.output after.output written
  pub report : AppendsFront before.report after.report reported

-- The status is that of the answer, and the sinks hold the whole of its bytes.
pub record HoldsAnswer (answer : Answer) (status : Status) (before after : Devices) : Type 0 where
  pub status_is : status ≡ answer.status
  pub bytes : HoldsBytes answer.output answer.report before after

-- nothing was written
abbrev pub IsNothing : (before after : Devices) → Type 0
IsNothing before after = (after.output ≡ before.output) × (after.report ≡ before.report)

-- of the input no more bytes than the limit were taken
abbrev pub IsWithinLimit : (too_long : Bool) → (before after : Devices) → Type 0
IsWithinLimit false before after = after.taken ≤ before.taken + input_limit
-- or one more was, and more than the limit stood there
IsWithinLimit true before after =
    (after.taken ≡ before.taken + (input_limit + 1)) × IfSome before.left (λ bytes. input_limit < length bytes)

-- A fault of reading is told only where the input failed, and one of writing only where a sink
-- failed; and a fault of the input or of a sink is told.
pub record HasCauses (status : Status) (before after : Devices) : Type 0 where
  pub read : status ≡ ReadFault → HasRisen before.read_faults after.read_faults
  pub write : status ≡ WriteFault → HasRisen before.output_faults after.output_faults
      ⊎ HasRisen before.report_faults after.report_faults
  pub read_told : (status ≡ ReadFault) ⊎ (after.read_faults ≡ before.read_faults)
  pub write_told : (status ≡ WriteFault)
      ⊎ ((after.output_faults ≡ before.output_faults) × (after.report_faults ≡ before.report_faults))

-- ---- what is loaded

-- what a store may tell: the bytes that a name holds
abbrev pub Held : Type 0
Held = Option (List ℕ → Option (List ℕ))

-- so many bytes are loaded at most: one more than a script or a kind file may have
abbrev pub load_limit : ℕ
load_limit = 65537

-- The bytes of a name. Where the store tells what it holds, they are what it holds under the name,
-- and no more of it than the limit; a name that holds nothing has none.
abbrev pub IsLoaded : Held → List ℕ → Option (List ℕ) → Type 0
IsLoaded held name bytes = IfSome held (λ h. option_map (take load_limit) (h name) ≡ bytes)
