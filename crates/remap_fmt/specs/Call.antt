-- What a call leaves in its sinks.
use Rattle.std.specs.Prelude.{◌≡◌, ℕ, List, take, Option, option_map, IfSome}
use Rattle.vrl_batch.specs.Sinks.{Appends, AppendsFront}
use Rattle.remap_fmt.specs.Answer.{Answer, Answers}
use Rattle.remap_fmt.specs.Status.{IsAnswer}
use Rattle.remap_fmt.specs.declared.status.FmtStatus.{FmtStatus}
use Rattle.remap_fmt.specs.declared.status.FmtStatus.TheVariants.{WriteFault}

-- ---- what is loaded

-- what a store may tell: the bytes that a name holds
abbrev pub Held : Type 0
Held = Option (List ℕ → Option (List ℕ))

-- so many bytes are loaded at most: one more than a script may have
abbrev pub load_limit : ℕ
load_limit = 65537

-- The bytes of a name. Where the store tells what it holds, they are what it holds under the name,
-- and no more of it than the limit; a name that holds nothing has none.
abbrev pub AreHeld : Held → List ℕ → Option (List ℕ) → Type 0
AreHeld held name bytes = IfSome held (λ h. option_map (take load_limit) (h name) ≡ bytes)

-- ---- what is written

-- what the sinks of a call hold at a time, where they tell it
pub record Written : Type 0 where
  pub output : Option (List ℕ)
  pub report : Option (List ℕ)

abbrev pub sinks : (output report : Option (List ℕ)) → Written
sinks output report = record { output = output; report = report }

-- the sinks hold what they held, and then the bytes of the answer
abbrev pub HoldsAnswer : Answer → (before after : Written) → Type 0
HoldsAnswer answer before after =
    Appends before.output after.output answer.output
    × Appends before.report after.report answer.report

-- or a front of them
abbrev pub HoldsFront : Answer → (before after : Written) → Type 0
HoldsFront answer before after =
    AppendsFront before.output after.output answer.output
    × AppendsFront before.report after.report answer.report

-- What is left in the sinks of a call that these answer.
pub record LeavesAnswer (answers : Answer → Type 0) (status : FmtStatus)
    (before after : Written) : Type 0 where
  -- a status that is an answer's comes with all of its bytes
  pub whole : IsAnswer status
      → (answer : Answer) × answers answer × (status ≡ answer.status)
      × HoldsAnswer answer before after
  -- where a sink failed, with a front of them
  pub cut : status ≡ WriteFault
      → (answer : Answer) × answers answer × HoldsFront answer before after

-- A call whose words name this script, if any, over a store that holds this, ended with this status.
-- All is told of the same bytes of the script.
pub record IsCall (held : Held) (name : Option (List ℕ)) (status : FmtStatus)
    (before after : Written) : Type 0 where
  pub bytes : Option (List ℕ)
  pub are_held : IfSome name (λ script. AreHeld held script bytes)
  pub leaves : LeavesAnswer (Answers name bytes) status before after
