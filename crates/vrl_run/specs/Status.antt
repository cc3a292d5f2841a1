-- What each status says.
use Rattle.std.specs.Prelude.{ℕ, Bool, true, false, ⊤}
use Rattle.vrl_run.specs.declared.status.Status.{Status}
use Rattle.vrl_run.specs.declared.status.Status.TheVariants.{Done, Refused, Usage, ReadFault, WriteFault, Memory, KindRefused, Marked, TooMuch}

pub record Meaning : Type 0 where
  -- what a program that ends so tells its caller
  pub number : ℕ
  -- an answer to what was asked, and no fault, limit or want of memory
  pub answers : Bool
  -- what was asked was done to its end: lines were run, or kinds told
  pub finishes : Bool
  -- the words, the script or the kind file were refused
  pub refuses : Bool
  -- a fault of a device, or want of memory, which may come of whatever is asked
  pub interrupts : Bool
  -- the input is too long
  pub too_long : Bool

abbrev pub meaning : (number : ℕ) (answers finishes refuses interrupts too_long : Bool) → Meaning
meaning n a l r i t = record { number = n; answers = a; finishes = l; refuses = r; interrupts = i; too_long = t }

--                              number  answers  fini-  refuses  inter-  too
--                                       shes            rupts   long
abbrev pub meaning_of : Status → Meaning
meaning_of Done = meaning 0 true true false false false
meaning_of Refused = meaning 1 true false true false false
meaning_of Usage = meaning 2 true false true false false
meaning_of ReadFault = meaning 3 false false false true false
meaning_of WriteFault = meaning 4 false false false true false
meaning_of Memory = meaning 5 false false false true false
meaning_of KindRefused = meaning 6 true false true false false
meaning_of Marked = meaning 7 true true false false false
meaning_of TooMuch = meaning 8 false false false false true

abbrev pub Says : Bool → Type 0
Says true = ⊤
Says false = ⊥

abbrev pub IsAnswer : Status → Type 0
IsAnswer status = Says (meaning_of status).answers

abbrev pub IsFinished : Status → Type 0
IsFinished status = Says (meaning_of status).finishes

abbrev pub TellsRefusal : Status → Type 0
TellsRefusal status = Says (meaning_of status).refuses

abbrev pub IsInterrupted : Status → Type 0
IsInterrupted status = Says (meaning_of status).interrupts
