-- What the results of the code say: its words for those of the meaning. Want of memory says
-- nothing.
use Rattle.std.specs.Prelude.{◌≡◌, ℕ, Bool, true, false, List, Option, Some, None, ⊤}
use Rattle.std.specs.declared.result.Result.{Result}
use Rattle.std.specs.declared.result.Result.TheVariants.{Ok, Err}
use Rattle.vrl_path.specs.declared.fault.SetFault.{SetFault}
use Rattle.vrl_path.specs.declared.fault.SetFault.TheVariants as fault
use Rattle.vrl_value.specs.Tree.{Tree, string, integer, boolean}
use Rattle.vrl_value.specs.View.{tree_of}
use Rattle.vrl_value.specs.declared.value.Value.{Value}
use Rattle.vrl_syntax.specs.Stores.{Store}
use Rattle.vrl_syntax.specs.declared.root.Op.TheVariants as op
use Rattle.vrl_store.specs.Operators.{cannot_apply, sum_of}
use Rattle.vrl_store.specs.Outcomes.{Ended, Outcome, aborted, banged, deep, ends, error, on_error, returned, value}
use Rattle.vrl_store.specs.declared.operand.Operand.{Operand}
use Rattle.vrl_store.specs.declared.operand.Operand.TheVariants as operand
use Rattle.vrl_store.specs.declared.operators.Addition.{Addition}
use Rattle.vrl_store.specs.declared.operators.Addition.TheVariants as added
use Rattle.vrl_store.specs.declared.stop.Stop.{Stop}
use Rattle.vrl_store.specs.declared.stop.Stop.TheVariants as stop

-- the value that an operator looks at
abbrev pub operand_tree : Operand → Tree
operand_tree (operand.Owned v) = tree_of v
operand_tree (operand.Borrowed v) = tree_of v.now

-- what a write that isn't done ends with
abbrev pub IsStopFor : SetFault → Stop → Type 0
IsStopFor fault.TooDeep result = result ≡ stop.Deep
IsStopFor fault.Memory result = result ≡ stop.Memory

-- an outcome without a value
abbrev pub IsStop : Outcome → Stop → Type 0
IsStop outcome (stop.Error text) = outcome ≡ error text
IsStop outcome (stop.Aborted message) = outcome ≡ aborted message
IsStop outcome (stop.Returned v) = outcome ≡ returned (tree_of v)
IsStop outcome (stop.Banged text) = outcome ≡ banged text
IsStop outcome stop.Deep = outcome ≡ deep
IsStop outcome stop.Memory = ⊤

-- an outcome of values alone
abbrev pub Gives : Outcome → Result Value Stop → Type 0
Gives outcome (Ok v) = outcome ≡ value (tree_of v)
Gives outcome (Err stop) = IsStop outcome stop

-- the outcome is a whole number or a boolean, which take no memory
abbrev pub is_small : Outcome → Bool
is_small (value (integer n)) = true
is_small (value (boolean b)) = true
is_small outcome = false

-- the same where the value is a boolean
abbrev pub GivesTruth : Outcome → Result Bool Stop → Type 0
GivesTruth outcome (Ok b) = outcome ≡ value (boolean b)
GivesTruth outcome (Err stop) = IsStop outcome stop

-- an expression ended so, without a value, and left this store
abbrev pub Stops : Ended → Store → Stop → Type 0
Stops ended store (stop.Error text) = ended ≡ ends (error text) store
Stops ended store (stop.Aborted message) = ended ≡ ends (aborted message) store
Stops ended store (stop.Returned v) = ended ≡ ends (returned (tree_of v)) store
Stops ended store (stop.Banged text) = ended ≡ ends (banged text) store
Stops ended store stop.Deep = ended ≡ ends deep store
Stops ended store stop.Memory = ⊤

-- an expression ended so, and left this store
abbrev pub Ends : Ended → Store → Result Value Stop → Type 0
Ends ended store (Ok v) = ended ≡ ends (value (tree_of v)) store
Ends ended store (Err stop) = Stops ended store stop

-- how two values are added; a sum that is one of them is a text
abbrev pub IsAdding : Tree → Tree → Addition → Type 0
IsAdding v w (added.Number n) = sum_of v w ≡ value (integer n)
IsAdding v w added.Joined = (s : List ℕ) × (t : List ℕ) × (v ≡ string s) × (w ≡ string t)
IsAdding v w added.First = (sum_of v w ≡ value v) × (is_small (value v) ≡ false)
IsAdding v w added.Second = (sum_of v w ≡ value w) × (is_small (value w) ≡ false)
IsAdding v w added.None = sum_of v w ≡ cannot_apply op.Plus v w

-- it ended with a value, or with an error, which is forgotten; whatever else it ended with stays
abbrev pub EndsUnlessError : Ended → Store → Result (Option Value) Stop → Type 0
EndsUnlessError ended store (Ok (Some v)) = ended ≡ ends (value (tree_of v)) store
EndsUnlessError ended store (Ok None) = (text : List ℕ) × (ended ≡ ends (error text) store)
EndsUnlessError ended store (Err stop) = (next : List ℕ → Store → Ended) → Stops (on_error ended next) store stop
