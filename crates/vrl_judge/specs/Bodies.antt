-- The names of a closure's body as the code binds them, one by one. No public function cites these.
use Rattle.std.specs.Prelude.{◌≡◌, ℕ, Bool, true, false, List, [], ◌∷◌, bytes_eq, codes}
use Rattle.vrl_kind.specs.KindTree.{KindTree}
use Rattle.vrl_state.specs.States.{IsHidden, State}

-- a name has this kind, and what was known of it is hidden; `_`, of which this holds, is passed
-- over
abbrev pub IsBoundUnless : Bool → List ℕ → KindTree → State → State → Type 0
IsBoundUnless true x K before after = after ≡ before
IsBoundUnless false x K before after = IsHidden x K before after

abbrev pub IsBound : List ℕ → KindTree → State → State → Type 0
IsBound x K before after = IsBoundUnless (bytes_eq x (codes "_")) x K before after

-- each of these names, in order
abbrev pub AreBound : List (List ℕ) → List KindTree → State → State → Type 0
AreBound [] Ks before after = after ≡ before
AreBound (x ∷ names) [] before after = after ≡ before
AreBound (x ∷ names) (K ∷ Ks) before after = (next : State) × IsBound x K before next × AreBound names Ks next after
