-- What two clauses of a call say of its result.
use Rattle.std.proofs.Common.{Result, Ok, Err, IfOk}

pub by_both : {X Y : Type 0} (r : Result X Y) (P Q R : X → Type 0) → ((x : X) → P x → Q x → R x) → IfOk r P → IfOk r Q → IfOk r R
by_both (Ok x) P Q R gives first second = gives x first second
by_both (Err e) P Q R gives first second = tt
