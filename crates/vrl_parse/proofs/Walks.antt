-- Steps of the programs that a function's clauses tell.
use Rattle.std.proofs.Common.{◌≡◌, ℕ, suc, ◌+◌, add-one, Bool, true, false, List, Result, Ok, Err, sym, subst}
use Rattle.std.specs.Result.{IfErr, IfOk, IsErr, IsErrAnd}
use Rattle.std.proofs.lemmas.Result.{IfOk-weaker}
use Rattle.vrl_diag.specs.declared.diagnostic.Span.{Span}
use Rattle.vrl_word.specs.Words.{Word}
use Rattle.vrl_syntax.specs.Tree.{Expr}
use Rattle.vrl_parse.specs.Descent.{chain, level, operand, program_of, suffixed, Look, Meaning, Ending, Piece, Program, Rule, Runs, Said, done, look, ran, refuse, refused, refuses, seen, take, took, unseen, untaken}
use Rattle.vrl_parse.specs.FirstWords.{Missing, OnRefusal, Tells, Without}
use Rattle.vrl_parse.specs.declared.stop.Stop.{Stop}
use Rattle.vrl_parse.specs.declared.stop.Stop.TheVariants as stop

-- an answer that is the same
pub answered : {r : Rule} {x y : Meaning r} {ws : List Word} → y ≡ x → Runs r (done x) ws (took y ws)
answered {r} {x} {y} {ws} same = subst (λ z. Runs r (done x) ws (took z ws)) (sym same) ran

pub passed : {r : Rule} {k : Piece} {p : Said k → Span → Program (Meaning r)} {q : Program (Meaning r)} {ws vs : List Word} {o : Ending (Meaning r)} → Without k ws → vs ≡ ws → Runs r q vs o → Runs r (take k p q) ws o
passed {r} {k} {p} {q} {ws} {vs} {o} none stays run = untaken none.lacks (subst (λ us. Runs r q us o) stays run)

pub saw : {r : Rule} {b : Bool} {l : Look} {p q : Program (Meaning r)} {ws : List Word} {o : Ending (Meaning r)} → Tells b l ws → b ≡ true → Runs r p ws o → Runs r (look l p q) ws o
saw test holds run = seen (test.yes holds) run

pub saw_not : {r : Rule} {b : Bool} {l : Look} {p q : Program (Meaning r)} {ws : List Word} {o : Ending (Meaning r)} → Tells b l ws → b ≡ false → Runs r q ws o → Runs r (look l p q) ws o
saw_not test fails run = unseen (test.no fails) run

pub missed : {r : Rule} {k : Piece} {p : Said k → Span → Program (Meaning r)} {ws vs : List Word} → Missing k ws vs → Runs r (take k p refuse) ws (refused vs)
missed {r} {k} {p} {ws} {vs} none = subst (λ us. Runs r (take k p refuse) ws (refused us)) (sym none.stays) (untaken none.lacks refuses)

-- the exit of a `?`, where the callee's refusal is that of the caller
pub weaker : (P Q : Type 0) (f : Stop) → (P → Q) → OnRefusal P f → OnRefusal Q f
weaker P Q stop.Refused step h = step h
weaker P Q stop.Memory step h = tt

pub leave : {T : Type 0} (r : Result T Stop) (f : Stop) (P Q : Type 0) → IsErr r × IsErrAnd r (λ g. g ≡ f) → OnRefusal P f → (P → Q) → IfErr r (OnRefusal Q)
leave (Ok x) f P Q is h step = tt
leave (Err g) f P Q is h step = weaker P Q g step (subst (OnRefusal P) (sym is.1) h)

-- a call whose answer is returned as it is
pub same_takes : {T : Type 0} (r : Result T Stop) (P Q : T → Type 0) → ((x : T) → P x → Q x) → IfOk r P → IfOk r Q
same_takes r P Q step h = IfOk-weaker r P Q step h

pub same_refuses : {T : Type 0} (r : Result T Stop) (P Q : Type 0) → (P → Q) → IfErr r (OnRefusal P) → IfErr r (OnRefusal Q)
same_refuses (Ok x) P Q step h = tt
same_refuses (Err f) P Q step h = weaker P Q f step h

pub suffixed_same : {e f : Expr} {ws : List Word} {o : Ending Expr} → e ≡ f → Runs operand (suffixed e) ws o → Runs operand (suffixed f) ws o
suffixed_same {e} {f} {ws} {o} same run = subst (λ x. Runs operand (suffixed x) ws o) same run

pub next_level : {n : ℕ} {ws : List Word} {o : Ending Expr} → Runs (level (n + 1)) (program_of (level (n + 1))) ws o → Runs (level (suc n)) (program_of (level (suc n))) ws o
next_level {n} {ws} {o} run = subst (λ k. Runs (level k) (program_of (level k)) ws o) (add-one n) run

pub chain_same : {n : ℕ} {e f : Expr} {ws : List Word} {o : Ending Expr} → e ≡ f → Runs (chain n e) (program_of (chain n e)) ws o → Runs (chain n f) (program_of (chain n f)) ws o
chain_same {n} {e} {f} {ws} {o} same run = subst (λ x. Runs (chain n x) (program_of (chain n x)) ws o) same run
