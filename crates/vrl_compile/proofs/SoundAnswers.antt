-- What soundness says of the answers of `compile`.
use Rattle.std.proofs.Common.{◌≡◌, ℕ, List, [], Option, Some, None, Result, Ok, Err, IfOk, inl, inr, length, refl, sym, ap, ◌∙◌, subst}
use Rattle.std.proofs.lemmas.Bool.{false≢true}
use Rattle.vrl_value.specs.Tree.{Tree}
use Rattle.vrl_value.specs.declared.memory.Memory.{Memory as WantOfMemory}
use Rattle.vrl_kind.specs.KindTree.{KindTree}
use Rattle.vrl_state.specs.Laws.{EitherHoldsBoth, JoinsKeepFits}
use Rattle.vrl_state.specs.States.{IsEither, IsJoined, RootMap}
use Rattle.vrl_state.specs.Stores.{Store}
use Rattle.vrl_store.specs.Outcomes.{Ended, Outcome, value, error, returned}
use Rattle.vrl_store.specs.WellFormed.{IsWellFormed}
use Rattle.vrl_check.specs.Answer.{IsJudged}
use Rattle.vrl_check.specs.OpenRules.{GiveWhatHolds, language_rules}
use Rattle.vrl_judge.specs.Returns.{return_state, returning}
use Rattle.vrl_judge.specs.Rules.{Judgement}
use Rattle.vrl_check.specs.declared.judged.Judged.{Judged}
use Rattle.vrl_resolve.specs.Meaning.{IsUnhandled}
use Rattle.vrl_resolve.specs.Program.{ended_over}
use Rattle.vrl_compile.specs.Answer.{AcceptedScriptsAreSound, IsAnswer, IsSoundAnswer, IsSoundlyEnded, ends_told}
use Rattle.vrl_compile.specs.Program.{program_for}
use Rattle.vrl_compile.specs.Sound.{ComesTo, Ends, ScriptsAreSound, ends_of}
use Rattle.vrl_compile.specs.declared.script.Compiled.{Compiled}
use Rattle.vrl_compile.specs.declared.script.Compiled.TheVariants as compiled
use Rattle.vrl_compile.proofs.WellFormedLiterals.{literals_are_well_formed}

-- ---- how it ended

is_handled : (ends : Ends) (outcome : Outcome) (store : Store) → ComesTo ends outcome store → ¬ IsUnhandled outcome
is_handled ends (error text) store came unhandled = came
is_handled ends other store came unhandled = unhandled

-- whichever end it came to
of_either : EitherHoldsBoth → JoinsKeepFits → (ends : Ends) (outcome : Outcome) (store : Store) → ComesTo ends outcome store → (K : KindTree) (known : Option RootMap) → IsEither ends.kind ends.returned K → IsJoined ends.ok ends.ret known
    → ComesTo (record { kind = K; ok = known; returned = K; ret = known }) outcome store
of_either either joins ends (value v) store came K known kinds states = (either v ends.kind ends.returned K kinds (inl came.0), joins ends.ok ends.ret known store states (inl came.1))
of_either either joins ends (returned v) store came K known kinds states = (either v ends.kind ends.returned K kinds (inr came.0), joins ends.ok ends.ret known store states (inr came.1))
of_either either joins ends (error text) store came K known kinds states = came
of_either either joins ends other store came K known kinds states = tt

soundly_ended : EitherHoldsBoth → JoinsKeepFits → (ends : Ends) (ended : Ended) → ComesTo ends ended.outcome ended.store → IsSoundlyEnded ends ended
soundly_ended either joins ends ended came =
    record { handled = is_handled ends ended.outcome ended.store came; came = came; joined = of_either either joins ends ended.outcome ended.store came }

pub accepted_scripts_are_sound : ScriptsAreSound → EitherHoldsBoth → JoinsKeepFits → AcceptedScriptsAreSound
accepted_scripts_are_sound sound either joins declared text script j is moment event beside of_kind beside_is formed formed_beside =
    let formed_items = literals_are_well_formed is.tokens script is.is_script.reads in
    let nothing_given : GiveWhatHolds (language_rules script.patterns) = λ loop given. absurd (false≢true given) in
    soundly_ended either joins (ends_of j) (ended_over (program_for script j) moment event beside) (sound moment (language_rules script.patterns) nothing_given declared script.items j is.judges is.no_error formed_items event beside of_kind beside_is formed formed_beside)

-- ---- what `compile` answers

returned_state : (K : KindTree) (known : Option RootMap) → return_state (returning [] K known) ≡ known
returned_state K None = refl
returned_state K (Some roots) = refl

-- the answer tells the ends of the judgement
told_ends : (j : Judgement) (judged : Judged) → IsJudged j judged → ends_told judged ≡ ends_of j
told_ends j judged is =
    let ok : judged.ok.known ≡ j.ok = ap (λ s. s.known) is.ok in
    let ret : return_state judged.ret ≡ j.ret = ap return_state is.ret ∙ returned_state j.returned j.ret in
    λ i. record { kind = is.kind i; ok = ok i; returned = is.returned i; ret = ret i }

pub sound_answer : AcceptedScriptsAreSound → (declared : KindTree) (text : List ℕ) (r : Result Compiled WantOfMemory) → IfOk r (IsAnswer declared text) → IfOk r (IsSoundAnswer declared)
sound_answer sound declared text (Err e) is = is
sound_answer sound declared text (Ok (compiled.Refused diagnostics)) is = tt
sound_answer sound declared text (Ok (compiled.Accepted answer)) is = λ moment event beside of_kind beside_is formed formed_beside.
    let formed_by : (v : Tree) → IsWellFormed (length answer.sources) v → IsWellFormed (length is.script.patterns) v = λ v. subst (λ sources. IsWellFormed (length sources) v) is.sources in
    let ended = sound declared text is.script is.judgement is.accepted moment event beside of_kind beside_is (formed_by event formed) (formed_by beside formed_beside) in
    let same_ends = subst (λ ends. IsSoundlyEnded ends (ended_over (program_for is.script is.judgement) moment event beside)) (sym (told_ends is.judgement answer.judged is.judged)) ended in
    subst (λ program. IsSoundlyEnded (ends_told answer.judged) (ended_over program moment event beside)) (sym is.program) same_ends
