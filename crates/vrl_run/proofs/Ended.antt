-- A run in memory ended as the meaning says, so the line's result is that of the meaning.
use Rattle.std.proofs.Common.{◌≡◌, Bool, ℕ, List, unwrap_or, refl, sym, ap, ◌∙◌}
use Rattle.std.specs.Prelude.{IfOk}
use Rattle.std.specs.declared.result.Result.{Result}
use Rattle.std.specs.declared.result.Result.TheVariants.{Ok, Err}
use Rattle.vrl_value.specs.Tree.{Tree, object, no_members}
use Rattle.vrl_value.specs.declared.memory.Memory.{Memory}
use Rattle.vrl_syntax.specs.Stores.{Store}
use Rattle.vrl_store.specs.Outcomes.{Ended}
use Rattle.vrl_resolve.specs.Meaning.{End, ended, ended_aborted, ended_banged, ended_deep, end_of}
use Rattle.vrl_resolve.specs.Program.{IsEnd, IsRan}
use Rattle.vrl_resolve.specs.declared.ran.Ended.{Ended as CodeEnded}
use Rattle.vrl_resolve.specs.declared.ran.Ended.TheVariants as code
use Rattle.vrl_resolve.specs.declared.ran.Ran.{Ran}
use Rattle.vrl_batch.specs.declared.work.LineOut.{LineOut}
use Rattle.vrl_run.specs.LineResult.{end_result, event_result, left_of, StandsFor}
use Rattle.vrl_run.specs.Ran.{end_in, left_in}
use Rattle.vrl_run.specs.declared.options.Options.{Options}

-- of a value a line's result tells nothing
end_is : (sources : List (List ℕ)) (options : Options) (number : ℕ) (read left : Tree × Tree) (asked : Bool) (e : End) (store : Store) (c : CodeEnded) → IsEnd asked e store c →
    end_result sources options number read (end_in c) left ≡ end_result sources options number read e left
end_is sources options number read left asked (ended v) store (code.Value given) is = refl
end_is sources options number read left asked (ended_aborted m) store (code.Aborted n) is = ap (λ m. end_result sources options number read (ended_aborted m) left) is
end_is sources options number read left asked (ended_banged text) store (code.Banged told) is = ap (λ text. end_result sources options number read (ended_banged text) left) is
end_is sources options number read left asked ended_deep store code.Deep is = refl
end_is sources options number read left asked e store c is = absurd is

left_is : (asked : Bool) (meant : Ended) (ran : Ran) → IsRan asked meant ran → left_in ran ≡ left_of meant.store
left_is asked meant ran is = λ i. (is.event i, sym (ap (λ found. unwrap_or found (object no_members)) is.metadata) i)

meant_result : (sources : List (List ℕ)) (options : Options) (number : ℕ) (read : Tree × Tree) (asked : Bool) (meant : Ended) (ran : Ran) → IsRan asked meant ran →
    end_result sources options number read (end_in ran.ended) (left_in ran) ≡ event_result sources options number read meant
meant_result sources options number read asked meant ran is =
    end_is sources options number read (left_in ran) asked (end_of meant.outcome) meant.store ran.ended is.end ∙ ap (end_result sources options number read (end_of meant.outcome)) (left_is asked meant ran is)

-- so is the result of a line, whatever it was read as
pub meant_line : (sources : List (List ℕ)) (options : Options) (number : ℕ) (bytes : List ℕ) (read : Tree × Tree) (asked : Bool) (meant : Ended) (ran : Ran) (result : Result LineOut Memory) → IsRan asked meant ran → StandsFor options.envelope bytes read →
    IfOk result (λ out. (other : Tree × Tree) → StandsFor options.envelope bytes other → out ≡ end_result sources options number other (end_in ran.ended) (left_in ran)) →
    IfOk result (λ out. out ≡ event_result sources options number read meant)
meant_line sources options number bytes read asked meant ran (Ok out) is told gives = gives read told ∙ meant_result sources options number read asked meant ran is
meant_line sources options number bytes read asked meant ran (Err refused) is told gives = tt
