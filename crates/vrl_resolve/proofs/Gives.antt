-- An outcome, and an end with this outcome.
use Rattle.std.proofs.Common.{ap}
use Rattle.std.specs.declared.result.Result.{Result}
use Rattle.std.specs.declared.result.Result.TheVariants.{Ok, Err}
use Rattle.vrl_value.specs.declared.value.Value.{Value}
use Rattle.vrl_syntax.specs.Stores.{Store}
use Rattle.vrl_store.specs.Outcomes.{Outcome, ends}
use Rattle.vrl_store.specs.Results.{Ends, Gives, IsStop, Stops}
use Rattle.vrl_store.specs.declared.stop.Stop.{Stop}
use Rattle.vrl_store.specs.declared.stop.Stop.TheVariants as stop

stop_stops : (outcome : Outcome) (store : Store) (s : Stop) → IsStop outcome s → Stops (ends outcome store) store s
stop_stops outcome store (stop.Error text) is = ap (λ o. ends o store) is
stop_stops outcome store (stop.Aborted message) is = ap (λ o. ends o store) is
stop_stops outcome store (stop.Returned v) is = ap (λ o. ends o store) is
stop_stops outcome store (stop.Banged text) is = ap (λ o. ends o store) is
stop_stops outcome store stop.Deep is = ap (λ o. ends o store) is
stop_stops outcome store stop.Memory is = tt

pub gives_ends : (outcome : Outcome) (store : Store) (result : Result Value Stop) → Gives outcome result → Ends (ends outcome store) store result
gives_ends outcome store (Ok v) is = ap (λ o. ends o store) is
gives_ends outcome store (Err s) is = stop_stops outcome store s is
