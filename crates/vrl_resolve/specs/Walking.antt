-- What a run of a part asks of the store that it starts in, and what it promises of how it ends and
-- of the store that it leaves.
use Rattle.std.specs.Prelude.{◌≡◌, Bool, true, false, List, [], ◌++◌, length, map, Vec}
use Rattle.std.specs.declared.alloc.Global.{Global}
use Rattle.std.specs.declared.result.Result.{Result}
use Rattle.std.specs.declared.result.Result.TheVariants.{Ok, Err}
use Rattle.vrl_value.specs.Tree.{Tree}
use Rattle.vrl_value.specs.View.{tree_of}
use Rattle.vrl_value.specs.declared.value.Tag.{Tag}
use Rattle.vrl_value.specs.declared.value.Value.{Value}
use Rattle.vrl_syntax.specs.Stores.{Store}
use Rattle.vrl_syntax.specs.declared.root.Target.{Target}
use Rattle.vrl_builtin.specs.Rows.{SettingTree}
use Rattle.vrl_builtin.specs.View.{setting_of}
use Rattle.vrl_store.specs.Operators.{is_true}
use Rattle.vrl_store.specs.Outcomes.{Ended, ends, value}
use Rattle.vrl_store.specs.Places.{writes_to}
use Rattle.vrl_store.specs.StoreView.{count_of, present_of, store_in, AreNames, IsFront, Names}
use Rattle.vrl_store.specs.Results.{Ends, Stops}
use Rattle.vrl_store.specs.WellFormed.{IsWellFormedStore}
use Rattle.vrl_store.specs.declared.stop.Stop.{Stop}
use Rattle.vrl_store.specs.declared.store.Store.{Store as CodeStore}
use Rattle.vrl_resolve.specs.Fits.{AllFit, ArmsFit, ElseFits, Fits, MessageFits, PairsFit}
use Rattle.vrl_resolve.specs.Linked.{Arms, Else, Linked, Message, Pairs, Parts, parts_of_list}
use Rattle.vrl_resolve.specs.LinkedMeaning.{all_mean, means}
use Rattle.vrl_resolve.specs.Meaning.{both_assigned, written_both}
use Rattle.vrl_resolve.specs.declared.walk.Context.{Context}

-- ---- the context of a run

abbrev pub names_in : Context → Names
names_in x = x.names.now

abbrev pub setting_in : Context → SettingTree
setting_in x = setting_of x.setting

-- the store, with the names of the variables
abbrev pub store_at : Context → CodeStore → Store
store_at x s = store_in (names_in x) s

-- ---- what is asked

pub record IsReadyStore (x : Context) (s : CodeStore) : Type 0 where
  pub names : AreNames (names_in x) s
  -- what it has is in order, and each of its regexes is one of the script's
  pub formed : IsWellFormedStore (length (setting_in x).sources) (store_at x s)

abbrev pub FitsIn : Context → Linked → Type 0
FitsIn x n = Fits (length (names_in x)) (length (setting_in x).sources) n

abbrev pub AllFitIn : Context → Parts → Type 0
AllFitIn x ns = AllFit (length (names_in x)) (length (setting_in x).sources) ns

abbrev pub PairsFitIn : Context → Pairs → Type 0
PairsFitIn x ps = PairsFit (length (names_in x)) (length (setting_in x).sources) ps

abbrev pub ArmsFitIn : Context → Arms → Type 0
ArmsFitIn x as_ = ArmsFit (length (names_in x)) (length (setting_in x).sources) as_

abbrev pub ElseFitsIn : Context → Else → Type 0
ElseFitsIn x otherwise = ElseFits (length (names_in x)) (length (setting_in x).sources) otherwise

abbrev pub MessageFitsIn : Context → Message → Type 0
MessageFitsIn x m = MessageFits (length (names_in x)) (length (setting_in x).sources) m

-- ---- what is promised

-- what a run keeps of a store: the variables that were there first, and how many variables there
-- may be
pub record Stays (before after : CodeStore) : Type 0 where
  pub front : IsFront (present_of before) (present_of after)
  pub as_many : count_of after ≡ count_of before

-- what a part means, in the store
abbrev pub meant : Context → Linked → CodeStore → Ended
meant x n s = means (names_in x) (setting_in x) n (store_at x s)

-- it ended with a value; where that isn't asked for, nothing is told but that there is one
abbrev pub EndsWith : Bool → Ended → Store → Value → Type 0
EndsWith true ended store v = ended ≡ ends (value (tree_of v)) store
EndsWith false ended store v = (w : Tree) × (ended ≡ ends (value w) store)

-- it ended so, and left this store
abbrev pub EndsAsked : Bool → Ended → Store → Result Value Stop → Type 0
EndsAsked asked ended store (Ok v) = EndsWith asked ended store v
EndsAsked asked ended store (Err stop) = Stops ended store stop

-- the same where its value is asked for
abbrev pub EndsIn : Context → Ended → CodeStore → Result Value Stop → Type 0
EndsIn x ended after result = Ends ended (store_at x after) result

-- the parts were run, whatever stands behind them: the values so far, or why they have none
abbrev pub AllEnd : Context → List Linked → CodeStore → CodeStore → Result (Vec Value Global) Stop → Type 0
AllEnd x ns before after (Ok vs) = (more : List Linked)
    → all_mean (names_in x) (setting_in x) (parts_of_list (ns ++ more)) [] (store_at x before) ≡ all_mean (names_in x)
    (setting_in x) (parts_of_list more) (map tree_of vs.items) (store_at x after)
AllEnd x ns before after (Err stop) = (more : List Linked)
    → Stops (all_mean (names_in x) (setting_in x) (parts_of_list (ns ++ more)) [] (store_at x before))
    (store_at x after) stop

-- it ended with a value, of which this is told whether it is true
abbrev pub EndsTrue : Ended → Store → Result Bool Stop → Type 0
EndsTrue ended store (Ok b) = (v : Tree) × ((ended ≡ ends (value v) store) × (b ≡ is_true v))
EndsTrue ended store (Err stop) = Stops ended store stop

-- a value was written to a target, and what follows goes on from there
abbrev pub WritesTo : Target → Tree → Store → Store → Result (Unit {0}) Stop → Type 0
WritesTo target v before after (Ok done) = (next : Store → Ended) → writes_to target v before next ≡ next after
WritesTo target v before after (Err stop) = (next : Store → Ended) → Stops (writes_to target v before next) after stop

-- what an error assignment writes to its two targets
abbrev pub GivesBoth : Tag → Ended → Store → Result (Value × Value) Stop → Type 0
GivesBoth tag given store (Ok vs) = (ok err : Target)
    → both_assigned ok err tag given.outcome given.store ≡ written_both ok err (tree_of vs.0) (tree_of vs.1) store
GivesBoth tag given store (Err stop) =
    (ok err : Target) → Stops (both_assigned ok err tag given.outcome given.store) store stop
