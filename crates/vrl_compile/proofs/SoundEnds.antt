-- Ends put together: where the parts of a form end as they were judged, so does the form. What a part does is seen as a run, from a store
-- to an end, so nothing here speaks of an expression but `as_run`.
use Rattle.std.proofs.Common.{◌≡◌, ℕ, length, Bool, true, false, not, List, ◌++◌, ◌↔◌, Option, Some, None, inl, inr, sym, ◌∙◌, subst, if◌then◌else◌}
use Rattle.std.specs.Prelude.{⊤}
use Rattle.std.proofs.lemmas.Bool.{true≢false, or_parts}
use Rattle.std.proofs.lemmas.List.Folds.{list_any-append}
use Rattle.vrl_value.specs.Tree.{Tree}
use Rattle.vrl_value.specs.declared.value.Tag.{Tag}
use Rattle.vrl_diag.specs.declared.diagnostic.Diagnostic.{Diagnostic}
use Rattle.vrl_syntax.specs.Tree.{Expr, Form}
use Rattle.vrl_kind.specs.KindTree.{KindTree}
use Rattle.vrl_kind.specs.Kinds.{Inhabits}
use Rattle.vrl_state.specs.States.{IsEither, IsJoined, RootMap}
use Rattle.vrl_state.specs.Stores.{FitsKnown, Store}
use Rattle.vrl_builtin.specs.Rows.{SettingTree}
use Rattle.vrl_store.specs.Outcomes.{Outcome, value, error, aborted, returned, banged, deep, Ended, error_then, on_error, on_value, value_then}
use Rattle.vrl_store.specs.WellFormed.{IsWellFormed, IsWellFormedEnded, IsWellFormedExpr, IsWellFormedForm, IsWellFormedOutcome, IsWellFormedStore}
use Rattle.vrl_diag.specs.Refusal.{is_error}
use Rattle.vrl_judge.specs.Rules.{Judgement, IsBehind, IsThen, if_state, is_alive, settle, settled_kind}
use Rattle.vrl_check.specs.Judgement.{IsBeside}
use Rattle.vrl_resolve.specs.Meaning.{eval, eval_form}
use Rattle.vrl_compile.specs.Sound.{HasNoError, IsSoundEnd, IsSoundFrom, IsSoundOutcome}
use Rattle.vrl_compile.specs.SoundLaws.{Laws}

-- ---- what is shown of parts and of forms

-- what a form is told of each of its parts
abbrev pub IsSoundPart : SettingTree → Option RootMap → Expr → Judgement → Type 0
IsSoundPart setting known e j = HasNoError j.codes → IsWellFormedExpr (length setting.sources) e → IsSoundFrom setting known e j

-- what is shown of a form, before it is settled
abbrev pub IsSoundForm : SettingTree → RootMap → Form → Judgement → Type 0
IsSoundForm setting known f j = HasNoError j.codes → IsWellFormedForm (length setting.sources) f
    → (rest : List Tag) (store : Store) → IsWellFormedStore (length setting.sources) store → FitsKnown store (Some known) → IsSoundEnd j (eval_form setting (j.empties ++ rest) f store)

-- run from any well-formed store that fits, it ends as it was judged, and leaves all well formed
pub record IsRun (count : ℕ) (known : Option RootMap) (j : Judgement) (run : Store → Ended) : Type 0 where
  pub sound : (store : Store) → IsWellFormedStore count store → FitsKnown store known → IsSoundEnd j (run store)
  pub kept : (store : Store) → IsWellFormedStore count store → IsWellFormedEnded count (run store)

-- a part is such a run
pub as_run : Laws → (setting : SettingTree) (known : Option RootMap) (e : Expr) (j : Judgement) (rest : List Tag) → IsWellFormedExpr (length setting.sources) e → IsSoundFrom setting known e j → IsRun (length setting.sources) known j (eval setting (j.empties ++ rest) e)
as_run laws setting known e j rest well sound = record {
  sound = λ store stored fits. sound rest store stored fits;
  kept = λ store stored. laws.kept.expression setting (j.empties ++ rest) e store well stored;
}

-- ---- codes

-- two lists of codes without an error, one after the other
pub no_error_parts : (first second : List Diagnostic) → HasNoError (first ++ second) → HasNoError first × HasNoError second
no_error_parts first second none = or_parts _ _ (sym (list_any-append is_error first second) ∙ none)

-- the same of two parts of a whole
pub no_error_behind : (before part after : Judgement) → IsBehind before part after → HasNoError after.codes → HasNoError before.codes × HasNoError part.codes
no_error_behind before part after behind none = no_error_parts before.codes part.codes (subst HasNoError behind.codes none)

pub no_error_beside : (ways way all : Judgement) → IsBeside ways way all → HasNoError all.codes → HasNoError ways.codes × HasNoError way.codes
no_error_beside ways way all beside none = no_error_parts ways.codes way.codes (subst HasNoError beside.codes none)

-- ---- ends of a part as ends of the whole

-- where the part ends with an error, as much is known of the whole
abbrev pub FailsAs : Judgement → Judgement → Type 0
FailsAs part whole = (store : Store) → FitsKnown store part.fail → FitsKnown store whole.fail

-- where the part ends with a return, so does the whole
pub record ReturnsAs (part whole : Judgement) : Type 0 where
  pub ret : (store : Store) → FitsKnown store part.ret → FitsKnown store whole.ret
  pub returned : (v : Tree) → Inhabits v part.returned → Inhabits v whole.returned

pub record EndsAs (part whole : Judgement) : Type 0 where
  pub fail : FailsAs part whole
  pub returns : ReturnsAs part whole

-- and where it ends with a value
pub record GivesAs (part whole : Judgement) : Type 0 where
  pub kind : (v : Tree) → Inhabits v part.kind → Inhabits v whole.kind
  pub ok : (store : Store) → FitsKnown store part.ok → FitsKnown store whole.ok

pub ends_itself : {j : Judgement} → EndsAs j j
ends_itself = record { fail = λ store fits. fits; returns = record { ret = λ store fits. fits; returned = λ v is. is } }

-- the returns of a part, where the whole has the same
pub returns_alike : (part whole : Judgement) → part.ret ≡ whole.ret → part.returned ≡ whole.returned → ReturnsAs part whole
returns_alike part whole one_ret one_returned = record { ret = λ store. subst (FitsKnown store) one_ret; returned = λ v. subst (Inhabits v) one_returned }

-- two judgements of one fail and one return, as those of a form and of its part often are: `ends_alike j (record j { kind = K }) refl refl refl`
pub ends_alike : (part whole : Judgement) → part.fail ≡ whole.fail → part.ret ≡ whole.ret → part.returned ≡ whole.returned → EndsAs part whole
ends_alike part whole one_fail one_ret one_returned = record { fail = λ store. subst (FitsKnown store) one_fail; returns = returns_alike part whole one_ret one_returned }

pub returns_through : {a b c : Judgement} → ReturnsAs a b → ReturnsAs b c → ReturnsAs a c
returns_through first second = record { ret = λ store fits. second.ret store (first.ret store fits); returned = λ v is. second.returned v (first.returned v is) }

pub ends_through : {a b c : Judgement} → EndsAs a b → EndsAs b c → EndsAs a c
ends_through first second = record { fail = λ store fits. second.fail store (first.fail store fits); returns = returns_through first.returns second.returns }

pub gives_through : {a b c : Judgement} → GivesAs a b → GivesAs b c → GivesAs a c
gives_through first second = record { kind = λ v is. second.kind v (first.kind v is); ok = λ store fits. second.ok store (first.ok store fits) }

pub left_joins : Laws → (a b c : Option RootMap) → IsJoined a b c → (store : Store) → FitsKnown store a → FitsKnown store c
left_joins laws a b c is store fits = laws.joins a b c store is (inl fits)

pub right_joins : Laws → (a b c : Option RootMap) → IsJoined a b c → (store : Store) → FitsKnown store b → FitsKnown store c
right_joins laws a b c is store fits = laws.joins a b c store is (inr fits)

pub left_either : Laws → (K L M : KindTree) → IsEither K L M → (v : Tree) → Inhabits v K → Inhabits v M
left_either laws K L M is v of_kind = laws.either v K L M is (inl of_kind)

pub right_either : Laws → (K L M : KindTree) → IsEither K L M → (v : Tree) → Inhabits v L → Inhabits v M
right_either laws K L M is v of_kind = laws.either v K L M is (inr of_kind)

-- a state that is known where a test holds
pub possible_state : (possible : Bool) (known : Option RootMap) (store : Store) → possible ≡ true → FitsKnown store known → FitsKnown store (if_state possible known)
possible_state possible known store is fits = subst (λ b. FitsKnown store (if_state b known)) (sym is) fits

-- parts in order
pub first_returns : Laws → (before part after : Judgement) → IsBehind before part after → ReturnsAs before after
first_returns laws before part after is = record { ret = left_joins laws before.ret part.ret after.ret is.ret; returned = left_either laws before.returned part.returned after.returned is.returned }

pub second_returns : Laws → (before part after : Judgement) → IsBehind before part after → ReturnsAs part after
second_returns laws before part after is = record { ret = right_joins laws before.ret part.ret after.ret is.ret; returned = right_either laws before.returned part.returned after.returned is.returned }

pub first_ends : Laws → (before part after : Judgement) → IsThen before part after → EndsAs before after
first_ends laws before part after is = record { fail = left_joins laws before.fail part.fail after.fail is.fail; returns = first_returns laws before part after is.behind }

pub second_ends : Laws → (before part after : Judgement) → IsThen before part after → EndsAs part after
second_ends laws before part after is = record { fail = right_joins laws before.fail part.fail after.fail is.fail; returns = second_returns laws before part after is.behind }

-- alternatives
pub left_ends : Laws → (ways way all : Judgement) → IsBeside ways way all → EndsAs ways all
left_ends laws ways way all is = record {
  fail = left_joins laws ways.fail way.fail all.fail is.fail;
  returns = record { ret = left_joins laws ways.ret way.ret all.ret is.ret; returned = left_either laws ways.returned way.returned all.returned is.returned };
}

pub right_ends : Laws → (ways way all : Judgement) → IsBeside ways way all → EndsAs way all
right_ends laws ways way all is = record {
  fail = right_joins laws ways.fail way.fail all.fail is.fail;
  returns = record { ret = right_joins laws ways.ret way.ret all.ret is.ret; returned = right_either laws ways.returned way.returned all.returned is.returned };
}

pub left_gives : Laws → (ways way all : Judgement) → IsBeside ways way all → GivesAs ways all
left_gives laws ways way all is = record { kind = left_either laws ways.kind way.kind all.kind is.kind; ok = left_joins laws ways.ok way.ok all.ok is.ok }

pub right_gives : Laws → (ways way all : Judgement) → IsBeside ways way all → GivesAs way all
right_gives laws ways way all is = record { kind = right_either laws ways.kind way.kind all.kind is.kind; ok = right_joins laws ways.ok way.ok all.ok is.ok }

-- ---- what follows

-- it ended as it was judged, and of a value with the store behind it this holds
abbrev IsOutcomeAs : (Tree → Store → Type 0) → Judgement → Outcome → Store → Type 0
IsOutcomeAs P j (value v) store = P v store
IsOutcomeAs P j (error text) store = FitsKnown store j.fail
IsOutcomeAs P j (returned v) store = Inhabits v j.returned × FitsKnown store j.ret
IsOutcomeAs P j other store = ⊤

abbrev pub IsSoundAs : (Tree → Store → Type 0) → Judgement → Ended → Type 0
IsSoundAs P j ended = IsOutcomeAs P j ended.outcome ended.store

-- a value came: it is of its kind, the store fits, and both are well formed
pub record IsGiven (count : ℕ) (j : Judgement) (v : Tree) (after : Store) : Type 0 where
  pub kind : Inhabits v j.kind
  pub ok : FitsKnown after j.ok
  pub well : IsWellFormed count v
  pub stored : IsWellFormedStore count after

-- an error came
pub record IsFailed (count : ℕ) (j : Judgement) (after : Store) : Type 0 where
  pub fail : FitsKnown after j.fail
  pub stored : IsWellFormedStore count after

abbrev pub IsValueOf : Judgement → Tree → Store → Type 0
IsValueOf j v store = Inhabits v j.kind × FitsKnown store j.ok

outcome_told : (j : Judgement) (outcome : Outcome) (store : Store) → IsSoundOutcome j outcome store ↔ IsOutcomeAs (IsValueOf j) j outcome store
outcome_told j (value v) store = (λ is. is, λ is. is)
outcome_told j (error text) store = (λ is. is, λ is. is)
outcome_told j (returned v) store = (λ is. is, λ is. is)
outcome_told j (aborted m) store = (λ is. is, λ is. is)
outcome_told j (banged text) store = (λ is. is, λ is. is)
outcome_told j deep store = (λ is. is, λ is. is)

-- both ways of telling that it ended as it was judged
pub sound_told : (j : Judgement) (ended : Ended) → IsSoundEnd j ended ↔ IsSoundAs (IsValueOf j) j ended
sound_told j ended = outcome_told j ended.outcome ended.store

outcome_given : (count : ℕ) (j : Judgement) (outcome : Outcome) (store : Store) → IsSoundOutcome j outcome store → IsWellFormedOutcome count outcome → IsWellFormedStore count store → IsOutcomeAs (IsGiven count j) j outcome store
outcome_given count j (value v) store sound well stored = record { kind = sound.0; ok = sound.1; well = well; stored = stored }
outcome_given count j (error text) store sound well stored = sound
outcome_given count j (returned v) store sound well stored = sound
outcome_given count j (aborted m) store sound well stored = sound
outcome_given count j (banged text) store sound well stored = sound
outcome_given count j deep store sound well stored = sound

pub sound_given : (count : ℕ) (j : Judgement) (ended : Ended) → IsSoundEnd j ended → IsWellFormedEnded count ended → IsSoundAs (IsGiven count j) j ended
sound_given count j ended sound well = outcome_given count j ended.outcome ended.store sound well.0 well.1

weaker_outcome : (P Q : Tree → Store → Type 0) (j : Judgement) (outcome : Outcome) (store : Store) → ((v : Tree) (after : Store) → P v after → Q v after) → IsOutcomeAs P j outcome store → IsOutcomeAs Q j outcome store
weaker_outcome P Q j (value v) store weaker sound = weaker v store sound
weaker_outcome P Q j (error text) store weaker sound = sound
weaker_outcome P Q j (returned v) store weaker sound = sound
weaker_outcome P Q j (aborted m) store weaker sound = sound
weaker_outcome P Q j (banged text) store weaker sound = sound
weaker_outcome P Q j deep store weaker sound = sound

pub as_weaker : (P Q : Tree → Store → Type 0) (j : Judgement) (ended : Ended) → ((v : Tree) (after : Store) → P v after → Q v after) → IsSoundAs P j ended → IsSoundAs Q j ended
as_weaker P Q j ended weaker sound = weaker_outcome P Q j ended.outcome ended.store weaker sound

then_outcome : (P Q : Tree → Store → Type 0) (j whole : Judgement) (outcome : Outcome) (store : Store) (next : Tree → Store → Ended) → EndsAs j whole → IsOutcomeAs P j outcome store
    → ((v : Tree) (after : Store) → P v after → IsSoundAs Q whole (next v after)) → IsSoundAs Q whole (value_then outcome store next)
then_outcome P Q j whole (value v) store next as_whole sound more = more v store sound
then_outcome P Q j whole (error text) store next as_whole sound more = as_whole.fail store sound
then_outcome P Q j whole (returned v) store next as_whole sound more = (as_whole.returns.returned v sound.0, as_whole.returns.ret store sound.1)
then_outcome P Q j whole (aborted m) store next as_whole sound more = tt
then_outcome P Q j whole (banged text) store next as_whole sound more = tt
then_outcome P Q j whole deep store next as_whole sound more = tt

-- behind a part that ended as it was judged: where each value that may have come is followed by an end of the whole, the whole ends as it
-- was judged
pub as_on_value : (P Q : Tree → Store → Type 0) (j whole : Judgement) (ended : Ended) (next : Tree → Store → Ended) → EndsAs j whole → IsSoundAs P j ended
    → ((v : Tree) (after : Store) → P v after → IsSoundAs Q whole (next v after)) → IsSoundAs Q whole (on_value ended next)
as_on_value P Q j whole ended next as_whole sound more = then_outcome P Q j whole ended.outcome ended.store next as_whole sound more

-- the same where the part is an expression, or the whole is
pub sound_behind : (P : Tree → Store → Type 0) (j whole : Judgement) (ended : Ended) (next : Tree → Store → Ended) → EndsAs j whole → IsSoundAs P j ended
    → ((v : Tree) (after : Store) → P v after → IsSoundEnd whole (next v after)) → IsSoundEnd whole (on_value ended next)
sound_behind P j whole ended next as_whole sound more =
    (sound_told whole (on_value ended next)).1 (as_on_value P (IsValueOf whole) j whole ended next as_whole sound (λ v after is. (sound_told whole (next v after)).0 (more v after is)))

pub sound_on_value : (count : ℕ) (j whole : Judgement) (ended : Ended) (next : Tree → Store → Ended) → EndsAs j whole → IsSoundEnd j ended → IsWellFormedEnded count ended
    → ((v : Tree) (after : Store) → IsGiven count j v after → IsSoundEnd whole (next v after)) → IsSoundEnd whole (on_value ended next)
sound_on_value count j whole ended next as_whole sound well more = sound_behind (IsGiven count j) j whole ended next as_whole (sound_given count j ended sound well) more

else_next : (count : ℕ) (j whole : Judgement) (outcome : Outcome) (store : Store) (next : List ℕ → Store → Ended) → ReturnsAs j whole → GivesAs j whole → IsSoundOutcome j outcome store → IsWellFormedStore count store
    → ((text : List ℕ) (after : Store) → IsFailed count j after → IsSoundEnd whole (next text after)) → IsSoundEnd whole (error_then outcome store next)
else_next count j whole (value v) store next returns gives sound stored more = (gives.kind v sound.0, gives.ok store sound.1)
else_next count j whole (error text) store next returns gives sound stored more = more text store (record { fail = sound; stored = stored })
else_next count j whole (returned v) store next returns gives sound stored more = (returns.returned v sound.0, returns.ret store sound.1)
else_next count j whole (aborted m) store next returns gives sound stored more = tt
else_next count j whole (banged text) store next returns gives sound stored more = tt
else_next count j whole deep store next returns gives sound stored more = tt

-- the same of an error that may have come
pub sound_on_error : (count : ℕ) (j whole : Judgement) (ended : Ended) (next : List ℕ → Store → Ended) → ReturnsAs j whole → GivesAs j whole → IsSoundEnd j ended → IsWellFormedEnded count ended
    → ((text : List ℕ) (after : Store) → IsFailed count j after → IsSoundEnd whole (next text after)) → IsSoundEnd whole (on_error ended next)
sound_on_error count j whole ended next returns gives sound well more = else_next count j whole ended.outcome ended.store next returns gives sound well.1 more

sound_outcome_as : (part whole : Judgement) (outcome : Outcome) (store : Store) → EndsAs part whole → GivesAs part whole → IsSoundOutcome part outcome store → IsSoundOutcome whole outcome store
sound_outcome_as part whole (value v) store as_whole gives sound = (gives.kind v sound.0, gives.ok store sound.1)
sound_outcome_as part whole (error text) store as_whole gives sound = as_whole.fail store sound
sound_outcome_as part whole (returned v) store as_whole gives sound = (as_whole.returns.returned v sound.0, as_whole.returns.ret store sound.1)
sound_outcome_as part whole (aborted m) store as_whole gives sound = tt
sound_outcome_as part whole (banged text) store as_whole gives sound = tt
sound_outcome_as part whole deep store as_whole gives sound = tt

-- a part whose ends are all ends of the whole
pub sound_as : (part whole : Judgement) (ended : Ended) → EndsAs part whole → GivesAs part whole → IsSoundEnd part ended → IsSoundEnd whole ended
sound_as part whole ended as_whole gives sound = sound_outcome_as part whole ended.outcome ended.store as_whole gives sound

-- whichever is done, it ends as it was judged
pub sound_either : (j : Judgement) (test : Bool) (first second : Ended) → IsSoundEnd j first → IsSoundEnd j second → IsSoundEnd j (if test then first else second)
sound_either j true first second one two = one
sound_either j false first second one two = two

-- ---- what is settled

-- what isn't poisoned is settled as it is, since no store fits what is dead
settled_outcome : (j : Judgement) (ok fail : Option RootMap) (poisoned : Bool) (outcome : Outcome) (store : Store) → poisoned ≡ false → IsSoundOutcome (record j { ok = ok; fail = fail }) outcome store
    → IsSoundOutcome (record j { kind = settled_kind poisoned (is_alive ok) j.kind; ok = ok; fail = if_state (not poisoned) fail }) outcome store
settled_outcome j ok fail true outcome store is sound = absurd (true≢false is)
settled_outcome j None fail false (value v) store is sound = absurd sound.1
settled_outcome j (Some known) fail false (value v) store is sound = sound
settled_outcome j ok fail false (error text) store is sound = sound
settled_outcome j ok fail false (returned v) store is sound = sound
settled_outcome j ok fail false (aborted m) store is sound = tt
settled_outcome j ok fail false (banged text) store is sound = tt
settled_outcome j ok fail false deep store is sound = tt

pub sound_settled : (j : Judgement) (ended : Ended) → j.poisoned ≡ false → IsSoundEnd j ended → IsSoundEnd (settle j) ended
sound_settled j ended is sound = settled_outcome j j.ok j.fail j.poisoned ended.outcome ended.store is sound
