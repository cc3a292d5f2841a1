-- Calls of functions: what a function answers is of the kind that it told before, and it fails only where it may. Nothing of any function
-- plays a part but the law that each of them keeps.
use Rattle.std.proofs.Common.{◌≡◌, ℕ, Bool, true, false, ◌||◌, List, [], ◌++◌, append_assoc, Option, Some, None, length, map, Result, Ok, refl, sym, ap, ◌∙◌, subst, if◌then◌else◌}
use Rattle.std.proofs.lemmas.Bool.{or_right, true≢false}
use Rattle.std.proofs.lemmas.List.{length-map}
use Rattle.vrl_value.specs.Tree.{Tree}
use Rattle.vrl_value.specs.View.{items_of_trees}
use Rattle.vrl_value.specs.declared.value.Tag.{Tag}
use Rattle.vrl_diag.specs.declared.diagnostic.Diagnostic.{Diagnostic}
use Rattle.vrl_diag.specs.declared.diagnostic.Span.{Span}
use Rattle.vrl_syntax.specs.ErrorAssignments.{behind_args}
use Rattle.vrl_syntax.specs.Tree.{Args, Closure, call}
use Rattle.vrl_kind.specs.Canonical.{never_kind}
use Rattle.vrl_kind.specs.KindTree.{KindTree}
use Rattle.vrl_kind.specs.Sets.{Sets}
use Rattle.vrl_state.specs.States.{IsCutOf, IsJoined, RootMap}
use Rattle.vrl_state.specs.Stores.{FitsKnown, Store}
use Rattle.vrl_builtin.specs.Law.{IsLawful}
use Rattle.vrl_builtin.specs.Rows.{Answer, value as answered, failure, Row, SettingTree}
use Rattle.vrl_binding.specs.Binding.{binding, keywords_of}
use Rattle.vrl_table.specs.Table.{row_of}
use Rattle.vrl_binding.specs.declared.binding.BindFault.{BindFault}
use Rattle.vrl_table.specs.declared.function.Fun.{Fun}
use Rattle.vrl_store.specs.Outcomes.{value, deep, on_value}
use Rattle.vrl_store.specs.Places.{is_within}
use Rattle.vrl_store.specs.WellFormed.{AreWellFormedArgs, IsWellFormedStore}
use Rattle.vrl_judge.specs.Rules.{Argument, Judgement, at, banged, gives, if_state, with_codes}
use Rattle.vrl_check.specs.Determined.{HasCause}
use Rattle.vrl_check.specs.Judgement.{IsAnswered, IsAnsweredUnless, behind_arguments, bound, of_call, of_closure, places_in, some_has_others, wants_literal}
use Rattle.vrl_resolve.specs.Calls.{acts, answer_outcome, argument_in, called, callee_of, first_unfit, fit_or_else, items_in, within_limit}
use Rattle.vrl_resolve.specs.Meaning.{eval_args, eval_body, eval_form}
use Rattle.vrl_compile.specs.Sound.{HasNoError, IsSoundEnd, IsSoundOutcome}
use Rattle.vrl_compile.proofs.SoundArguments.{AreAllValues, AreValuesOf, argument_values, arguments_behind, arguments_counted, arguments_empties, arguments_written, own_empties}
use Rattle.vrl_compile.proofs.SoundBound.{IsBoundCall, call_is_bound, closure_told}
use Rattle.vrl_compile.proofs.SoundCallees.{banged_empties, clean_call, function_called, sound_banged}
use Rattle.vrl_compile.proofs.SoundEnds.{EndsAs, IsSoundForm, left_joins, no_error_parts, possible_state, returns_alike, right_joins, sound_behind}
use Rattle.vrl_compile.specs.SoundLaws.{Laws}
use Rattle.vrl_compile.proofs.SoundLists.{AreSoundArguments}
use Rattle.vrl_compile.proofs.SoundMet.{AreValuesIf, meets_row, values_fit, values_if}

-- ---- what comes of a call

-- a value, unless it is too deep
pub within_is_sound : (j : Judgement) (v : Tree) (store : Store) → IsSoundOutcome j (value v) store → IsSoundOutcome j (within_limit v) store
within_is_sound j v store sound = by (is_within v) where
  by : (b : Bool) → IsSoundOutcome j (if b then value v else deep) store
  by true = sound
  by false = tt

-- a failure is told where the call may fail
pub may_fail : Laws → (known before fail : Option RootMap) (fails : Bool) (store : Store) → IsJoined before (if_state fails known) fail → FitsKnown store known → fails ≡ true → FitsKnown store fail
may_fail laws known before fail fails store joined fits is = right_joins laws before (if_state fails known) fail joined store (possible_state fails known store is fits)

module _ (laws : Laws) (whole : Judgement) (K : KindTree) (fails : Bool) (fail : Option RootMap) (joined : IsJoined whole.fail (if_state fails whole.ok) fail) where
  abbrev made : Judgement
  made = record whole { kind = K; fail = fail }

  -- what a function answers
  answer_is_sound : (A : Sets) (others may : Bool) (arguments : List (Option Tree)) (answer : Answer) (store : Store) → IsLawful A may arguments answer → IsCutOf A K → fails ≡ (others || may) → FitsKnown store whole.ok → IsSoundOutcome made (answer_outcome answer) store
  answer_is_sound A others may arguments (answered v) store lawful cut is fits = within_is_sound made v store (laws.cuts v A K cut lawful.0, fits)
  answer_is_sound A others may arguments (failure text) store lawful cut is fits = may_fail laws whole.ok whole.fail fail fails store joined fits (is ∙ or_right others may lawful)

  -- what comes of the values of arguments: an error where one has a tag that its parameter doesn't allow, else what the function answers
  called_is_sound : (setting : SettingTree) (f : Fun) (js : List Argument) (vs : List Tree) (closure_codes : List Diagnostic) (ks : List (Option (List ℕ))) (b : IsBoundCall (wants_literal (row_of f)) (row_of f).parameters ks closure_codes js)
      → IsAnswered setting.sources (row_of f) (bound b.places js) K fails → AreValuesOf (length setting.sources) js vs → (store : Store) → FitsKnown store whole.ok
      → IsSoundOutcome made (called setting (row_of f) (map (argument_in (items_of_trees vs)) b.places)) store
  called_is_sound setting f js vs closure_codes ks b told are store fits = by (first_unfit 0 r.parameters ws) refl where
    r : Row
    r = row_of f

    ws : List (Option Tree)
    ws = map (argument_in (items_of_trees vs)) b.places

    values : AreValuesIf (length setting.sources) (bound b.places js) ws
    values = values_if (length setting.sources) js vs b.places are

    same : length (bound b.places js) ≡ length r.parameters
    same = length-map b.places _ ∙ b.counted

    some_others : (others : Bool) → some_has_others r.parameters (bound b.places js) ≡ others → (unfit : List ℕ × Tag) → first_unfit 0 r.parameters ws ≡ Some unfit → fails ≡ true
    some_others true is unfit found = told.fails ∙ ap (λ o. o || r.may_fail told.givens) is
    some_others false is unfit found = let wrong : None ≡ Some unfit = sym (values_fit (length setting.sources) r.parameters (bound b.places js) ws same is values) ∙ found in absurd cc

    by : (o : Option (List ℕ × Tag)) → first_unfit 0 r.parameters ws ≡ o → IsSoundOutcome made (fit_or_else o r (r.means ws setting)) store
    by None none =
        let meets = meets_row (length setting.sources) r (bound b.places js) told.givens ws same b.present b.written told.given values none in
        answer_is_sound (r.kind told.givens setting.sources) (some_has_others r.parameters (bound b.places js)) (r.may_fail told.givens) ws (r.means ws setting) store
        ((laws.lawful f).lawful told.givens ws setting meets.allowed meets.arguments meets.instances meets.below) told.kind told.fails fits
    by (Some unfit) found = may_fail laws whole.ok whole.fail fail fails store joined fits (some_others (some_has_others r.parameters (bound b.places js)) refl unfit found)

-- ---- a call behind its arguments

-- the tags that a call is run with begin with those of its arguments; those of its closure stand behind them
call_tags : (tags : List Tag) (js : List Argument) (j whole : Judgement) (span : Span) (bang : Bool) (rest : List Tag) → j.empties ≡ own_empties js → whole.empties ≡ j.empties ++ tags
    → own_empties js ++ (tags ++ rest) ≡ (banged span bang whole).empties ++ rest
call_tags tags js j whole span bang rest own is =
    ap (λ ts. ts ++ (tags ++ rest)) (sym own) ∙ sym (append_assoc j.empties tags rest) ∙ ap (λ ts. ts ++ rest) (sym is ∙ sym (banged_empties span bang whole))

-- where what comes of each list of values is an end of the call, the call ends as it was judged. The closure's body is run with the tags of the closure
pub sound_call : Laws → (setting : SettingTree) (known : RootMap) (span s : Span) (name : List ℕ) (bang : Bool) (gs : Args) (c : Closure) (js : List Argument) (j whole : Judgement) (tags rest : List Tag) → AreSoundArguments setting (gives never_kind (Some known)) gs js j
    → HasNoError j.codes → AreWellFormedArgs (length setting.sources) gs → EndsAs j whole → whole.empties ≡ j.empties ++ tags
    → ((vs : List Tree) (store : Store) → AreValuesOf (length setting.sources) js vs → FitsKnown store j.ok → IsWellFormedStore (length setting.sources) store → IsSoundEnd whole (acts setting (callee_of name gs c) (eval_body setting (tags ++ rest) c) (items_of_trees vs) store))
    → (store : Store) → IsWellFormedStore (length setting.sources) store → FitsKnown store (Some known)
    → IsSoundEnd (banged span bang whole) (eval_form setting ((banged span bang whole).empties ++ rest) (call name s bang gs c) store)
sound_call laws setting known span s name bang gs c js j whole tags rest arguments none well as_whole empties acts_sound store stored fits =
    let count = length setting.sources in
    let left = tags ++ rest in
    let all = own_empties js ++ left in
    let callee = callee_of name gs c in
    let body = eval_body setting (behind_args gs all) c in
    let values = argument_values laws setting arguments none well left [] store stored fits in
    let acted = sound_behind (AreAllValues count [] js j) j whole (eval_args setting all gs [] store) (λ w end. acts setting callee body (items_in w) end) as_whole values
    (λ w end are.
    subst (λ x. IsSoundEnd whole (acts setting callee body (items_in x) end)) (sym are.all)
    (subst (λ ts. IsSoundEnd whole (acts setting callee (eval_body setting ts c) (items_of_trees are.values) end)) (sym (arguments_behind arguments left)) (acts_sound are.values end are.each are.ok are.stored)))
    in
    subst (λ ts. IsSoundEnd (banged span bang whole) (eval_form setting ts (call name s bang gs c) store)) (call_tags tags js j whole span bang rest (arguments_empties arguments) empties)
    (sound_banged span bang whole (on_value (eval_args setting all gs [] store) (λ w end. acts setting callee body (items_in w) end)) acted)

-- ---- a call of a function

-- what is told of a call without an error code, whose arguments are bound
as_answered : (sources : List (List ℕ)) (r : Row) (js : List Argument) (K : KindTree) (fails poisoned : Bool) (b : Result (List (Option ℕ)) BindFault) (places : List (Option ℕ)) → poisoned ≡ false → b ≡ Ok places
    → IsAnsweredUnless poisoned sources r (bound (places_in b) js) K fails → IsAnswered sources r (bound places js) K fails
as_answered sources r js K fails true b places clean found told = absurd (true≢false clean)
as_answered sources r js K fails false b places clean found told = subst (λ x. IsAnswered sources r (bound (places_in x) js) K fails) found told

module _ (laws : Laws) (setting : SettingTree) (known : RootMap) (span s : Span) (f : Fun) (name : List ℕ) (bang : Bool) (gs : Args) (c : Closure) (tags : List Tag) (js : List Argument) (j : Judgement) (K : KindTree) (fails : Bool) (fail : Option RootMap)
    (named : (row_of f).name ≡ name) (arguments : AreSoundArguments setting (gives never_kind (Some known)) gs js j) where
  abbrev behind_them : Judgement
  behind_them = behind_arguments (wants_literal (row_of f)) (row_of f).parameters span gs c tags js j

  abbrev IsTold : Judgement → Type 0
  IsTold k = IsAnsweredUnless k.poisoned setting.sources (row_of f) (bound (places_in (binding (row_of f).parameters (keywords_of gs))) js) K fails

  function_is_sound : IsTold behind_them → IsJoined behind_them.fail (if_state fails behind_them.ok) fail → HasCause (banged span bang (record behind_them { kind = K; fail = fail })) → IsSoundForm setting known (call name s bang gs c) (banged span bang (record behind_them { kind = K; fail = fail }))
  function_is_sound told joined cause none well rest store stored fits =
      let whole = record behind_them { kind = K; fail = fail } in
      let clean = clean_call span bang whole none (cause ∙ none) in
      let codes = no_error_parts j.codes (of_call (wants_literal (row_of f)) (row_of f).parameters span c js (binding (row_of f).parameters (keywords_of gs))) clean.codes in
      let b = call_is_bound (wants_literal (row_of f)) (row_of f).parameters (keywords_of gs) span (of_closure span c) js (binding (row_of f).parameters (keywords_of gs)) refl (arguments_counted arguments) codes.1 in
      let answered : IsAnswered setting.sources (row_of f) (bound b.places js) K fails = as_answered setting.sources (row_of f) js K fails behind_them.poisoned (binding (row_of f).parameters (keywords_of gs)) b.places clean.sound b.found told in
      sound_call laws setting known span s name bang gs c js j whole tags rest arguments codes.0 well.0 (record { fail = left_joins laws j.fail (if_state fails j.ok) fail joined; returns = returns_alike j whole refl refl }) refl
      (λ vs end are there formed.
      subst (λ callee. IsSoundEnd whole (acts setting callee (eval_body setting (tags ++ rest) c) (items_of_trees vs) end)) (sym (ap (callee_of name gs) (closure_told span c b.closure) ∙ function_called laws f name gs js b.places named (arguments_written arguments) b.found b.written))
      (called_is_sound laws behind_them K fails fail joined setting f js vs (of_closure span c) (keywords_of gs) b answered are end there))
      store stored fits

pub call_is_sound : Laws → (setting : SettingTree) (known : RootMap) (span s : Span) (f : Fun) (name : List ℕ) (bang : Bool) (gs : Args) (c : Closure) (tags : List Tag) (js : List Argument) (j whole : Judgement) (K : KindTree) (fails : Bool) (fail : Option RootMap)
    → (row_of f).name ≡ name → AreSoundArguments setting (gives never_kind (Some known)) gs js j → whole ≡ behind_arguments (wants_literal (row_of f)) (row_of f).parameters span gs c tags js j
    → IsAnsweredUnless whole.poisoned setting.sources (row_of f) (bound (places_in (binding (row_of f).parameters (keywords_of gs))) js) K fails → IsJoined whole.fail (if_state fails whole.ok) fail → HasCause (banged span bang (record whole { kind = K; fail = fail }))
    → IsSoundForm setting known (call name s bang gs c) (banged span bang (record whole { kind = K; fail = fail }))
call_is_sound laws setting known span s f name bang gs c tags js j whole K fails fail named arguments is told joined cause =
    subst (λ w. IsSoundForm setting known (call name s bang gs c) (banged span bang (record w { kind = K; fail = fail }))) (sym is)
    (function_is_sound laws setting known span s f name bang gs c tags js j K fails fail named arguments
    (subst (λ w. IsAnsweredUnless w.poisoned setting.sources (row_of f) (bound (places_in (binding (row_of f).parameters (keywords_of gs))) js) K fails) is told)
    (subst (λ w. IsJoined w.fail (if_state fails w.ok) fail) is joined) (subst (λ w. HasCause (banged span bang (record w { kind = K; fail = fail }))) is cause))

-- a call of no function has an error code
pub call_of_nothing_is_sound : (setting : SettingTree) (known : RootMap) (s : Span) (name : List ℕ) (bang : Bool) (gs : Args) (c : Closure) (j : Judgement) → IsSoundForm setting known (call name s bang gs c) (with_codes (at 105 s) j)
call_of_nothing_is_sound setting known s name bang gs c j none well rest store stored fits = absurd (true≢false (no_error_parts j.codes (at 105 s) none).1)
