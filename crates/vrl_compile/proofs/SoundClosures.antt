-- Calls of the functions that run a closure for each part of a collection: where the argument and the runs end as they were judged, so does the call.
use Rattle.std.proofs.Common.{◌≡◌, ℕ, suc, length, Bool, true, false, not, ◌&&◌, List, [], ◌∷◌, ◌++◌, Option, Some, None, Result, Ok, Err, codes, slice_get, if◌then◌else◌, refl, sym, ap, ◌∙◌, subst}
use Rattle.std.specs.List.{list_any}
use Rattle.std.proofs.lemmas.Bool.{and_from, not-false, true≢false}
use Rattle.vrl_value.specs.Tag.{tag_of}
use Rattle.vrl_value.specs.Tree.{Tree}
use Rattle.vrl_value.specs.View.{items_of_trees}
use Rattle.vrl_value.specs.declared.value.Tag.{Tag}
use Rattle.vrl_diag.specs.declared.diagnostic.Diagnostic.{Diagnostic}
use Rattle.vrl_diag.specs.declared.diagnostic.Span.{Span}
use Rattle.vrl_diag.specs.Refusal.{is_error}
use Rattle.vrl_syntax.specs.Calls.{form_named, has_shape, is_closure_form}
use Rattle.vrl_syntax.specs.Tree.{Args, Closure, no_closure, closure, Expr, Exprs, call, span_of}
use Rattle.vrl_syntax.specs.declared.call_form.CallForm.{CallForm}
use Rattle.vrl_kind.specs.Canonical.{never_kind}
use Rattle.vrl_kind.specs.KindTree.{KindTree}
use Rattle.vrl_kind.specs.Kinds.{Inhabits}
use Rattle.vrl_kind.specs.PartSets.{parts_at}
use Rattle.vrl_state.specs.States.{IsCutOf, IsJoined, RootMap}
use Rattle.vrl_state.specs.Stores.{FitsKnown, Store}
use Rattle.vrl_builtin.specs.Listed.{list_in, trees_in}
use Rattle.vrl_builtin.specs.Rows.{ParameterRow, SettingTree}
use Rattle.vrl_builtin.specs.TagSets.{allows}
use Rattle.vrl_builtin.specs.declared.tags.Tags.{Tags as TagSet}
use Rattle.vrl_binding.specs.Binding.{binding, collection_parameters, collections, keywords_of}
use Rattle.vrl_binding.specs.declared.binding.BindFault.{BindFault}
use Rattle.vrl_binding.specs.declared.binding.BindFault.TheVariants as fault
use Rattle.vrl_store.specs.Outcomes.{ends}
use Rattle.vrl_store.specs.WellFormed.{AreWellFormedExprs, IsWellFormedStore}
use Rattle.vrl_judge.specs.Closures.{call_at, is_wrong_body, key_tags, of_body, of_wanted_closure}
use Rattle.vrl_judge.specs.Rules.{Argument, IsThen, Judgement, Loop, at, banged, gives, has_others, if_state, is_disjoint, is_fallible, is_known, scalars_at, when, with_codes}
use Rattle.vrl_check.specs.Judgement.{IsCutDown, body_of, bound, of_argument, of_arguments, of_closure_call, of_unknown, own_codes, run_through}
use Rattle.vrl_resolve.specs.Calls.{acts, bound_iteration, callee_of, closure_callee, iterated, iteration, made_of, nothing_called, or_others}
use Rattle.vrl_resolve.specs.Iteration.{Body, given_by, runs}
use Rattle.vrl_resolve.specs.Meaning.{eval_body}
use Rattle.vrl_compile.specs.Sound.{HasNoError, IsSoundEnd}
use Rattle.vrl_compile.specs.SoundLaws.{Laws}
use Rattle.vrl_compile.proofs.SoundArguments.{AreValuesOf, IsValueOf, arguments_counted}
use Rattle.vrl_compile.proofs.SoundBodies.{AreSoundRuns}
use Rattle.vrl_compile.proofs.SoundBound.{call_is_bound}
use Rattle.vrl_compile.proofs.SoundCallees.{banged_codes}
use Rattle.vrl_compile.proofs.SoundCalls.{may_fail, sound_call}
use Rattle.vrl_compile.proofs.SoundEnds.{EndsAs, IsSoundForm, ends_through, first_ends, left_joins, no_error_behind, no_error_parts, returns_alike, second_ends, sound_behind}
use Rattle.vrl_compile.proofs.SoundLists.{AreSoundArguments}
use Rattle.vrl_compile.proofs.SoundMet.{inhabits_cut, within_tags}
use Rattle.vrl_compile.proofs.SoundParts.{collection_given, made_is_sound}
use Rattle.vrl_compile.proofs.SoundRuns.{AreRun, runs_sound}
use Rattle.vrl_compile.proofs.SoundTags.{no_code}

-- ---- a call that has a code of its own

-- where none of them is an error there is none
abbrev AreErrors : List Diagnostic → Type 0
AreErrors ds = HasNoError ds → ds ≡ []

errors_behind : (first second : List Diagnostic) → AreErrors first → AreErrors second → AreErrors (first ++ second)
errors_behind first second one two none =
    let parts = no_error_parts first second none in
    λ i. one parts.0 i ++ two parts.1 i

error_when : (cause : Bool) (code : ℕ) (span : Span) → is_error (record { code = code; span = span }) ≡ true → AreErrors (when cause (at code span))
error_when cause code span wrong none = ap (λ b. when b (at code span)) (no_code cause span code wrong none)

one_error : (fails disjoint unwritten : Bool) (span : Span) → AreErrors (if fails then at 630 span else (if disjoint then at 110 span else when unwritten (at 1013 span)))
one_error true disjoint unwritten span none = absurd (true≢false none)
one_error false true unwritten span none = absurd (true≢false none)
one_error false false unwritten span none = error_when unwritten 1013 span refl none

argument_errors : (T : TagSet) (unwritten : Bool) (g : Argument) → AreErrors (of_argument T unwritten g)
argument_errors T unwritten g none = one_error (is_fallible g.judged) (is_known g.judged && is_disjoint T g.judged.kind) unwritten (span_of g.value) none

arguments_errors : (wants : ℕ → ParameterRow → Expr → Bool) (i : ℕ) (ps : List ParameterRow) (gs : List (Option Argument)) → AreErrors (of_arguments wants i ps gs)
arguments_errors wants i [] gs none = refl
arguments_errors wants i (p ∷ ps) [] none = refl
arguments_errors wants i (p ∷ ps) (None ∷ gs) none = arguments_errors wants (suc i) ps gs none
arguments_errors wants i (p ∷ ps) (Some g ∷ gs) none = errors_behind (of_argument p.allowed (wants i p g.value) g) (of_arguments wants (suc i) ps gs) (argument_errors p.allowed (wants i p g.value) g) (arguments_errors wants (suc i) ps gs) none

unknown_errors : (g : Option Argument) → AreErrors (of_unknown g)
unknown_errors None none = refl
unknown_errors (Some g) none = absurd (true≢false none)

own_errors : (wants : ℕ → ParameterRow → Expr → Bool) (ps : List ParameterRow) (span : Span) (closure_codes : List Diagnostic) (js : List Argument) (b : Result (List (Option ℕ)) BindFault) → AreErrors closure_codes → AreErrors (own_codes wants ps span closure_codes js b)
own_errors wants ps span closure_codes js (Ok places) are none = errors_behind (of_arguments wants 0 ps (bound places js)) closure_codes (arguments_errors wants 0 ps (bound places js)) are none
own_errors wants ps span closure_codes js (Err fault.Number) are none = absurd (true≢false none)
own_errors wants ps span closure_codes js (Err (fault.Unknown i)) are none = unknown_errors (slice_get js i) none
own_errors wants ps span closure_codes js (Err (fault.Missing i)) are none = absurd (true≢false none)
own_errors wants ps span closure_codes js (Err fault.Memory) are none = refl

wanted_errors : (f : CallForm) (span : Span) (c : Closure) → AreErrors (of_wanted_closure f span c)
wanted_errors f span no_closure none = absurd (true≢false none)
wanted_errors f span (closure names es t) none = error_when (not (has_shape f names)) 1010 span refl none

pub wrong_closure_call_is_sound : (setting : SettingTree) (known : RootMap) (span s : Span) (f : CallForm) (name : List ℕ) (bang : Bool) (gs : Args) (c : Closure) (js : List Argument) (first : Diagnostic) (others : List Diagnostic) (j : Judgement)
    → of_closure_call f span gs c js ≡ first ∷ others → IsSoundForm setting known (call name s bang gs c) (banged span bang (with_codes (first ∷ others) j))
wrong_closure_call_is_sound setting known span s f name bang gs c js first others j is none well rest store stored fits =
    let codes = no_error_parts j.codes (first ∷ others) (banged_codes span bang (with_codes (first ∷ others) j) none) in
    let empty = own_errors (λ i p e. false) (collection_parameters f) span (of_wanted_closure f span c) js (binding (collection_parameters f) (keywords_of gs)) (wanted_errors f span c) (ap (list_any is_error) is ∙ codes.1) in
    let wrong : first ∷ others ≡ [] = sym is ∙ empty in
    absurd cc

-- ---- what is called

closure_called : (f : CallForm) (name : List ℕ) (gs : Args) (names : List (List ℕ)) (es : Exprs) (t : Span) (places : List (Option ℕ)) → form_named name ≡ Some f → is_closure_form (Some f) ≡ true → has_shape f names ≡ true
    → binding (collection_parameters f) (keywords_of gs) ≡ Ok places → callee_of name gs (closure names es t) ≡ iteration f
closure_called f name gs names es t places named closed shape found =
    ap (λ o. closure_callee o names gs) named
    ∙ ap (λ b. if b then bound_iteration f (binding (collection_parameters f) (keywords_of gs)) else nothing_called) (and_from (is_closure_form (Some f)) (has_shape f names) closed shape)
    ∙ ap (bound_iteration f) found

-- ---- the call

call_ends : Laws → (f : CallForm) (t : Span) (k whole : Judgement) (K : KindTree) (others : Bool) (begin fail : Option RootMap) → IsJoined whole.fail (if_state others begin) fail → EndsAs whole (with_codes (of_body f t k) (record whole { kind = K; fail = fail }))
call_ends laws f t k whole K others begin fail joined = record { fail = left_joins laws whole.fail (if_state others begin) fail joined; returns = returns_alike whole (with_codes (of_body f t k) (record whole { kind = K; fail = fail })) refl refl }

same_trees : (rs : List Tree) → trees_in (items_of_trees rs) ≡ rs
same_trees [] = refl
same_trees (r ∷ rs) = ap (λ us. r ∷ us) (same_trees rs)

module _ (laws : Laws) (setting : SettingTree) (f : CallForm) (names : List (List ℕ)) (es : Exprs) (t : Span) (g : Argument) (C key value : KindTree) (begin : Option RootMap) (loop : Loop) (k before whole : Judgement) (K : KindTree) (fail : Option RootMap) (rest : List Tag)
    (closed : is_closure_form (Some f) ≡ true) (cut : IsCutDown (collections f) g.judged.kind C) (keys : IsCutOf (scalars_at (key_tags C)) key) (values : IsCutOf (parts_at C) value)
    (sound : AreSoundRuns setting (body_of f names es key value) begin loop.known k) (in_order : IsThen before (run_through loop k) whole) (is : IsCutOf (call_at f C k.kind) K) (joined : IsJoined whole.fail (if_state (has_others (collections f) g.judged.kind) begin) fail)
    (none : HasNoError k.codes) (right : is_wrong_body f k ≡ false) (well : AreWellFormedExprs (length setting.sources) es) where
  abbrev body : Body
  body = eval_body setting (k.empties ++ rest) (closure names es t)

  abbrev made : Judgement
  made = with_codes (of_body f t k) (record whole { kind = K; fail = fail })

  -- of a collection
  collection_is_sound : (v : Tree) (store : Store) → IsValueOf (length setting.sources) g v → allows (collections f) (tag_of v) ≡ true → IsWellFormedStore (length setting.sources) store → FitsKnown store begin → IsSoundEnd made (iterated f body v None store)
  collection_is_sound v store of_argument allowed stored fits =
      let of_kind : Inhabits v C = inhabits_cut (collections f) g.judged.kind C v cut of_argument.kind allowed in
      let through = run_through loop k in
      sound_behind (AreRun (given_by f v) [] k loop.known) through made (runs body (given_by f v) [] store) (λ w end. ends (made_of f v (list_in w)) end)
      (ends_through (second_ends laws before through whole in_order) (call_ends laws f t k whole K (has_others (collections f) g.judged.kind) begin fail joined))
      (runs_sound laws setting (body_of f names es key value) begin loop k sound none well rest t (given_by f v) [] store
      (collection_given laws (length setting.sources) f names es C key value v keys values of_kind of_argument.well) stored (sound.begins store fits))
      (λ w end ran.
      subst (λ rs. IsSoundEnd made (ends (made_of f v rs) end)) (sym (ap list_in ran.is ∙ same_trees ran.results))
      (made_is_sound laws (length setting.sources) C k made (sound.cause ∙ none) ran.results end (subst (FitsKnown end) (sym in_order.behind.ok) ran.ok) f v closed of_argument.well of_kind allowed right is ran.each))

  -- of a value with another tag it is an error
  other_is_sound : (v : Tree) (text : List ℕ) (tag : Tag) (store : Store) → Inhabits v g.judged.kind → allows (collections f) (tag_of v) ≡ false → FitsKnown store begin → IsSoundEnd made (iterated f body v (Some (text, tag)) store)
  other_is_sound v text tag store of_kind other fits = may_fail laws begin whole.fail fail (has_others (collections f) g.judged.kind) store joined fits (by (has_others (collections f) g.judged.kind) refl) where
    by : (b : Bool) → has_others (collections f) g.judged.kind ≡ b → has_others (collections f) g.judged.kind ≡ true
    by true has = has
    by false has = absurd (true≢false (sym (within_tags (collections f) g.judged.kind v has of_kind) ∙ other))

  abbrev unfit : Bool → Tag → Option (List ℕ × Tag)
  unfit b tag = or_others (codes "value") (if b then None else Some tag) None

  value_is_sound : (v : Tree) (store : Store) → IsValueOf (length setting.sources) g v → IsWellFormedStore (length setting.sources) store → FitsKnown store begin → IsSoundEnd made (iterated f body v (unfit (allows (collections f) (tag_of v)) (tag_of v)) store)
  value_is_sound v store of_argument stored fits = by (allows (collections f) (tag_of v)) refl where
    by : (b : Bool) → allows (collections f) (tag_of v) ≡ b → IsSoundEnd made (iterated f body v (unfit b (tag_of v)) store)
    by true allowed = collection_is_sound v store of_argument allowed stored fits
    by false other = other_is_sound v (codes "value") (tag_of v) store of_argument.kind other fits

  -- the one argument has one value
  pub values_are_sound : (vs : List Tree) (store : Store) → AreValuesOf (length setting.sources) (g ∷ []) vs → FitsKnown store begin → IsWellFormedStore (length setting.sources) store → IsSoundEnd made (acts setting (iteration f) body (items_of_trees vs) store)
  values_are_sound [] store are fits stored = absurd are
  values_are_sound (v ∷ []) store are fits stored = value_is_sound v store are.0 stored fits
  values_are_sound (v ∷ w ∷ vs) store are fits stored = absurd are.1

pub closure_call_is_sound : Laws → (setting : SettingTree) (known : RootMap) (span s : Span) (f : CallForm) (name : List ℕ) (bang : Bool) (gs : Args) (names : List (List ℕ)) (es : Exprs) (t : Span) (g : Argument) (j : Judgement) (C key value : KindTree) (loop : Loop) (k whole : Judgement) (K : KindTree) (fail : Option RootMap)
    → form_named name ≡ Some f → is_closure_form (Some f) ≡ true → AreSoundArguments setting (gives never_kind (Some known)) gs (g ∷ []) j → of_closure_call f span gs (closure names es t) (g ∷ []) ≡ []
    → IsCutDown (collections f) g.judged.kind C → IsCutOf (scalars_at (key_tags C)) key → IsCutOf (parts_at C) value → AreSoundRuns setting (body_of f names es key value) j.ok loop.known k → IsThen j (run_through loop k) whole
    → IsCutOf (call_at f C k.kind) K → IsJoined whole.fail (if_state (has_others (collections f) g.judged.kind) j.ok) fail
    → IsSoundForm setting known (call name s bang gs (closure names es t)) (banged span bang (with_codes (of_body f t k) (record whole { kind = K; fail = fail })))
closure_call_is_sound laws setting known span s f name bang gs names es t g j C key value loop k whole K fail named closed arguments no_codes cut keys values sound in_order is joined none well rest store stored fits =
    let c = closure names es t in
    let all = with_codes (of_body f t k) (record whole { kind = K; fail = fail }) in
    let own = no_error_parts whole.codes (of_body f t k) (banged_codes span bang all none) in
    let parts = no_error_behind j (run_through loop k) whole in_order.behind own.0 in
    let right : is_wrong_body f k ≡ false = no_code (is_wrong_body f k) t 1015 refl own.1 in
    let b = call_is_bound (λ i p e. false) (collection_parameters f) (keywords_of gs) span (of_wanted_closure f span c) (g ∷ []) (binding (collection_parameters f) (keywords_of gs)) refl (arguments_counted arguments) (ap (list_any is_error) no_codes) in
    let shape : has_shape f names ≡ true = not-false (has_shape f names) (no_code (not (has_shape f names)) span 1010 refl b.closure) in
    let ends_all = ends_through (first_ends laws j (run_through loop k) whole in_order) (call_ends laws f t k whole K (has_others (collections f) g.judged.kind) j.ok fail joined) in
    sound_call laws setting known span s name bang gs c (g ∷ []) j all k.empties rest arguments parts.0 well.0 ends_all in_order.behind.empties
    (λ vs end are there formed.
    subst (λ callee. IsSoundEnd all (acts setting callee (eval_body setting (k.empties ++ rest) c) (items_of_trees vs) end)) (sym (closure_called f name gs names es t b.places named closed shape b.found))
    (values_are_sound laws setting f names es t g C key value j.ok loop k j whole K fail rest closed cut keys values sound in_order is joined parts.1 right well.1 vs end are there formed))
    store stored fits
