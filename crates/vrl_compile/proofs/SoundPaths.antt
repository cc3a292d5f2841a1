-- `del` and `exists`, whose one argument is a path or a name: nothing is run before them but the read of it.
use Rattle.std.proofs.Common.{◌≡◌, ℕ, zero, suc, ◌≤◌, Bool, true, false, not, ◌&&◌, List, [], ◌∷◌, ◌++◌, length, Option, Some, None, IfSome, Ok, is_none, is_some, refl, sym, ap, ◌∙◌, subst, arith}
use Rattle.std.specs.List.{list_any}
use Rattle.std.proofs.lemmas.Bool.{false≢true, not-false, true≢false}
use Rattle.vrl_value.specs.Tree.{boolean, no_items, item}
use Rattle.vrl_value.specs.declared.value.Tag.{Tag}
use Rattle.vrl_value.specs.declared.value.Tag.TheVariants as tag
use Rattle.vrl_diag.specs.declared.diagnostic.Span.{Span}
use Rattle.vrl_syntax.specs.Calls.{is_exists, path_of, is_del}
use Rattle.vrl_syntax.specs.ErrorAssignments.{behind_args}
use Rattle.vrl_syntax.specs.Tree.{Expr, expr, read, Args, no_args, arg, Closure, no_closure, call}
use Rattle.vrl_kind.specs.Canonical.{never_kind}
use Rattle.vrl_kind.specs.KindTree.{KindTree}
use Rattle.vrl_kind.specs.Kinds.{Inhabits}
use Rattle.vrl_kind.specs.Tags.{only}
use Rattle.vrl_state.specs.States.{RootMap}
use Rattle.vrl_state.specs.Stores.{FitsKnown, Store}
use Rattle.vrl_builtin.specs.Rows.{SettingTree}
use Rattle.vrl_binding.specs.Binding.{binding, keywords_of, path_parameters}
use Rattle.vrl_store.specs.Outcomes.{Ended, on_value}
use Rattle.vrl_store.specs.Places.{is_there, read_in, removed}
use Rattle.vrl_store.specs.WellFormed.{AreWellFormedArgs, IsWellFormedStore}
use Rattle.vrl_diag.specs.Refusal.{is_error}
use Rattle.vrl_judge.specs.Rules.{Argument, IsScalar, IsThen, Judgement, argument_at, banged, gives}
use Rattle.vrl_check.specs.Determined.{HasCause}
use Rattle.vrl_check.specs.Judgement.{IsDeletedAt, behind_arguments, bound, deleted_kind, deleted_path, of_call, of_closure, wants_path}
use Rattle.vrl_resolve.specs.Calls.{acts, callee_of, items_in}
use Rattle.vrl_resolve.specs.Meaning.{eval, eval_args, eval_body}
use Rattle.vrl_compile.specs.Sound.{HasNoError, IsSoundEnd}
use Rattle.vrl_compile.proofs.SoundValues.{of_scalars}
use Rattle.vrl_compile.proofs.SoundArguments.{arguments_counted}
use Rattle.vrl_compile.proofs.SoundBound.{ArePresent, AreWritten, IsBoundCall, call_is_bound, closure_told}
use Rattle.vrl_compile.proofs.SoundCallees.{clean_call, deletion_called, existence_called, sound_banged}
use Rattle.vrl_compile.proofs.SoundCalls.{within_is_sound}
use Rattle.vrl_compile.proofs.SoundEnds.{IsSoundForm, IsSoundPart, no_error_behind, no_error_parts}
use Rattle.vrl_compile.specs.SoundLaws.{Laws}
use Rattle.vrl_compile.proofs.SoundLists.{AreSoundArguments, no_more_arguments, one_more_argument}
use Rattle.vrl_compile.proofs.SoundRemovals.{removal_fits}

-- ---- the one argument

-- an argument that stands at this place stands there alone
at_place : (js : List Argument) (q : Option ℕ) → (true && is_none (argument_at js q)) ≡ false → IfSome (argument_at js q) (λ g. not (is_some (path_of g.value)) ≡ false) → length js ≤ 1 → (g : Argument) × (js ≡ g ∷ []) × (is_some (path_of g.value) ≡ true)
at_place js None present written few = absurd (true≢false present)
at_place [] (Some i) present written few = absurd (true≢false present)
at_place (g ∷ []) (Some zero) present written few = (g, refl, not-false (is_some (path_of g.value)) written)
at_place (g ∷ []) (Some (suc i)) present written few = absurd (true≢false present)
at_place (g ∷ h ∷ js) (Some i) present written few = absurd (omega arith)

one_bound : (places : List (Option ℕ)) (js : List Argument) → length places ≡ 1 → length js ≤ 1 → ArePresent path_parameters (bound places js) → AreWritten wants_path 0 path_parameters (bound places js)
    → (g : Argument) × (js ≡ g ∷ []) × (is_some (path_of g.value) ≡ true)
one_bound [] js same few present written = absurd (omega arith)
one_bound (q ∷ places) js same few present written = at_place js q present.0 written.0 few

-- an argument that was judged alone, and is a path
record IsOnePath (setting : SettingTree) (before after : Judgement) (gs : Args) (js : List Argument) : Type 0 where
  name : Option (List ℕ)
  span : Span
  e : Expr
  k : Judgement
  gs_are : gs ≡ arg name span e no_args
  js_are : js ≡ record { span = span; value = e; judged = k } ∷ []
  path : is_some (path_of e) ≡ true
  sound : IsSoundPart setting before.ok e k
  then : IsThen before k after

one_path : {setting : SettingTree} {before after : Judgement} {gs : Args} {js : List Argument} → AreSoundArguments setting before gs js after → (g : Argument) → js ≡ g ∷ [] → is_some (path_of g.value) ≡ true → IsOnePath setting before after gs js
one_path no_more_arguments g is path = absurd cc
one_path (one_more_argument {j = j} {name = name} {span = span} {e = e} judges sound then no_more_arguments) g is path =
    let same : record { span = span; value = e; judged = j } ≡ g = cc in
    record { name = name; span = span; e = e; k = j; gs_are = refl; js_are = refl; path = ap (λ (x : Argument). is_some (path_of x.value)) same ∙ path; sound = sound; then = then }
one_path (one_more_argument judges sound then (one_more_argument more_judges more_sound more_then more)) g is path = absurd cc

-- where no error code stands on the call, it has such an argument, which is bound
record IsPathCall (setting : SettingTree) (known : RootMap) (gs : Args) (c : Closure) (js : List Argument) (j : Judgement) : Type 0 where
  one : IsOnePath setting (gives never_kind (Some known)) j gs js
  places : List (Option ℕ)
  found : binding path_parameters (one.name ∷ []) ≡ Ok places
  lacks_closure : c ≡ no_closure
  -- what was judged of the argument holds of it
  ok : j.ok ≡ one.k.ok
  holds : AreWellFormedArgs (length setting.sources) gs → (store : Store) → IsWellFormedStore (length setting.sources) store → FitsKnown store (Some known) → IsSoundEnd one.k (eval setting (one.k.empties ++ []) one.e store)

bound_path_call : (setting : SettingTree) (known : RootMap) (span : Span) (gs : Args) (c : Closure) (js : List Argument) (j : Judgement) → HasNoError j.codes → IsBoundCall wants_path path_parameters (keywords_of gs) (of_closure span c) js → IsOnePath setting (gives never_kind (Some known)) j gs js
    → IsPathCall setting known gs c js j
bound_path_call setting known span gs c js j none b one = record {
  one = one;
  places = b.places;
  found = sym (ap (λ hs. binding path_parameters (keywords_of hs)) one.gs_are) ∙ b.found;
  lacks_closure = closure_told span c b.closure;
  ok = one.then.behind.ok;
  holds = λ well store stored fits. one.sound (no_error_behind (gives never_kind (Some known)) one.k j one.then.behind none).1 (subst (AreWellFormedArgs (length setting.sources)) one.gs_are well).0 [] store stored fits;
}

path_call : (setting : SettingTree) (known : RootMap) (span : Span) (gs : Args) (c : Closure) (tags : List Tag) (js : List Argument) (j : Judgement) → AreSoundArguments setting (gives never_kind (Some known)) gs js j
    → HasNoError (behind_arguments wants_path path_parameters span gs c tags js j).codes → IsPathCall setting known gs c js j
path_call setting known span gs c tags js j arguments none =
    let codes = no_error_parts j.codes (of_call wants_path path_parameters span c js (binding path_parameters (keywords_of gs))) none in
    let b = call_is_bound wants_path path_parameters (keywords_of gs) span (of_closure span c) js (binding path_parameters (keywords_of gs)) refl (arguments_counted arguments) codes.1 in
    let the_one = one_bound b.places js b.counted b.few b.present b.written in
    bound_path_call setting known span gs c js j codes.0 b (one_path arguments the_one.0 the_one.1 the_one.2)

-- the call of such an argument, as it is run
abbrev run_call : SettingTree → List Tag → List ℕ → Args → Closure → Store → Ended
run_call setting tags name gs c store = on_value (eval_args setting tags gs [] store) (λ w end. acts setting (callee_of name gs c) (eval_body setting (behind_args gs tags) c) (items_in w) end)

as_path_call : (setting : SettingTree) (known : RootMap) (tags : List Tag) (name : List ℕ) (gs : Args) (c : Closure) (js : List Argument) (j whole : Judgement) (store : Store) (is : IsPathCall setting known gs c js j)
    → IsSoundEnd whole (run_call setting tags name (arg is.one.name is.one.span is.one.e no_args) no_closure store) → IsSoundEnd whole (run_call setting tags name gs c store)
as_path_call setting known tags name gs c js j whole store is sound =
    subst (λ d. IsSoundEnd whole (run_call setting tags name gs d store)) (sym is.lacks_closure)
    (subst (λ hs. IsSoundEnd whole (run_call setting tags name hs no_closure store)) (sym is.one.gs_are) sound)

-- ---- `del`

deletion_ends : Laws → (setting : SettingTree) (tags others : List Tag) (name : List ℕ) (keyword : Option (List ℕ)) (span : Span) (e : Expr) (k whole : Judgement) (places : List (Option ℕ)) (store : Store) → is_some (path_of e) ≡ true → is_del name ≡ true
    → binding path_parameters (keyword ∷ []) ≡ Ok places → IsSoundEnd k (eval setting others e store) → whole.kind ≡ k.kind → IsDeletedAt (path_of e) k.ok whole.ok → IsSoundEnd whole (run_call setting tags name (arg keyword span e no_args) no_closure store)
deletion_ends laws setting tags others name keyword span (expr place (read root path)) k whole places store written named found holds kind deleted =
    subst (λ callee. IsSoundEnd whole (acts setting callee (eval_body setting (behind_args (arg keyword span (expr place (read root path)) no_args) tags) no_closure) (item (read_in root path store) no_items) store)) (sym (deletion_called name keyword span place root path places named found))
    (within_is_sound whole (read_in root path store) (removed root path store) (subst (Inhabits (read_in root path store)) (sym kind) holds.0, removal_fits laws root path k.ok whole.ok store deleted holds.1))
deletion_ends laws setting tags others name keyword span (expr place f) k whole places store written named found holds kind deleted = absurd (false≢true written)

path_deleted : Laws → (setting : SettingTree) (known : RootMap) (tags : List Tag) (name : List ℕ) (gs : Args) (c : Closure) (js : List Argument) (j whole : Judgement) (ok : Option RootMap) → IsPathCall setting known gs c js j → is_del name ≡ true
    → whole.poisoned ≡ false → whole.ok ≡ j.ok → IsDeletedAt (deleted_path whole.poisoned js) whole.ok ok
    → AreWellFormedArgs (length setting.sources) gs → (store : Store) → IsWellFormedStore (length setting.sources) store → FitsKnown store (Some known)
    → IsSoundEnd (record whole { kind = deleted_kind whole.poisoned js; ok = ok }) (run_call setting tags name gs c store)
path_deleted laws setting known tags name gs c js j whole ok path named clean known_there deleted well store stored fits =
    let one = path.one in
    let all = record whole { kind = deleted_kind whole.poisoned js; ok = ok } in
    let same_path : deleted_path whole.poisoned js ≡ path_of one.e = ap (λ b. deleted_path b js) clean ∙ ap (deleted_path false) one.js_are in
    let same_kind : deleted_kind whole.poisoned js ≡ one.k.kind = ap (λ b. deleted_kind b js) clean ∙ ap (deleted_kind false) one.js_are in
    as_path_call setting known tags name gs c js j all store path
    (deletion_ends laws setting tags (one.k.empties ++ []) name one.name one.span one.e one.k all path.places store one.path named path.found (path.holds well store stored fits) same_kind
    (subst (λ before. IsDeletedAt (path_of one.e) before ok) (known_there ∙ path.ok) (subst (λ p. IsDeletedAt p whole.ok ok) same_path deleted)))

pub deletion_is_sound : Laws → (setting : SettingTree) (known : RootMap) (span s : Span) (name : List ℕ) (bang : Bool) (gs : Args) (c : Closure) (passed : List Tag) (js : List Argument) (j whole : Judgement) (ok : Option RootMap) → is_del name ≡ true
    → AreSoundArguments setting (gives never_kind (Some known)) gs js j → whole ≡ behind_arguments wants_path path_parameters span gs c passed js j → IsDeletedAt (deleted_path whole.poisoned js) whole.ok ok
    → HasCause (banged span bang (record whole { kind = deleted_kind whole.poisoned js; ok = ok })) → IsSoundForm setting known (call name s bang gs c) (banged span bang (record whole { kind = deleted_kind whole.poisoned js; ok = ok }))
deletion_is_sound laws setting known span s name bang gs c passed js j whole ok named arguments is deleted cause none well rest store stored fits =
    let all = record whole { kind = deleted_kind whole.poisoned js; ok = ok } in
    let clean = clean_call span bang all none (cause ∙ none) in
    let path = path_call setting known span gs c passed js j arguments (ap (λ w. list_any is_error w.codes) (sym is) ∙ clean.codes) in
    let tags = (banged span bang all).empties ++ rest in
    sound_banged span bang all (run_call setting tags name gs c store) (path_deleted laws setting known tags name gs c js j whole ok path named clean.sound (ap (λ w. w.ok) is) deleted well.0 store stored fits)

-- ---- `exists`

existence_ends : Laws → (setting : SettingTree) (tags others : List Tag) (name : List ℕ) (keyword : Option (List ℕ)) (span : Span) (e : Expr) (k whole : Judgement) (places : List (Option ℕ)) (store : Store) → is_some (path_of e) ≡ true → is_exists name ≡ true
    → binding path_parameters (keyword ∷ []) ≡ Ok places → IsSoundEnd k (eval setting others e store) → IsScalar tag.Bool whole.kind → whole.ok ≡ k.ok → IsSoundEnd whole (run_call setting tags name (arg keyword span e no_args) no_closure store)
existence_ends laws setting tags others name keyword span (expr place (read root path)) k whole places store written named found holds scalar ok =
    subst (λ callee. IsSoundEnd whole (acts setting callee (eval_body setting (behind_args (arg keyword span (expr place (read root path)) no_args) tags) no_closure) (item (read_in root path store) no_items) store)) (sym (existence_called name keyword span place root path places named found))
    (of_scalars laws.cuts (boolean (is_there root path store)) (only tag.Bool) whole.kind scalar (λ s. refl) refl, subst (FitsKnown store) (sym ok) holds.1)
existence_ends laws setting tags others name keyword span (expr place f) k whole places store written named found holds scalar ok = absurd (false≢true written)

pub existence_is_sound : Laws → (setting : SettingTree) (known : RootMap) (span s : Span) (name : List ℕ) (bang : Bool) (gs : Args) (c : Closure) (passed : List Tag) (js : List Argument) (j whole : Judgement) (K : KindTree) → is_exists name ≡ true
    → AreSoundArguments setting (gives never_kind (Some known)) gs js j → whole ≡ behind_arguments wants_path path_parameters span gs c passed js j → IsScalar tag.Bool K
    → HasCause (banged span bang (record whole { kind = K })) → IsSoundForm setting known (call name s bang gs c) (banged span bang (record whole { kind = K }))
existence_is_sound laws setting known span s name bang gs c passed js j whole K named arguments is scalar cause none well rest store stored fits =
    let all = record whole { kind = K } in
    let clean = clean_call span bang all none (cause ∙ none) in
    let path = path_call setting known span gs c passed js j arguments (ap (λ w. list_any is_error w.codes) (sym is) ∙ clean.codes) in
    let one = path.one in
    let tags = (banged span bang all).empties ++ rest in
    sound_banged span bang all (run_call setting tags name gs c store)
    (as_path_call setting known tags name gs c js j all store path
    (existence_ends laws setting tags (one.k.empties ++ []) name one.name one.span one.e one.k all path.places store one.path named path.found (path.holds well.0 store stored fits) scalar (ap (λ w. w.ok) is ∙ path.ok)))
