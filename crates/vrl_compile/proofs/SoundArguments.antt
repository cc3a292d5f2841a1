-- The arguments of a call, run in the order in which they are written: each is of the kind that was judged, and equals the literal that is
-- written.
use Rattle.std.proofs.Common.{◌≡◌, ℕ, suc, ◌+◌, List, [], ◌∷◌, ◌++◌, append_assoc, append-nil, Option, Some, None, IfSome, drop, length, map, refl, sym, ap, ◌∙◌, subst}
use Rattle.std.specs.Bool.{⊤}
use Rattle.std.proofs.Math.Seq.{drop-append_seam}
use Rattle.std.proofs.lemmas.List.{length-append}
use Rattle.vrl_value.specs.Tree.{Tree, array as items}
use Rattle.vrl_value.specs.View.{items_of_trees}
use Rattle.vrl_value.specs.declared.value.Tag.{Tag}
use Rattle.vrl_syntax.specs.Calls.{literal_of}
use Rattle.vrl_syntax.specs.ErrorAssignments.{behind, behind_args, in_args, in_expr}
use Rattle.vrl_syntax.specs.Tree.{Expr, expr, literal, Args, arg}
use Rattle.vrl_kind.specs.Kinds.{Inhabits}
use Rattle.vrl_state.specs.Stores.{FitsKnown, Store}
use Rattle.vrl_builtin.specs.Rows.{SettingTree}
use Rattle.vrl_binding.specs.Binding.{keywords_of}
use Rattle.vrl_store.specs.Outcomes.{Outcome, value, error, returned, ends}
use Rattle.vrl_store.specs.WellFormed.{AreWellFormedArgs, IsWellFormed, IsWellFormedOutcome, IsWellFormedStore}
use Rattle.vrl_judge.specs.Rules.{Argument, Judgement}
use Rattle.vrl_resolve.specs.Calls.{values_of}
use Rattle.vrl_resolve.specs.Meaning.{eval, eval_args}
use Rattle.vrl_compile.specs.Sound.{HasNoError, IsSoundOutcome}
use Rattle.vrl_compile.proofs.SoundCounts.{behind_is}
use Rattle.vrl_compile.proofs.SoundEnds.{IsSoundAs, as_on_value, as_run, as_weaker, ends_through, no_error_behind, second_ends}
use Rattle.vrl_compile.specs.SoundLaws.{Laws}
use Rattle.vrl_compile.proofs.SoundLists.{AreSoundArguments, no_more_arguments as no_more_sound, one_more_argument as one_more_sound, arguments_clean, arguments_end}

-- ---- what was judged of them

-- the tags of the empty values in them
abbrev pub own_empties : List Argument → List Tag
own_empties [] = []
own_empties (g ∷ js) = g.judged.empties ++ own_empties js

pub arguments_empties : {setting : SettingTree} {before after : Judgement} {gs : Args} {js : List Argument} → AreSoundArguments setting before gs js after → after.empties ≡ before.empties ++ own_empties js
arguments_empties (no_more_sound {before = before}) = sym (append-nil before.empties)
arguments_empties (one_more_sound {before = before} {j = j} {js = js} told sound then more) =
    arguments_empties more ∙ ap (λ ts. ts ++ own_empties js) then.behind.empties ∙ append_assoc before.empties j.empties (own_empties js)

arguments_told : {setting : SettingTree} {before after : Judgement} {gs : Args} {js : List Argument} → AreSoundArguments setting before gs js after → length (own_empties js) ≡ in_args gs
arguments_told no_more_sound = refl
arguments_told (one_more_sound {j = j} {e = e} {gs = gs} {js = js} told sound then more) =
    let sum : length j.empties + length (own_empties js) ≡ in_expr e + in_args gs = λ i. told.counted i + arguments_told more i in
    length-append j.empties (own_empties js) ∙ sum

-- the tags that are left behind them are those behind their own
pub arguments_behind : {setting : SettingTree} {before after : Judgement} {gs : Args} {js : List Argument} → AreSoundArguments setting before gs js after → (rest : List Tag) → behind_args gs (own_empties js ++ rest) ≡ rest
arguments_behind {js = js} arguments rest = ap (λ n. drop n (own_empties js ++ rest)) (sym (arguments_told arguments)) ∙ drop-append_seam (own_empties js) rest

-- they are those that are written
pub arguments_written : {setting : SettingTree} {before after : Judgement} {gs : Args} {js : List Argument} → AreSoundArguments setting before gs js after → values_of gs ≡ map (λ g. g.value) js
arguments_written no_more_sound = refl
arguments_written (one_more_sound {e = e} told sound then more) = ap (λ es. e ∷ es) (arguments_written more)

pub arguments_counted : {setting : SettingTree} {before after : Judgement} {gs : Args} {js : List Argument} → AreSoundArguments setting before gs js after → length (keywords_of gs) ≡ length js
arguments_counted no_more_sound = refl
arguments_counted (one_more_sound told sound then more) = ap suc (arguments_counted more)

-- ---- their values

-- of the kind that was judged, equal to the literal that is written, and well formed
pub record IsValueOf (count : ℕ) (g : Argument) (v : Tree) : Type 0 where
  pub kind : Inhabits v g.judged.kind
  pub literal : IfSome (literal_of g.value) (λ w. v ≡ w)
  pub well : IsWellFormed count v

abbrev pub AreValuesOf : ℕ → List Argument → List Tree → Type 0
AreValuesOf count [] [] = ⊤
AreValuesOf count (g ∷ js) (v ∷ vs) = IsValueOf count g v × AreValuesOf count js vs
AreValuesOf count js vs = ⊥

-- a value of one argument, in the store that it left
record IsGivenFor (count : ℕ) (g : Argument) (v : Tree) (after : Store) : Type 0 where
  value_of : IsValueOf count g v
  ok : FitsKnown after g.judged.ok
  stored : IsWellFormedStore count after

-- the array of these values and of values of the arguments, in the store that they left
pub record AreAllValues (count : ℕ) (before : List Tree) (js : List Argument) (j : Judgement) (w : Tree) (after : Store) : Type 0 where
  pub values : List Tree
  pub all : w ≡ items (items_of_trees (before ++ values))
  pub each : AreValuesOf count js values
  pub ok : FitsKnown after j.ok
  pub stored : IsWellFormedStore count after

-- a literal is its value
literal_is_value : (setting : SettingTree) (tags : List Tag) (e : Expr) (store : Store) → IfSome (literal_of e) (λ w. (eval setting tags e store).outcome ≡ value w)
literal_is_value setting tags (expr span (literal v)) store = refl
literal_is_value setting tags (expr span f) store = tt

same_value : (v : Tree) (l : Option Tree) → IfSome l (λ w. value v ≡ value w) → IfSome l (λ w. v ≡ w)
same_value v None is = tt
same_value v (Some w) is = cc

argument_given : (count : ℕ) (g : Argument) (outcome : Outcome) (store : Store) → IsSoundOutcome g.judged outcome store → IsWellFormedOutcome count outcome → IsWellFormedStore count store → IfSome (literal_of g.value) (λ w. outcome ≡ value w)
    → IsSoundAs (IsGivenFor count g) g.judged (ends outcome store)
argument_given count g (value v) store sound well stored is = record { value_of = record { kind = sound.0; literal = same_value v (literal_of g.value) is; well = well }; ok = sound.1; stored = stored }
argument_given count g (error text) store sound well stored is = sound
argument_given count g (returned v) store sound well stored is = sound
argument_given count g other store sound well stored is = tt

one_more_value : (count : ℕ) (before : List Tree) (g : Argument) (js : List Argument) (j : Judgement) (v w : Tree) (after : Store) → IsValueOf count g v → AreAllValues count (before ++ v ∷ []) js j w after → AreAllValues count before (g ∷ js) j w after
one_more_value count before g js j v w after is more = record {
  values = v ∷ more.values;
  all = more.all ∙ ap (λ vs. items (items_of_trees vs)) (append_assoc before (v ∷ []) more.values);
  each = (is, more.each);
  ok = more.ok;
  stored = more.stored;
}

-- ---- all of them

-- run behind others, with any tags behind their own
pub argument_values : Laws → (setting : SettingTree) {before after : Judgement} {gs : Args} {js : List Argument} → AreSoundArguments setting before gs js after → HasNoError after.codes → AreWellFormedArgs (length setting.sources) gs
    → (rest : List Tag) (run : List Tree) (store : Store) → IsWellFormedStore (length setting.sources) store → FitsKnown store before.ok
    → IsSoundAs (AreAllValues (length setting.sources) run js after) after (eval_args setting (own_empties js ++ rest) gs run store)
argument_values laws setting (no_more_sound {before = before}) none well rest run store stored fits = record { values = []; all = ap (λ vs. items (items_of_trees vs)) (sym (append-nil run)); each = tt; ok = fits; stored = stored }
argument_values laws setting (one_more_sound {before = before} {j = j} {middle = middle} {after = after} {name = name} {span = span} {e = e} {gs = gs} {js = js} told sound then more) none well rest run store stored fits =
    let count = length setting.sources in
    let g : Argument = record { span = span; value = e; judged = j } in
    let own = own_empties js ++ rest in
    let part = as_run laws setting before.ok e j own well.0 (sound (no_error_behind before j middle then.behind (arguments_clean more none)).1 well.0) in
    let given = eval setting (j.empties ++ own) e store in
    let kept = part.kept store stored in
    let Q = AreAllValues count run (g ∷ js) after in
    subst (λ tags. IsSoundAs Q after (eval_args setting tags (arg name span e gs) run store)) (sym (append_assoc j.empties (own_empties js) rest))
    (as_on_value (IsGivenFor count g) Q j after given (λ v end. eval_args setting (behind e (j.empties ++ own)) gs (run ++ v ∷ []) end) (ends_through (second_ends laws before j middle then) (arguments_end laws more))
    (argument_given count g given.outcome given.store (part.sound store stored fits) kept.0 kept.1 (literal_is_value setting (j.empties ++ own) e store))
    (λ v end is.
    subst (λ tags. IsSoundAs Q after (eval_args setting tags gs (run ++ v ∷ []) end)) (sym (behind_is told own))
    (as_weaker (AreAllValues count (run ++ v ∷ []) js after) Q after (eval_args setting own gs (run ++ v ∷ []) end) (λ w last are. one_more_value count run g js after v w last is.value_of are)
    (argument_values laws setting more none well.1 rest (run ++ v ∷ []) end is.stored (subst (FitsKnown end) (sym then.behind.ok) is.ok)))))
