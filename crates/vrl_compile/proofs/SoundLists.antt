-- Expressions in order, as items of an array or a block and as arguments: each is judged and run behind those before it.
use Rattle.std.proofs.Common.{◌≡◌, ℕ, length, List, [], ◌∷◌, ◌++◌, append_assoc, append-nil, Option, sym, ap, ◌∙◌, subst}
use Rattle.std.proofs.lemmas.List.{append_cancel_left}
use Rattle.vrl_value.specs.Tree.{Tree, array as items}
use Rattle.vrl_value.specs.View.{items_of_trees}
use Rattle.vrl_value.specs.declared.value.Tag.{Tag}
use Rattle.vrl_diag.specs.declared.diagnostic.Span.{Span}
use Rattle.vrl_syntax.specs.ErrorAssignments.{behind, in_expr}
use Rattle.vrl_syntax.specs.Tree.{Expr, Exprs, no_exprs, exprs, Args, no_args, arg}
use Rattle.vrl_kind.specs.KindTree.{KindTree}
use Rattle.vrl_kind.specs.Kinds.{Inhabits}
use Rattle.vrl_state.specs.Stores.{AreOfKinds, FitsKnown, Store}
use Rattle.vrl_builtin.specs.Rows.{SettingTree}
use Rattle.vrl_store.specs.Outcomes.{on_value, Ended}
use Rattle.vrl_store.specs.WellFormed.{AreWellFormed, AreWellFormedExprs, IsWellFormed, IsWellFormedExpr, IsWellFormedStore}
use Rattle.vrl_judge.specs.Rules.{Argument, Judgement, IsThen}
use Rattle.vrl_resolve.specs.Meaning.{eval, eval_all, eval_items}
use Rattle.vrl_compile.specs.Sound.{HasNoError}
use Rattle.vrl_compile.proofs.SoundCounts.{IsToldOf, behind_counted}
use Rattle.vrl_compile.proofs.SoundEnds.{as_on_value, as_run, ends_itself, ends_through, first_ends, no_error_behind, second_ends, sound_given, as_weaker, EndsAs, IsGiven, IsRun, IsSoundAs, IsSoundPart, IsValueOf}
use Rattle.vrl_compile.specs.SoundLaws.{Laws}

-- ---- judged in order, with what is shown of each

-- each has a tag for each error assignment in it, and is sound
pub data AreSound (setting : SettingTree) : Judgement → Exprs → List KindTree → Judgement → Type 0 where
  no_more_sound : {before : Judgement} → AreSound setting before no_exprs [] before
  one_more_sound : {before j middle after : Judgement} {e : Expr} {es : Exprs} {Ks : List KindTree}
      → length j.empties ≡ in_expr e → IsSoundPart setting before.ok e j → IsThen before j middle → AreSound setting middle es Ks after
      → AreSound setting before (exprs e es) (j.kind ∷ Ks) after

pub data AreSoundArguments (setting : SettingTree) : Judgement → Args → List Argument → Judgement → Type 0 where
  no_more_arguments : {before : Judgement} → AreSoundArguments setting before no_args [] before
  one_more_argument : {before j middle after : Judgement} {name : Option (List ℕ)} {span : Span} {e : Expr} {gs : Args} {js : List Argument}
      → IsToldOf e j → IsSoundPart setting before.ok e j → IsThen before j middle → AreSoundArguments setting middle gs js after
      → AreSoundArguments setting before (arg name span e gs) (record { span = span; value = e; judged = j } ∷ js) after

-- ---- the tags of those that are left

-- what was judged before them has these tags, so these are left of all
abbrev pub AreTagsOf : Judgement → Judgement → List Tag → List Tag → Type 0
AreTagsOf before after rest tags = before.empties ++ tags ≡ after.empties ++ rest

-- what is judged later has the tags of what is judged before in front
abbrev pub BeginsWith : Judgement → Judgement → Type 0
BeginsWith before after = (more : List Tag) × (after.empties ≡ before.empties ++ more)

begins_itself : (j : Judgement) → BeginsWith j j
begins_itself j = ([], sym (append-nil j.empties))

pub begins_through : (before j middle after : Judgement) → middle.empties ≡ before.empties ++ j.empties → BeginsWith middle after → BeginsWith before after
begins_through before j middle after is begins = (j.empties ++ begins.0, begins.1 ∙ ap (λ tags. tags ++ begins.0) is ∙ append_assoc before.empties j.empties begins.0)

-- the tags that a part is run with begin with its own, and those behind them are the tags of what follows
pub tags_of_part : (before j middle after : Judgement) (rest tags : List Tag) → middle.empties ≡ before.empties ++ j.empties → BeginsWith middle after → AreTagsOf before after rest tags
    → (others : List Tag) × (tags ≡ j.empties ++ others) × AreTagsOf middle after rest others
tags_of_part before j middle after rest tags is begins are = (
  begins.0 ++ rest,
  append_cancel_left before.empties tags (j.empties ++ (begins.0 ++ rest)) (are ∙ sym whole ∙ ap (λ all. all ++ (begins.0 ++ rest)) is ∙ append_assoc before.empties j.empties (begins.0 ++ rest)),
  whole,
) where
  whole : middle.empties ++ (begins.0 ++ rest) ≡ after.empties ++ rest
  whole = sym (append_assoc middle.empties begins.0 rest) ∙ ap (λ all. all ++ rest) (sym begins.1)

-- ---- expressions

pub all_begin : {setting : SettingTree} {before after : Judgement} {es : Exprs} {Ks : List KindTree} → AreSound setting before es Ks after → BeginsWith before after
all_begin (no_more_sound {before = before}) = begins_itself before
all_begin (one_more_sound {before = before} {j = j} {middle = middle} {after = after} counted sound then more) = begins_through before j middle after then.behind.empties (all_begin more)

-- where what was judged before them ends, the whole may end
pub all_end : Laws → {setting : SettingTree} {before after : Judgement} {es : Exprs} {Ks : List KindTree} → AreSound setting before es Ks after → EndsAs before after
all_end laws no_more_sound = ends_itself
all_end laws (one_more_sound {before = before} {j = j} {middle = middle} counted sound then more) = ends_through (first_ends laws before j middle then) (all_end laws more)

pub all_clean : {setting : SettingTree} {before after : Judgement} {es : Exprs} {Ks : List KindTree} → AreSound setting before es Ks after → HasNoError after.codes → HasNoError before.codes
all_clean no_more_sound none = none
all_clean (one_more_sound {before = before} {j = j} {middle = middle} counted sound then more) none = (no_error_behind before j middle then.behind (all_clean more none)).0

-- ---- one behind another

-- The first of them and what follows it: where each value that it may give, with the tags that are left, is followed by an end of all, they end
-- as they were judged.
pub next_sound : Laws → (setting : SettingTree) (Q : Tree → Store → Type 0) (before j middle after : Judgement) (e : Expr) (rest tags : List Tag) (store : Store) (next : List Tag → Tree → Store → Ended)
    → length j.empties ≡ in_expr e → IsSoundPart setting before.ok e j → IsThen before j middle → BeginsWith middle after → EndsAs middle after → HasNoError middle.codes → IsWellFormedExpr (length setting.sources) e
    → AreTagsOf before after rest tags → IsWellFormedStore (length setting.sources) store → FitsKnown store before.ok
    → ((others : List Tag) → AreTagsOf middle after rest others → (v : Tree) (end : Store) → IsGiven (length setting.sources) j v end → FitsKnown end middle.ok → IsSoundAs Q after (next others v end))
    → IsSoundAs Q after (on_value (eval setting tags e store) (λ v end. next (behind e tags) v end))
next_sound laws setting Q before j middle after e rest tags store next counted sound then begins as_all none well are stored fits more =
    subst (λ ts. IsSoundAs Q after (on_value (eval setting ts e store) (λ v end. next (behind e ts) v end))) (sym mine.1)
    (as_on_value (IsGiven (length setting.sources) j) Q j after given _ (ends_through (second_ends laws before j middle then) as_all) (sound_given (length setting.sources) j given (run.sound store stored fits) (run.kept store stored))
    (λ v end is.
    subst (λ ts. IsSoundAs Q after (next ts v end)) (sym (behind_counted e j.empties mine.0 counted)) (more mine.0 mine.2 v end is (subst (FitsKnown end) (sym then.behind.ok) is.ok)))) where
      mine : (others : List Tag) × (tags ≡ j.empties ++ others) × AreTagsOf middle after rest others
      mine = tags_of_part before j middle after rest tags then.behind.empties begins are

      run : IsRun (length setting.sources) before.ok j (eval setting (j.empties ++ mine.0) e)
      run = as_run laws setting before.ok e j mine.0 well (sound (no_error_behind before j middle then.behind none).1 well)

      given : Ended
      given = eval setting (j.empties ++ mine.0) e store

-- ---- values in order

-- the array of these values and of values of these kinds, and the store that they left
pub record AreValues (count : ℕ) (before : List Tree) (Ks : List KindTree) (j : Judgement) (v : Tree) (after : Store) : Type 0 where
  pub values : List Tree
  pub is : v ≡ items (items_of_trees (before ++ values))
  pub kinds : AreOfKinds values Ks
  pub well : AreWellFormed count values
  pub ok : FitsKnown after j.ok
  pub stored : IsWellFormedStore count after

no_value_more : (count : ℕ) (vs : List Tree) (j : Judgement) (store : Store) → FitsKnown store j.ok → IsWellFormedStore count store → AreValues count vs [] j (items (items_of_trees vs)) store
no_value_more count vs j store fits stored = record { values = []; is = ap (λ us. items (items_of_trees us)) (sym (append-nil vs)); kinds = tt; well = tt; ok = fits; stored = stored }

-- one value more in front
one_value_more : (count : ℕ) (before : List Tree) (K : KindTree) (Ks : List KindTree) (j : Judgement) (u v : Tree) (after : Store) → Inhabits u K → IsWellFormed count u → AreValues count (before ++ u ∷ []) Ks j v after → AreValues count before (K ∷ Ks) j v after
one_value_more count before K Ks j u v after of_kind well are = record {
  values = u ∷ are.values;
  is = are.is ∙ ap (λ vs. items (items_of_trees vs)) (append_assoc before (u ∷ []) are.values);
  kinds = (of_kind, are.kinds);
  well = (well, are.well);
  ok = are.ok;
  stored = are.stored;
}

-- expressions give values of their kinds
pub all_sound : Laws → (setting : SettingTree) {before after : Judgement} {es : Exprs} {Ks : List KindTree} → AreSound setting before es Ks after → HasNoError after.codes → AreWellFormedExprs (length setting.sources) es
    → (rest tags : List Tag) → AreTagsOf before after rest tags → (vs : List Tree) (store : Store) → IsWellFormedStore (length setting.sources) store → FitsKnown store before.ok
    → IsSoundAs (AreValues (length setting.sources) vs Ks after) after (eval_all setting tags es vs store)
all_sound laws setting (no_more_sound {before = before}) none well rest tags are vs store stored fits = no_value_more (length setting.sources) vs before store fits stored
all_sound laws setting (one_more_sound {before = before} {j = j} {middle = middle} {after = after} {e = e} {es = es} {Ks = Ks} counted sound then more) none well rest tags are vs store stored fits =
    next_sound laws setting (AreValues (length setting.sources) vs (j.kind ∷ Ks) after) before j middle after e rest tags store (λ ts v end. eval_all setting ts es (vs ++ v ∷ []) end)
    counted sound then (all_begin more) (all_end laws more) (all_clean more none) well.0 are stored fits
    (λ others left v end is fit.
    as_weaker _ _ after (eval_all setting others es (vs ++ v ∷ []) end) (λ u store are_values. one_value_more (length setting.sources) vs j.kind Ks after v u store is.kind is.well are_values)
    (all_sound laws setting more none well.1 rest others left (vs ++ v ∷ []) end is.stored fit))

-- items give the value of the last, or the one that stood before them: it is of the kind that was judged behind them
pub items_sound : Laws → (setting : SettingTree) {before after : Judgement} {es : Exprs} {Ks : List KindTree} → AreSound setting before es Ks after → HasNoError after.codes → AreWellFormedExprs (length setting.sources) es
    → (rest tags : List Tag) → AreTagsOf before after rest tags → (last : Tree) (store : Store) → IsWellFormedStore (length setting.sources) store → FitsKnown store before.ok → Inhabits last before.kind
    → IsSoundAs (IsValueOf after) after (eval_items setting tags last es store)
items_sound laws setting no_more_sound none well rest tags are last store stored fits of_kind = (of_kind, fits)
items_sound laws setting (one_more_sound {before = before} {j = j} {middle = middle} {after = after} {e = e} {es = es} counted sound then more) none well rest tags are last store stored fits of_kind =
    next_sound laws setting (IsValueOf after) before j middle after e rest tags store (λ ts v end. eval_items setting ts v es end)
    counted sound then (all_begin more) (all_end laws more) (all_clean more none) well.0 are stored fits
    (λ others left v end is fit. items_sound laws setting more none well.1 rest others left v end is.stored fit (subst (Inhabits v) (sym then.behind.kind) is.kind))

-- ---- arguments

pub arguments_end : Laws → {setting : SettingTree} {before after : Judgement} {gs : Args} {js : List Argument} → AreSoundArguments setting before gs js after → EndsAs before after
arguments_end laws no_more_arguments = ends_itself
arguments_end laws (one_more_argument {before = before} {j = j} {middle = middle} judges sound then more) = ends_through (first_ends laws before j middle then) (arguments_end laws more)

pub arguments_clean : {setting : SettingTree} {before after : Judgement} {gs : Args} {js : List Argument} → AreSoundArguments setting before gs js after → HasNoError after.codes → HasNoError before.codes
arguments_clean no_more_arguments none = none
arguments_clean (one_more_argument {before = before} {j = j} {middle = middle} judges sound then more) none = (no_error_behind before j middle then.behind (arguments_clean more none)).0
