-- Calls of the functions that run a closure for each part of a collection: what the closure's names
-- are bound to, what is known behind its body, how the state before each run is found, the kind of
-- the call's value, and the codes of the closure. The rules are those by which the Vector Remap
-- Language types its iteration functions; the states of a closure are this project's own.
--
-- C is the kind of the collection: that of the argument, cut down to the tags that the parameter
-- allows.
use Rattle.std.specs.Prelude.{◌≡◌, ℕ, Bool, true, false, ◌||◌, ◌&&◌, not, List, [], ◌∷◌, length, map, take, Option, Some, None, option_map, if◌then◌else◌}
use Rattle.vrl_value.specs.Look.{field, place}
use Rattle.vrl_value.specs.declared.value.Tag.TheVariants as tag
use Rattle.vrl_diag.specs.declared.diagnostic.Diagnostic.{Diagnostic}
use Rattle.vrl_diag.specs.declared.diagnostic.Span.{Span}
use Rattle.vrl_syntax.specs.Calls.{has_shape}
use Rattle.vrl_syntax.specs.Stores.{hidden_by}
use Rattle.vrl_syntax.specs.Tree.{Exprs, Closure, no_closure, closure}
use Rattle.vrl_syntax.specs.Written.{exprs_write}
use Rattle.vrl_syntax.specs.declared.call_form.CallForm.{CallForm}
use Rattle.vrl_syntax.specs.declared.call_form.CallForm.TheVariants as form
use Rattle.vrl_kind.specs.KindTree.{KindTree}
use Rattle.vrl_kind.specs.Kinds.{is_absence, or_absent, root_tags, step_tag, tags_at}
use Rattle.vrl_kind.specs.PartSets.{parts_at}
use Rattle.vrl_kind.specs.Sets.{Sets}
use Rattle.vrl_kind.specs.Tags.{Tags, never, only, same_tag}
use Rattle.vrl_place.specs.Sets.{is_alone}
use Rattle.vrl_state.specs.Known.{known_as}
use Rattle.vrl_state.specs.States.{RootMap, Scope, body_scope, kept, with_names, IsFlattened, IsForgotten, IsJoined}
use Rattle.vrl_state.specs.declared.known.Known.{Known}
use Rattle.vrl_state.specs.declared.known.Known.TheVariants.{Dead}
use Rattle.vrl_builtin.specs.Containers.{object_of}
use Rattle.vrl_builtin.specs.PartKinds.{arrays_alone}
use Rattle.vrl_judge.specs.Rules.{Judgement, Loop, at, is_other, scalars_at, some_tag, when}
use Rattle.vrl_judge.specs.Judging.{HasJudged}
use Rattle.vrl_judge.specs.declared.checker.Checker.{Checker}
use Rattle.vrl_judge.specs.declared.closures.Held.{Held}
use Rattle.vrl_judge.specs.declared.finding.Finding.{Finding}

-- ---- the body

-- the tags of a key: a text in an object, a whole number in an array
abbrev pub key_tags : KindTree → Tags
key_tags C t = (root_tags C tag.Object && same_tag t tag.Text) || (root_tags C tag.List && same_tag t tag.Int)

-- the kind allows some tag: it isn't never
abbrev pub is_possible : KindTree → Bool
is_possible K = some_tag (λ t. true) K

-- the names between the bars, the kinds that they are bound to, and the items; and whether the
-- collection may have a part, so that it is run at all
pub record ClosureBody : Type 0 where
  pub names : List (List ℕ)
  pub kinds : List KindTree
  pub items : Exprs
  pub runs : Bool

-- behind the body its own names end, and names that it hid have the kinds again that they had
-- before, in all three ends
abbrev pub left_body : ClosureBody → RootMap → Judgement → Judgement
left_body b before j = let scope = body_scope (hidden_by b.names) before in record j
    { ok = option_map (kept scope) j.ok; fail = option_map (kept scope) j.fail; ret = option_map (kept scope) j.ret }

-- ---- what is known before each run

-- The body is judged in three tries at most, each from what is known at it: the first from what is
-- known where the call begins to run the body, the second where the first isn't stable, and the
-- third where neither is.
pub data Try : Type 0 where
  first_try : Try
  second_try : Try
  third_try : Try

abbrev pub next_try : Try → Try
next_try first_try = second_try
next_try try = third_try

-- What is known at the next try, by what is known at one and behind the body there. The second:
-- what is known at either, where each root that the body writes keeps its outer tags alone. The
-- third: the same, where of each of these nothing is known but that it is there.
abbrev pub IsNextTry : Try → ClosureBody → Option RootMap → Option RootMap → Option RootMap → Type 0
IsNextTry first_try b known behind next =
    (either : Option RootMap) × IsJoined known behind either × IsFlattened (exprs_write b.items) either next
IsNextTry second_try b known behind next = IsForgotten (exprs_write b.items) known next
IsNextTry third_try b known behind next = ⊥

-- ---- the kind of the value

-- of a filter: each field may be gone, and any part may stand at each place
abbrev pub filtered_at : KindTree → Sets
filtered_at C [] t = root_tags C t
filtered_at C (field n ∷ p) t = root_tags C tag.Object && or_absent p (tags_at C (field n ∷ p)) t
filtered_at C (place i ∷ p) t = root_tags C tag.List && or_absent p (parts_at (arrays_alone C) p) t

-- of a part with these tags, in whose place a value of the kind K is put: a part that is never
-- there stays so, and one that may be absent still may
abbrev pub mapped_part : Tags → KindTree → Sets
mapped_part T K p t =
    if is_alone T tag.Absent then is_absence p t else (tags_at K p t || (T tag.Absent && is_absence p t))

abbrev pub mapped_at : KindTree → KindTree → Sets
mapped_at C K [] t = root_tags C t
mapped_at C K (s ∷ p) t = root_tags C (step_tag s) && mapped_part (tags_at C (s ∷ [])) K p t

-- of each function, where K is the kind of the body
abbrev pub call_at : CallForm → KindTree → KindTree → Sets
call_at form.ForEach C K = scalars_at (only tag.Null)
call_at form.Filter C K = filtered_at C
call_at form.MapValues C K = mapped_at C K
call_at form.MapKeys C K = object_of (parts_at C)
call_at f C K = scalars_at never

-- ---- codes

-- a closure that isn't there, or doesn't have the names that the function asks for, is 1010
abbrev pub of_wanted_closure : CallForm → Span → Closure → List Diagnostic
of_wanted_closure f span no_closure = at 1010 span
of_wanted_closure f span (closure names es s) = when (not (has_shape f names)) (at 1010 span)

-- a filter's body that isn't exactly a boolean, and a body that gives keys and isn't exactly a
-- text, is 1015
abbrev pub is_wrong_body : CallForm → Judgement → Bool
is_wrong_body form.Filter j = is_other tag.Bool j
is_wrong_body form.MapKeys j = is_other tag.Text j
is_wrong_body f j = false

abbrev pub of_body : CallForm → Span → Judgement → List Diagnostic
of_body f span j = when (is_wrong_body f j) (at 1015 span)

-- ---- what is told of closures

-- what is known before each run, by the last try; one that isn't judged is dead
abbrev pub loop_told : Option Loop → Known
loop_told None = Dead
loop_told (Some loop) = known_as loop.known

abbrev pub loops_told : List (Option Loop) → List Known
loops_told loops = map loop_told loops

-- ---- a body that is judged

-- it begins: its scope is open, and its names have these kinds
pub record IsBodyEntered (names : List (List ℕ)) (Ks : List KindTree) (before after : Checker) : Type 0 where
  pub scope : Scope
  pub scopes : after.state.scopes ≡ scope ∷ before.state.scopes
  pub is : (roots : RootMap) → before.state.known ≡ Some roots → scope ≡ body_scope (hidden_by names) roots
  pub known : after.state.known ≡ option_map (with_names names Ks) before.state.known
  pub others : after ≡ record before { state = after.state }

-- it ends, behind its items
abbrev pub IsBodyEndAs : Finding → Checker → Checker → Finding → Type 0
IsBodyEndAs part now after finding = (b : ClosureBody) (before entered : Checker) (known : RootMap) (j : Judgement)
    → before.state.known ≡ Some known → IsBodyEntered b.names b.kinds before entered → HasJudged entered now part j
    → HasJudged before after finding (left_body b known j)

-- how much was gathered
abbrev pub held_of : Checker → Held
held_of c =
    record { diagnostics = length c.diagnostics.items; empties = length c.empties.items; loops = length c.loops.items }

-- what was gathered since is let go
pub record IsTakenBack (held : Held) (before after : Checker) : Type 0 where
  pub diagnostics : after.diagnostics.items ≡ take held.diagnostics before.diagnostics.items
  pub empties : after.empties.items ≡ take held.empties before.empties.items
  pub loops : after.loops.items ≡ take held.loops before.loops.items
  pub state : after.state ≡ before.state
  pub patterns : after.patterns ≡ before.patterns
  pub inside : after.inside ≡ before.inside
  pub alloc : after.alloc ≡ before.alloc
