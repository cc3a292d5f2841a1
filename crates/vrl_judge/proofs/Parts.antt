-- Judgements of parts, in order or beside each other, and what the walk has of them.
use Rattle.std.proofs.Common.{◌≡◌, Bool, true, false, not, ◌||◌, ℕ, List, [], ◌∷◌, ◌++◌, Option, Some, None, is_some, option_map, refl, sym, ap, ap₂, ◌∙◌, subst, append_assoc, append-nil}
use Rattle.std.proofs.lemmas.List.{map-append}
use Rattle.std.proofs.Math.Bool.{or-false, or_assoc}
use Rattle.std.proofs.Math.Path.{fun_ext}
use Rattle.std.proofs.lemmas.List.Folds.{list_any-append}
use Rattle.std.specs.List.{list_any}
use Rattle.vrl_diag.specs.declared.diagnostic.Diagnostic.{Diagnostic}
use Rattle.vrl_kind.specs.KindTree.{KindTree}
use Rattle.vrl_state.specs.States.{kept as kept_by, knows, IsEither, IsJoined, RootMap, Scope, State}
use Rattle.vrl_state.proofs.Behind.{nothing_back}
use Rattle.vrl_judge.specs.Returns.{return_kind, return_state, returning}
use Rattle.vrl_diag.specs.Refusal.{is_error}
use Rattle.vrl_judge.specs.Rules.{Judgement, Loop, IsBehind, IsThen, if_state, is_alive, without_new_names, left, settle, settled_kind, with_codes}
use Rattle.vrl_judge.specs.Judging.{branches_known, known_on, loop_known, loops_known, settled_ends, AreEnds, AreJoinedEnds, AreLeftEnds, HasEnds, HasGathered, HasJudged, IsMoved, IsReported, IsReturnIn, IsWay}
use Rattle.vrl_judge.specs.declared.checker.Checker.{Checker}
use Rattle.vrl_judge.specs.declared.ends.Ends.{Ends}
use Rattle.vrl_judge.specs.declared.ends.Returned.{Returned}
use Rattle.vrl_judge.specs.declared.finding.Finding.{Finding}
use Rattle.vrl_judge.proofs.RootKinds.{either_of, settled_root}
use Rattle.vrl_judge.proofs.Joining.{branch_alive, join_of, kept_return, kept_way, known_way, settled_are, state_of_return}
use Rattle.std.specs.FinMap as map
use Rattle.std.specs.FinSet as set

-- ---- ends

-- what the ends say of returns and codes, and not of errors
abbrev pub HasReturns : Ends → Judgement → Type 0
HasReturns ends j = (return_state ends.ret ≡ j.ret) × (return_kind ends.ret ≡ j.returned) × (ends.poisoned ≡ j.poisoned)

pub returns_of : (scopes : List Scope) (ends : Ends) (j : Judgement) → HasEnds scopes ends j → HasReturns ends j
returns_of scopes ends j has = (has.ret, has.returned, has.poisoned)

-- the same where only the error differs
pub returns_but_fail : (a b : Ends) (j : Judgement) → b ≡ record a { fail = b.fail } → HasReturns a j → HasReturns b j
returns_but_fail a b j same has = (ap (λ e. return_state e.ret) same ∙ has.0, ap (λ e. return_kind e.ret) same ∙ has.1, ap (λ e. e.poisoned) same ∙ has.2)

-- ends of a judgement are those of each that ends alike
pub ends_of : (scopes : List Scope) (ends : Ends) (j k : Judgement) → HasEnds scopes ends j → j.fail ≡ k.fail → j.ret ≡ k.ret → j.returned ≡ k.returned → j.poisoned ≡ k.poisoned → HasEnds scopes ends k
ends_of scopes ends j k has fail ret returned poisoned = record { are = has.are; fail = has.fail ∙ fail; ret = has.ret ∙ ret; returned = has.returned ∙ returned; poisoned = has.poisoned ∙ poisoned }

-- the same in equal scopes
pub ends_in : (scopes scopes' : List Scope) (ends : Ends) (j : Judgement) → scopes ≡ scopes' → HasEnds scopes ends j → HasEnds scopes' ends j
ends_in scopes scopes' ends j same has = subst (λ s. HasEnds s ends j) same has

pub are_ends_of : (scopes : List Scope) (a b : Ends) → a.fail ≡ b.fail → a.ret ≡ b.ret → AreEnds scopes a → AreEnds scopes b
are_ends_of scopes a b fail ret are = record { fail = subst (IsWay scopes) fail are.fail; ret = subst (IsReturnIn scopes) ret are.ret }

-- an error can come where a way leads to it
pub fails_as : (scopes : List Scope) (ends : Ends) (j : Judgement) → HasEnds scopes ends j → is_some ends.fail ≡ is_alive j.fail
fails_as scopes ends j has = branch_alive scopes ends.fail has.are.fail ∙ ap is_some has.fail

-- one more way to end with an error
pub ends_or_fail : (scopes : List Scope) (a b : Ends) (j : Judgement) → HasEnds scopes a j → b ≡ record a { fail = b.fail } → AreEnds scopes b → HasEnds scopes b (record j { fail = known_on b.fail })
ends_or_fail scopes a b j has same are =
    let returns = returns_but_fail a b j same (returns_of scopes a j has) in
    record { are = are; fail = refl; ret = returns.0; returned = returns.1; poisoned = returns.2 }

-- ---- parts in order

-- both in order, where these are the ends of both
abbrev pub behind_with : Ends → Judgement → Judgement → Judgement
behind_with ends before part = record {
  kind = part.kind;
  ok = part.ok;
  fail = known_on ends.fail;
  ret = return_state ends.ret;
  returned = return_kind ends.ret;
  poisoned = ends.poisoned;
  codes = before.codes ++ part.codes;
  empties = before.empties ++ part.empties;
  loops = before.loops ++ part.loops;
}

pub ends_behind : (scopes : List Scope) (ends : Ends) (before part : Judgement) → AreEnds scopes ends → HasEnds scopes ends (behind_with ends before part)
ends_behind scopes ends before part are = record { are = are; fail = refl; ret = refl; returned = refl; poisoned = refl }

pub joined_state : (a b c : Ends) (x y : Option RootMap) → AreJoinedEnds a b c → return_state a.ret ≡ x → return_state b.ret ≡ y → IsJoined x y (return_state c.ret)
joined_state a b c x y joined first second = join_of (return_state a.ret) x (return_state b.ret) y (return_state c.ret) first second joined.ret.state

pub joined_kind : (a b c : Ends) (K L : KindTree) → AreJoinedEnds a b c → return_kind a.ret ≡ K → return_kind b.ret ≡ L → IsEither K L (return_kind c.ret)
joined_kind a b c K L joined first second = either_of (return_kind a.ret) K (return_kind b.ret) L (return_kind c.ret) first second joined.ret.kind

pub joined_poison : (a b c : Ends) (x y : Bool) → AreJoinedEnds a b c → a.poisoned ≡ x → b.poisoned ≡ y → c.poisoned ≡ (x || y)
joined_poison a b c x y joined first second = joined.poisoned ∙ ap₂ (λ p q. p || q) first second

-- errors are told apart
pub is_behind : (a b c : Ends) (j k : Judgement) → HasReturns a j → HasReturns b k → AreJoinedEnds a b c → IsBehind j k (behind_with c j k)
is_behind a b c j k first second joined = record {
  kind = refl;
  ok = refl;
  ret = joined_state a b c j.ret k.ret joined first.0 second.0;
  returned = joined_kind a b c j.returned k.returned joined first.1 second.1;
  poisoned = joined_poison a b c j.poisoned k.poisoned joined first.2 second.2;
  codes = refl;
  empties = refl;
  loops = refl;
}

pub is_then : (scopes : List Scope) (a b c : Ends) (j k : Judgement) → HasEnds scopes a j → HasEnds scopes b k → AreJoinedEnds a b c → IsThen j k (behind_with c j k)
is_then scopes a b c j k first second joined = record {
  behind = is_behind a b c j k (returns_of scopes a j first) (returns_of scopes b k second) joined;
  fail = join_of (known_on a.fail) j.fail (known_on b.fail) k.fail (known_on c.fail) first.fail second.fail joined.fail;
}

-- ---- what is gathered

-- what is added behind what was added
pub added : {X : Type 0} (before middle after first second : List X) → middle ≡ before ++ first → after ≡ middle ++ second → after ≡ before ++ (first ++ second)
added before middle after first second one two = two ∙ ap (λ xs. xs ++ second) one ∙ append_assoc before first second

-- the same of closures
pub loops_added : (before middle after : Checker) (first second : List (Option Loop))
    → branches_known middle.loops.items ≡ branches_known before.loops.items ++ loops_known first → branches_known after.loops.items ≡ branches_known middle.loops.items ++ loops_known second
    → branches_known after.loops.items ≡ branches_known before.loops.items ++ loops_known (first ++ second)
loops_added before middle after first second one two =
    added (branches_known before.loops.items) (branches_known middle.loops.items) (branches_known after.loops.items) (loops_known first) (loops_known second) one two
    ∙ ap (λ ks. branches_known before.loops.items ++ ks) (sym (map-append loop_known first second))

-- none
pub no_loops : (now : Checker) → branches_known now.loops.items ≡ branches_known now.loops.items ++ loops_known []
no_loops now = sym (append-nil (branches_known now.loops.items))

pub gathered_of : (before after : Checker) (j k : Judgement) → HasGathered before after j → j.ok ≡ k.ok → j.codes ≡ k.codes → j.empties ≡ k.empties → j.loops ≡ k.loops → HasGathered before after k
gathered_of before after j k has ok codes empties loops = record {
  ok = has.ok ∙ ok;
  scopes = has.scopes;
  diagnostics = has.diagnostics ∙ ap (λ ds. before.diagnostics.items ++ ds) codes;
  empties = has.empties ∙ ap (λ ts. before.empties.items ++ ts) empties;
  loops = has.loops ∙ ap (λ ls. branches_known before.loops.items ++ loops_known ls) loops;
  patterns = has.patterns;
  inside = has.inside;
}

-- parts in order gather what both do
pub gathered_behind : (before middle after : Checker) (j k whole : Judgement) → HasGathered before middle j → HasGathered middle after k → IsBehind j k whole → HasGathered before after whole
gathered_behind before middle after j k whole first second behind = record {
  ok = second.ok ∙ sym behind.ok;
  scopes = second.scopes ∙ first.scopes;
  diagnostics = added before.diagnostics.items middle.diagnostics.items after.diagnostics.items j.codes k.codes first.diagnostics second.diagnostics ∙ ap (λ ds. before.diagnostics.items ++ ds) (sym behind.codes);
  empties = added before.empties.items middle.empties.items after.empties.items j.empties k.empties first.empties second.empties ∙ ap (λ ts. before.empties.items ++ ts) (sym behind.empties);
  loops = loops_added before middle after j.loops k.loops first.loops second.loops ∙ ap (λ ls. branches_known before.loops.items ++ loops_known ls) (sym behind.loops);
  patterns = second.patterns ∙ first.patterns;
  inside = second.inside ∙ first.inside;
}

-- where only the state goes on, that is what is known
pub gathered_moved : (before middle after : Checker) (j : Judgement) → HasGathered before middle j → IsMoved middle after → HasGathered before after (record j { ok = after.state.known })
gathered_moved before middle after j has moved = record {
  ok = refl;
  scopes = moved.scopes ∙ has.scopes;
  diagnostics = ap (λ ds. ds.items) moved.diagnostics ∙ has.diagnostics;
  empties = ap (λ ts. ts.items) moved.empties ∙ has.empties;
  loops = ap (λ ls. branches_known ls.items) moved.loops ∙ has.loops;
  patterns = moved.patterns ∙ has.patterns;
  inside = moved.inside ∙ has.inside;
}

-- nothing is gathered where nothing is done
pub gathered_none : (now : Checker) (j : Judgement) → now.state.known ≡ j.ok → j.codes ≡ [] → j.empties ≡ [] → j.loops ≡ [] → HasGathered now now j
gathered_none now j ok codes empties loops = record {
  ok = ok;
  scopes = refl;
  diagnostics = sym (append-nil now.diagnostics.items) ∙ ap (λ ds. now.diagnostics.items ++ ds) (sym codes);
  empties = sym (append-nil now.empties.items) ∙ ap (λ ts. now.empties.items ++ ts) (sym empties);
  loops = no_loops now ∙ ap (λ ls. branches_known now.loops.items ++ loops_known ls) (sym loops);
  patterns = refl;
  inside = refl;
}

-- ---- codes

pub poisoned_by : (ds : List Diagnostic) (old new : Ends) (x : Bool) → new ≡ record old { poisoned = old.poisoned || list_any is_error ds } → old.poisoned ≡ x → new.poisoned ≡ (x || list_any is_error ds)
poisoned_by ds old new x is same = ap (λ e. e.poisoned) is ∙ ap (λ b. b || list_any is_error ds) same

pub reported_ends : (scopes : List Scope) (ds : List Diagnostic) (before after : Checker) (old new : Ends) (j : Judgement) → IsReported ds before after old new → HasEnds scopes old j → HasEnds scopes new (with_codes ds j)
reported_ends scopes ds before after old new j told has = record {
  are = are_ends_of scopes old new (sym (ap (λ e. e.fail) told.ends)) (sym (ap (λ e. e.ret) told.ends)) has.are;
  fail = ap (λ e. known_on e.fail) told.ends ∙ has.fail;
  ret = ap (λ e. return_state e.ret) told.ends ∙ has.ret;
  returned = ap (λ e. return_kind e.ret) told.ends ∙ has.returned;
  poisoned = poisoned_by ds old new j.poisoned told.ends has.poisoned;
}

pub reported_gathered : (ds : List Diagnostic) (start before after : Checker) (old new : Ends) (j : Judgement) → IsReported ds before after old new → HasGathered start before j → HasGathered start after (with_codes ds j)
reported_gathered ds start before after old new j told has = record {
  ok = ap (λ s. s.known) told.state ∙ has.ok;
  scopes = ap (λ s. s.scopes) told.state ∙ has.scopes;
  diagnostics = added start.diagnostics.items before.diagnostics.items after.diagnostics.items j.codes ds has.diagnostics told.diagnostics;
  empties = ap (λ ts. ts.items) told.empties ∙ has.empties;
  loops = ap (λ ls. branches_known ls.items) told.loops ∙ has.loops;
  patterns = told.patterns ∙ has.patterns;
  inside = told.inside ∙ has.inside;
}

-- a code that doesn't stand
pub reported_none : (now : Checker) (ends : Ends) → IsReported [] now now ends ends
reported_none now ends = record {
  diagnostics = sym (append-nil now.diagnostics.items);
  state = refl;
  empties = refl;
  loops = refl;
  patterns = refl;
  inside = refl;
  ends = ap {A = Bool} (λ b. record ends { poisoned = b }) (sym (or-false ends.poisoned));
}

abbrev pub with_error_of : List Diagnostic → Ends → Ends
with_error_of ds ends = record ends { poisoned = ends.poisoned || list_any is_error ds }

-- codes behind codes
pub reported_more : (ds es : List Diagnostic) (before middle after : Checker) (old next new : Ends) → IsReported ds before middle old next → IsReported es middle after next new → IsReported (ds ++ es) before after old new
reported_more ds es before middle after old next new first second = record {
  diagnostics = added before.diagnostics.items middle.diagnostics.items after.diagnostics.items ds es first.diagnostics second.diagnostics;
  state = second.state ∙ first.state;
  empties = second.empties ∙ first.empties;
  loops = second.loops ∙ first.loops;
  patterns = second.patterns ∙ first.patterns;
  inside = second.inside ∙ first.inside;
  ends = second.ends
      ∙ ap (with_error_of es) first.ends
      ∙ ap {A = Bool} (λ b. record old { poisoned = b }) (or_assoc old.poisoned (list_any is_error ds) (list_any is_error es) ∙ ap (λ b. old.poisoned || b) (sym (list_any-append is_error ds es)));
}

-- ---- what was judged

-- the same finding with codes that stand on it
pub reported_judged : (ds : List Diagnostic) (start before after : Checker) (part all : Finding) (j : Judgement) → IsReported ds before after part.ends all.ends → all.kind ≡ part.kind → HasJudged start before part j → HasJudged start after all (with_codes ds j)
reported_judged ds start before after part all j told same has = record {
  kind = same ∙ has.kind;
  root = has.root;
  ends = reported_ends start.state.scopes ds before after part.ends all.ends j told has.ends;
  gathered = reported_gathered ds start before after part.ends all.ends j told has.gathered;
}

pub known_if : (wanted : Bool) (branch : Option State) → known_on (if_state wanted branch) ≡ if_state wanted (known_on branch)
known_if true branch = refl
known_if false branch = refl

pub settled_ends_have : (scopes : List Scope) (ends : Ends) (j : Judgement) → HasEnds scopes ends j → HasEnds scopes (settled_ends ends) (settle j)
settled_ends_have scopes ends j has = record {
  are = settled_are scopes ends has.are;
  fail = known_if (not ends.poisoned) ends.fail ∙ ap₂ (λ p f. if_state (not p) f) has.poisoned has.fail;
  ret = has.ret;
  returned = has.returned;
  poisoned = has.poisoned;
}

-- an finding is settled
pub settled_judged : (before after : Checker) (part settled : Finding) (alive : Bool) (j : Judgement) → HasJudged before after part j → alive ≡ is_some after.state.known → settled.kind ≡ settled_kind part.ends.poisoned alive part.kind → settled.ends ≡ settled_ends part.ends
    → HasJudged before after settled (settle j)
settled_judged before after part settled alive j has reached kind ends = record {
  kind = kind ∙ ap (λ p. settled_kind p alive part.kind) has.ends.poisoned ∙ ap₂ (λ a K. settled_kind j.poisoned a K) (reached ∙ ap is_some has.gathered.ok) has.kind;
  root = settled_root j.poisoned (is_alive j.ok) j.kind has.root;
  ends = subst (λ e. HasEnds before.state.scopes e (settle j)) (sym ends) (settled_ends_have before.state.scopes part.ends j has.ends);
  gathered = gathered_of before after j (settle j) has.gathered refl refl refl refl;
}

-- ---- blocks

-- the names that a block keeps are those that were known where it began
pub kept_is : (scope : Scope) (known roots : RootMap) → scope.hidden ≡ map.empty → ((x : List ℕ) → set.contains scope.known x ≡ knows (Some known) x) → kept_by scope roots ≡ without_new_names known roots
kept_is scope known roots none names = nothing_back scope roots none ∙ ap (λ test. record roots { variables = map.retain_keys roots.variables test }) (fun_ext names)

-- what a block keeps is told alike
pub kept_all : (scope : Scope) (known : RootMap) (there : Option RootMap) → scope.hidden ≡ map.empty → ((x : List ℕ) → set.contains scope.known x ≡ knows (Some known) x) → option_map (kept_by scope) there ≡ option_map (without_new_names known) there
kept_all scope known None none names = refl
kept_all scope known (Some roots) none names = ap Some (kept_is scope known roots none names)

-- what is left where a scope ends at all ends
abbrev pub left_by : Scope → Judgement → Judgement
left_by scope j = record j { ok = option_map (kept_by scope) j.ok; fail = option_map (kept_by scope) j.fail; ret = option_map (kept_by scope) j.ret }

pub ends_left : (scope : Scope) (scopes : List Scope) (before after : Ends) (j : Judgement) → HasEnds (scope ∷ scopes) before j → AreLeftEnds scope scopes before after → HasEnds scopes after (left_by scope j)
ends_left scope scopes before after j has gone =
    record {
      are = record {
        fail = kept_way scopes (option_map (kept_by scope) (known_on before.fail)) after.fail gone.fail;
        ret = subst (IsReturnIn scopes) (sym gone.ret) (kept_return scopes (return_kind before.ret) (option_map (kept_by scope) (return_state before.ret)) has.are.ret.kind);
      };
      fail = ap known_on gone.fail ∙ known_way scopes (option_map (kept_by scope) (known_on before.fail)) ∙ ap (option_map (kept_by scope)) has.fail;
      ret = ap return_state gone.ret ∙ state_of_return scopes (return_kind before.ret) (option_map (kept_by scope) (return_state before.ret)) ∙ ap (option_map (kept_by scope)) has.ret;
      returned = ap return_kind gone.ret ∙ left_kind before.ret has.are.ret.alive ∙ has.returned;
      poisoned = gone.poisoned ∙ has.poisoned;
    }
  where
    kind_left : (K : KindTree) (state : Option RootMap) → K ≡ return_kind (returning (scope ∷ scopes) K state) → return_kind (returning scopes K (option_map (kept_by scope) state)) ≡ K
    kind_left K None is = sym is
    kind_left K (Some roots) is = refl

    left_kind : (ret : Option Returned) → ret ≡ returning (scope ∷ scopes) (return_kind ret) (return_state ret) → return_kind (returning scopes (return_kind ret) (option_map (kept_by scope) (return_state ret))) ≡ return_kind ret
    left_kind ret is = kind_left (return_kind ret) (return_state ret) (ap return_kind is)

-- a block ends at all ends
pub left_ends : (scope : Scope) (scopes : List Scope) (known : RootMap) (before after : Ends) (j : Judgement) → scope.hidden ≡ map.empty → ((x : List ℕ) → set.contains scope.known x ≡ knows (Some known) x)
    → HasEnds (scope ∷ scopes) before j → AreLeftEnds scope scopes before after → HasEnds scopes after (left known j)
left_ends scope scopes known before after j none names has gone =
    ends_of scopes after (left_by scope j) (left known j) (ends_left scope scopes before after j has gone) (kept_all scope known j.fail none names) (kept_all scope known j.ret none names) refl refl
