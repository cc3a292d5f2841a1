-- Ways that are kept, and joins of what is known on them.
use Rattle.std.proofs.Common.{◌≡◌, Bool, true, false, not, List, map as each, Option, Some, None, is_some, option_map, refl, sym, ap, ap₂, ◌∙◌, subst}
use Rattle.vrl_kind.specs.Canonical.{allows_absent}
use Rattle.vrl_kind.specs.KindTree.{KindTree, kind}
use Rattle.vrl_state.specs.States.{scope_names, HaveSameScopes, IsEither, IsEitherMap, IsEitherVariable, IsJoined, IsPresent, IsRootKind, RootMap, Scope, State}
use Rattle.vrl_judge.specs.Returns.{return_kind, return_state, returning}
use Rattle.vrl_judge.specs.Rules.{if_state, settled_kind}
use Rattle.vrl_judge.specs.Judging.{known_on, no_ends, settled_ends, way, AreEnds, AreJoinedReturns, HaveCommonScopes, IsReturnIn, IsWay}
use Rattle.vrl_judge.specs.declared.ends.Ends.{Ends}
use Rattle.vrl_judge.specs.declared.ends.Returned.{Returned}
use Rattle.vrl_state.proofs.Limits.{either_root}
use Rattle.vrl_judge.proofs.RootKinds.{either_never, either_turned, never_either, never_root}
use Rattle.std.specs.FinMap as map

-- ---- joins of what is known

-- a dead side gives the other
pub join_none : (a : Option RootMap) → IsJoined a None a
join_none None = refl
join_none (Some a) = refl

pub variable_turned : (K L M : Option KindTree) → IsEitherVariable K L M → IsEitherVariable L K M
variable_turned None None M is = is
variable_turned None (Some L) M is = is
variable_turned (Some K) None M is = is
variable_turned (Some K) (Some L) None is = absurd is
variable_turned (Some K) (Some L) (Some M) is = either_turned K L M is

pub map_turned : (a b c : RootMap) → IsEitherMap a b c → IsEitherMap b a c
map_turned a b c is = record {
  event = either_turned a.event b.event c.event is.event;
  variables = λ x. variable_turned (map.get a.variables x) (map.get b.variables x) (map.get c.variables x) (is.variables x);
}

-- the same from either side
pub join_turned : (a b c : Option RootMap) → IsJoined a b c → IsJoined b a c
join_turned None None c is = is
join_turned None (Some b) c is = is
join_turned (Some a) None c is = is
join_turned (Some a) (Some b) None is = absurd is
join_turned (Some a) (Some b) (Some c) is = map_turned a b c is

-- two sides that are alive give one that is
pub join_alive : (a b : RootMap) (c : Option RootMap) → IsJoined (Some a) (Some b) c → (roots : RootMap) × (c ≡ Some roots)
join_alive a b None is = absurd is
join_alive a b (Some c) is = (c, refl)

-- the same of equal sides
pub join_of : (a a' b b' c : Option RootMap) → a ≡ a' → b ≡ b' → IsJoined a b c → IsJoined a' b' c
join_of a a' b b' c e f is = subst (λ m. IsJoined m b' c) e (subst (λ m. IsJoined a m c) f is)

-- ---- ways

-- a state, by what is known there and its scopes
abbrev pub state_at : Option RootMap → List Scope → State
state_at known scopes = record { known = known; scopes = scopes }

-- a return, by its kind and where it stands
abbrev pub return_at : KindTree → State → Returned
return_at K s = record { kind = K; state = s }

pub known_way : (scopes : List Scope) (known : Option RootMap) → known_on (way scopes known) ≡ known
known_way scopes None = refl
known_way scopes (Some roots) = refl

pub alive_as : (scopes : List Scope) (known : Option RootMap) → is_some (way scopes known) ≡ is_some known
alive_as scopes None = refl
alive_as scopes (Some roots) = refl

-- a way is kept where something is known on it
pub branch_alive : (scopes : List Scope) (branch : Option State) → IsWay scopes branch → is_some branch ≡ is_some (known_on branch)
branch_alive scopes branch is = ap is_some is ∙ alive_as scopes (known_on branch)

-- what is a way on which something is known is one that is kept
pub kept_way : (scopes : List Scope) (known : Option RootMap) (branch : Option State) → branch ≡ way scopes known → IsWay scopes branch
kept_way scopes known branch is = is ∙ ap (way scopes) (sym (ap known_on is ∙ known_way scopes known))

-- something is known on a way that is kept, and it stands in its scopes
pub way_known : (scopes : List Scope) (s : State) → IsWay scopes (Some s) → (roots : RootMap) × (s ≡ state_at (Some roots) scopes)
way_known scopes s is = by s.known refl where
  by : (known : Option RootMap) → s.known ≡ known → (roots : RootMap) × (s ≡ state_at (Some roots) scopes)
  by None dead = absurd (let none : Some s ≡ None = is ∙ ap (way scopes) dead in cc)
  by (Some roots) alive = (roots, let one : Some s ≡ Some (state_at (Some roots) scopes) = is ∙ ap (way scopes) alive in cc)

-- a state that is alive is a way in its scopes
pub alive_way : (scopes : List Scope) (s : State) (roots : RootMap) → s.known ≡ Some roots → s.scopes ≡ scopes → IsWay scopes (Some s)
alive_way scopes s roots alive same = ap Some (ap₂ state_at alive same) ∙ sym (ap (way scopes) alive)

-- two ways that are kept stand in the same scopes
pub same_scopes : (scopes : List Scope) (a b : State) → IsWay scopes (Some a) → IsWay scopes (Some b) → a.scopes ≡ b.scopes
same_scopes scopes a b is_a is_b = ap (λ s. s.scopes) (way_known scopes a is_a).1 ∙ sym (ap (λ s. s.scopes) (way_known scopes b is_b).1)

-- so they know and hide the same names
pub same_names : (a b : State) → a.scopes ≡ b.scopes → HaveSameScopes a b
same_names a b same = ap (each scope_names) same

-- a join of two ways is one
pub joined_way : (scopes : List Scope) (a b c : State) → IsWay scopes (Some a) → IsWay scopes (Some b) → IsJoined a.known b.known c.known → c.scopes ≡ a.scopes → IsWay scopes (Some c)
joined_way scopes a b c is_a is_b joined same =
    let first = way_known scopes a is_a in
    let second = way_known scopes b is_b in
    let both = join_of a.known (Some first.0) b.known (Some second.0) c.known (ap (λ s. s.known) first.1) (ap (λ s. s.known) second.1) joined in
    let alive = join_alive first.0 second.0 c.known both in
    alive_way scopes c alive.0 alive.1 (same ∙ ap (λ s. s.scopes) first.1)

-- ---- returns

pub way_of_return : (scopes : List Scope) (K : KindTree) (known : Option RootMap) → option_map (λ r. r.state) (returning scopes K known) ≡ way scopes known
way_of_return scopes K None = refl
way_of_return scopes K (Some roots) = refl

pub return_way : (scopes : List Scope) (r : Returned) → IsReturnIn scopes (Some r) → IsWay scopes (Some r.state)
return_way scopes r is = ap (option_map (λ x. x.state)) is.alive ∙ way_of_return scopes r.kind r.state.known

pub way_return : (scopes : List Scope) (r : Returned) → IsWay scopes (Some r.state) → IsRootKind r.kind → IsReturnIn scopes (Some r)
way_return scopes r is root =
    let found = way_known scopes r.state is in
    record {
      alive = ap (λ s. Some (return_at r.kind s)) found.1 ∙ sym (ap (λ s. returning scopes r.kind s.known) found.1);
      kind = root;
    }

pub state_of_return : (scopes : List Scope) (K : KindTree) (known : Option RootMap) → return_state (returning scopes K known) ≡ known
state_of_return scopes K None = refl
state_of_return scopes K (Some roots) = refl

-- where no way leads nothing is returned
pub kind_of_return : (scopes : List Scope) (K : KindTree) (known : Option RootMap) → return_kind (returning scopes K known) ≡ settled_kind false (is_some known) K
kind_of_return scopes K None = refl
kind_of_return scopes K (Some roots) = refl

pub kept_return : (scopes : List Scope) (K : KindTree) (known : Option RootMap) → IsRootKind K → IsReturnIn scopes (returning scopes K known)
kept_return scopes K None root = record { alive = refl; kind = never_root }
kept_return scopes K (Some roots) root = record { alive = refl; kind = root }

-- no return
pub no_return : (scopes : List Scope) → IsReturnIn scopes None
no_return scopes = record { alive = refl; kind = never_root }

pub no_first_return : (r : Option Returned) (scopes : List Scope) → IsReturnIn scopes r → AreJoinedReturns None r r
no_first_return r scopes is = record { state = refl; kind = either_never (return_kind r) is.kind }

pub no_second_return : (r : Option Returned) (scopes : List Scope) → IsReturnIn scopes r → AreJoinedReturns r None r
no_second_return r scopes is = record { state = join_none (return_state r); kind = never_either (return_kind r) is.kind }

-- a join of two returns is one
pub joined_return : (scopes : List Scope) (a b c : Returned) → IsReturnIn scopes (Some a) → IsReturnIn scopes (Some b) → IsEither a.kind b.kind c.kind → IsJoined a.state.known b.state.known c.state.known → c.state.scopes ≡ a.state.scopes → IsReturnIn scopes (Some c)
joined_return scopes a b c is_a is_b either joined same =
    way_return scopes c (joined_way scopes a.state b.state c.state (return_way scopes a is_a) (return_way scopes b is_b) joined same) (either_root a.kind b.kind c.kind is_a.kind is_b.kind either)

-- ---- kinds that are never absent

pub not_absent : (K : KindTree) → IsPresent K → allows_absent K ≡ false
not_absent (kind s l o) present = present

pub is_present : (K : KindTree) → allows_absent K ≡ false → IsPresent K
is_present (kind s l o) present = present

-- ---- ends

pub no_ends_are : (scopes : List Scope) → AreEnds scopes no_ends
no_ends_are scopes = record { fail = refl; ret = no_return scopes }

-- those that stand in the same scopes have them in common
pub common : (scopes : List Scope) (a b : Ends) → AreEnds scopes a → AreEnds scopes b → HaveCommonScopes a b
common scopes a b first second = record { scopes = scopes; first = first; second = second }

pub way_if : (scopes : List Scope) (wanted : Bool) (branch : Option State) → IsWay scopes branch → IsWay scopes (if_state wanted branch)
way_if scopes true branch is = is
way_if scopes false branch is = refl

pub settled_are : (scopes : List Scope) (ends : Ends) → AreEnds scopes ends → AreEnds scopes (settled_ends ends)
settled_are scopes ends are = record { fail = way_if scopes (not ends.poisoned) ends.fail are.fail; ret = are.ret }
