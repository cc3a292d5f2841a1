-- Scopes that are joined, one by one, and those of which both sides hide the same kinds.
use Rattle.std.proofs.Common.{◌≡◌, ◌||◌, ℕ, Bool, true, false, List, [], ◌∷◌, map, Option, Some, None, refl, sym, ap, ◌∙◌, subst}
use Rattle.std.specs.FinMap as finite
use Rattle.vrl_kind.specs.Cut.{IsCut}
use Rattle.vrl_kind.specs.KindTree.{KindTree}
use Rattle.vrl_kind.specs.Kinds.{tags_at}
use Rattle.vrl_kind.specs.Laws.{EqualTagsAreOneKind}
use Rattle.vrl_state.specs.Merging.{IsFirstJoined}
use Rattle.vrl_state.specs.Laws.{HideRootKinds, JoinsKeepScopes}
use Rattle.vrl_state.specs.States.{scope_names, IsEachScopeJoined, IsEither, IsEitherVariable, IsRootKind, IsRootKindIf, IsScopeJoined, Scope, Variables}
use Rattle.vrl_state.specs.View.{scope_of}
use Rattle.vrl_state.proofs.Finite.{same_map}

-- ---- one by one

-- the first scope, and those around it
pub first_joined : (known known' mine others : Variables) (ss ts us joined : List Scope) → IsFirstJoined known mine others us joined → IsEachScopeJoined ss ts us → IsEachScopeJoined (scope_of known mine ∷ ss) (scope_of known' others ∷ ts) joined
first_joined known known' mine others ss ts us joined first rest =
    subst (IsEachScopeJoined (scope_of known mine ∷ ss) (scope_of known' others ∷ ts)) (sym first.is) (record { known = refl; hidden = first.either }, rest)

abbrev pub others_of : {A : Type 0} → List A → List A
others_of [] = []
others_of (x ∷ xs) = xs

abbrev pub first_or : {A : Type 0} → A → List A → A
first_or s [] = s
first_or s (t ∷ ts) = t

-- the first of a list is one
pub same_first : {A : Type 0} (s t : A) (ss ts : List A) → s ∷ ss ≡ t ∷ ts → s ≡ t
same_first s t ss ts e = ap (first_or s) e

pub same_outer : (s t : Scope) (ss ts : List Scope) → map scope_names (s ∷ ss) ≡ map scope_names (t ∷ ts) → map scope_names ss ≡ map scope_names ts
same_outer s t ss ts same = ap others_of same

pub none_joined : (ss ts : List Scope) → map scope_names ss ≡ map scope_names ts → ss ≡ [] → IsEachScopeJoined ss ts ss
none_joined [] [] same none = tt
none_joined [] (t ∷ ts) same none = absurd cc
none_joined (s ∷ ss) ts same none = absurd cc

pub none_beside : (ss ts : List Scope) → map scope_names ss ≡ map scope_names ts → ts ≡ [] → IsEachScopeJoined ss ts ss
none_beside [] [] same none = tt
none_beside [] (t ∷ ts) same none = absurd cc
none_beside (s ∷ ss) [] same none = absurd cc
none_beside (s ∷ ss) (t ∷ ts) same none = absurd cc

-- ---- of the same kinds

either_itself : (b : Bool) → (b || b) ≡ b
either_itself true = refl
either_itself false = refl

-- either of a root's kind and itself is that kind
pub one_kind : EqualTagsAreOneKind → (K M : KindTree) → IsRootKind K → IsEither K K M → M ≡ K
one_kind one K M root c =
    let whole : c.whole ≡ K = one c.whole K c.canonical root.canonical (λ p t. c.tags p t ∙ either_itself (tags_at K p t)) in
    let cut : IsCut K M = subst (λ L. IsCut L M) whole c.cut in
    cut.kept root.nodes root.levels

one_hidden : EqualTagsAreOneKind → (K M : Option KindTree) → IsRootKindIf K → IsEitherVariable K K M → M ≡ K
one_hidden one None M root is = is
one_hidden one (Some K) None root is = absurd is
one_hidden one (Some K) (Some M) root is = ap Some (one_kind one K M root is)

one_scope : EqualTagsAreOneKind → (s u : Scope) → ((x : List ℕ) → IsRootKindIf (finite.get s.hidden x)) → IsScopeJoined s s u → u ≡ s
one_scope one s u roots is =
    let hidden : u.hidden ≡ s.hidden = same_map u.hidden s.hidden (λ x. one_hidden one (finite.get s.hidden x) (finite.get u.hidden x) (roots x) (is.hidden x)) in
    λ i. record { known = is.known i; hidden = hidden i }

each_one : EqualTagsAreOneKind → (ss us : List Scope) → HideRootKinds ss → IsEachScopeJoined ss ss us → us ≡ ss
each_one one [] [] roots is = refl
each_one one [] (u ∷ us) roots is = absurd is
each_one one (s ∷ ss) [] roots is = absurd is
each_one one (s ∷ ss) (u ∷ us) roots is =
    let first = one_scope one s u roots.0 is.0 in
    let others = each_one one ss us roots.1 is.1 in
    λ i. first i ∷ others i

pub same_scopes_stay : EqualTagsAreOneKind → JoinsKeepScopes
same_scopes_stay one None b ss ts us roots same is = is ∙ sym same
same_scopes_stay one (Some a) None ss ts us roots same is = is
same_scopes_stay one (Some a) (Some b) ss ts us roots same is = each_one one ss us roots (subst (λ zs. IsEachScopeJoined ss zs us) (sym same) is)
