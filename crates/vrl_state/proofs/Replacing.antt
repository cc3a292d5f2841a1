-- Lists of roots in order, and what is known once such a list is taken over.
use Rattle.std.proofs.Common.{◌≡◌, ◌<◌, ◌+◌, ◌&&◌, ◌++◌, ℕ, Bool, true, false, is_lt, is_eq, cond, if◌then◌else◌, map as each, List, [], ◌∷◌, Option, Some, None, Ordering, Less, Equal, Greater, take, drop, get_or, length, refl, sym, ap, ◌∙◌, subst}
use Rattle.std.proofs.lemmas.Bool.{and_from, true≢false}
use Rattle.std.proofs.lemmas.Cmp.{nat_list_cmp_total}
use Rattle.std.proofs.lemmas.List.{take_more, take-append-drop}
use Rattle.std.proofs.lemmas.List.Elements.{All-get_or, All-head, All-tail}
use Rattle.std.proofs.lemmas.Map.Text.{is_eq-slice_cmp}
use Rattle.std.specs.FinMap as map
use Rattle.std.specs.Ordering.{eq_by_cmp}
use Rattle.vrl_syntax.specs.declared.root.Root.{Root}
use Rattle.vrl_syntax.specs.declared.root.Root.TheVariants.{Event, Name}
use Rattle.vrl_kind.specs.Cut.{IsCut}
use Rattle.vrl_kind.specs.KindTree.{KindTree}
use Rattle.vrl_state.specs.Known.{listed_kind, variable_kind, AreTakenOver, IsCutIf}
use Rattle.vrl_state.specs.Laws.{KnownReplacesItself}
use Rattle.vrl_state.specs.Ordered.{found, Entry}
use Rattle.vrl_state.specs.RootLists.{is_before, rise, rise_from, IsRootList}
use Rattle.vrl_state.specs.States.{kind_of, same_root, with_kind, IsPresent, IsRootKindIf, RootMap}
use Rattle.vrl_state.specs.declared.known.RootKind.{RootKind}
use Rattle.vrl_state.proofs.Cutting.{above, name_cmp}
use Rattle.vrl_state.proofs.Finite.{same_map}
use Rattle.vrl_state.proofs.Turning.{and_first, kind_with, one_root}

and_second : (a b : Bool) → (a && b) ≡ true → b ≡ true
and_second true b is = is
and_second false b is = absurd (true≢false (sym is))

is_less : (o : Ordering) → is_lt o ≡ true → o ≡ Less
is_less Less is = refl
is_less Equal is = absurd (true≢false (sym is))
is_less Greater is = absurd (true≢false (sym is))

-- ---- order

before_more : (a b c : Root) → is_before a b ≡ true → is_before b c ≡ true → is_before a c ≡ true
before_more Event Event c p q = absurd (true≢false (sym p))
before_more Event (Name y) Event p q = absurd (true≢false (sym q))
before_more Event (Name y) (Name z) p q = refl
before_more (Name x) Event c p q = absurd (true≢false (sym p))
before_more (Name x) (Name y) Event p q = absurd (true≢false (sym q))
before_more (Name x) (Name y) (Name z) p q =
    ap is_lt (nat_list_cmp_total.trans x y z (is_less (name_cmp x y) p) (is_less (name_cmp y z) q))

other_root : (a b : Root) → is_before a b ≡ true → same_root b a ≡ false
other_root Event Event p = absurd (true≢false (sym p))
other_root Event (Name y) p = refl
other_root (Name x) Event p = absurd (true≢false (sym p))
other_root (Name x) (Name y) p = sym (is_eq-slice_cmp y x) ∙ ap is_eq (above x y (is_less (name_cmp x y) p))

before_last : (root : Root) (done : List RootKind) (s : RootKind)
    → rise_from root (done ++ s ∷ []) ≡ true → is_before root s.root ≡ true
before_last root [] s is = and_first (is_before root s.root) true is
before_last root (d ∷ done) s is =
    before_more root d.root s.root (and_first (is_before root d.root) (rise_from d.root (done ++ s ∷ [])) is)
    (before_last d.root done s (and_second (is_before root d.root) (rise_from d.root (done ++ s ∷ [])) is))

rise_behind : (root : Root) (rs : List RootKind) → rise_from root rs ≡ true → rise rs ≡ true
rise_behind root [] is = refl
rise_behind root (r ∷ rs) is = and_second (is_before root r.root) (rise_from r.root rs) is

rise_front : (root : Root) (rs more : List RootKind) → rise_from root (rs ++ more) ≡ true → rise_from root rs ≡ true
rise_front root [] more is = refl
rise_front root (r ∷ rs) more is =
    and_from (is_before root r.root) (rise_from r.root rs) (and_first (is_before root r.root) (rise_from r.root (rs ++ more)) is)
    (rise_front r.root rs more (and_second (is_before root r.root) (rise_from r.root (rs ++ more)) is))

-- the last root isn't one of those before it
not_listed : (done : List RootKind) (s : RootKind) → rise (done ++ s ∷ []) ≡ true → listed_kind s.root done ≡ None
not_listed [] s is = refl
not_listed (d ∷ done) s is =
    ap (λ b. if b then Some d.kind else listed_kind s.root done) (other_root d.root s.root (before_last d.root done s is))
    ∙ not_listed done s (rise_behind d.root (done ++ s ∷ []) is)

-- the kind of the first root is present, and so is that of each other
pub first_present : (first : RootKind) (rs all : List RootKind)
    → all ≡ first ∷ rs → IsRootList all → IsPresent first.kind
first_present first rs all is list = All-head (λ r. IsPresent r.kind) first rs (subst IsRootList is list).present

pub next_present : (first : RootKind) (rs all : List RootKind) (i : ℕ) (s d : RootKind)
    → all ≡ first ∷ rs → IsRootList all → i < length rs → s ≡ get_or rs i d → IsPresent s.kind
next_present first rs all i s d is list below here =
    subst (λ r. IsPresent r.kind) (sym here)
    (All-get_or (λ r. IsPresent r.kind) rs i d below (All-tail (λ r. IsPresent r.kind) first rs (subst IsRootList is list).present))

-- ---- roots that are taken over one by one

push_first : (a b : Bool) (K L : KindTree) (M N : Option KindTree)
    → (b ≡ true → (if a then Some K else M) ≡ None) → ((b ≡ true → M ≡ None) → N ≡ (if b then Some L else M))
    → (if a then Some K else N) ≡ (if b then Some L else (if a then Some K else M))
push_first true true K L M N none next = cc (none refl)
push_first true false K L M N none next = refl
push_first false b K L M N none next = next none

-- one root more is listed
listed_push : (r : Root) (done : List RootKind) (s : RootKind)
    → (same_root r s.root ≡ true → listed_kind r done ≡ None)
    → listed_kind r (done ++ s ∷ []) ≡ (if same_root r s.root then Some s.kind else listed_kind r done)
listed_push r [] s none = refl
listed_push r (d ∷ done) s none =
    push_first (same_root r d.root) (same_root r s.root) d.kind s.kind (listed_kind r done)
    (listed_kind r (done ++ s ∷ [])) none (listed_push r done s)

cut_next : (b : Bool) (K M : KindTree) (L N : Option KindTree) → IsCut K M → IsCutIf L N
    → IsCutIf (if b then Some K else L) (if b then Some M else N)
cut_next true K M L N cut far = cut
cut_next false K M L N cut far = far

taken_next : (done : List RootKind) (s : RootKind) (K : KindTree) (b c : RootMap) → rise (done ++ s ∷ []) ≡ true
    → AreTakenOver done b → IsCut s.kind K → c ≡ with_kind s.root K b → AreTakenOver (done ++ s ∷ []) c
taken_next done s K b c order far cut is r =
    let given = listed_push r done s (λ same. ap (λ q. listed_kind q done) (one_root r s.root same) ∙ not_listed done s order) in
    let known : kind_of r c ≡ (if same_root r s.root then Some K else kind_of r b) = ap (kind_of r) is ∙ kind_with r s.root K b in
    subst (λ L. IsCutIf L (kind_of r c)) (sym given)
    (subst (IsCutIf (if same_root r s.root then Some s.kind else listed_kind r done)) (sym known)
    (cut_next (same_root r s.root) s.kind K (listed_kind r done) (kind_of r b) cut (far r)))

-- of the roots that are listed the event and so many variables are taken over
abbrev pub AreSoFar : List RootKind → List RootKind → ℕ → RootMap → Type 0
AreSoFar all rs i roots = (first : RootKind) × (all ≡ first ∷ rs) × AreTakenOver (first ∷ take i rs) roots

event_alone : (K : KindTree) (roots : RootMap) → IsCut K roots.event → roots.variables ≡ map.empty
    → AreTakenOver (record { root = Event; kind = K } ∷ []) roots
event_alone K roots cut none Event = cut
event_alone K roots cut none (Name x) = ap (λ m. map.get m x) none ∙ map.get-empty name_cmp x

pub so_far_first : (K : KindTree) (rs all : List RootKind) (roots : RootMap) → all ≡ record { root = Event; kind = K } ∷ rs
    → IsCut K roots.event → roots.variables ≡ map.empty → AreSoFar all rs 0 roots
so_far_first K rs all roots is cut none = (record { root = Event; kind = K }, is, event_alone K roots cut none)

pub so_far_next : (rs all : List RootKind) (i : ℕ) (s d : RootKind) (b c : RootMap)
    → IsRootList all → i < length rs → s ≡ get_or rs i d → AreSoFar all rs i b
    → (K : KindTree) × IsCut s.kind K × (c ≡ with_kind s.root K b) → AreSoFar all rs (i + 1) c
so_far_next rs all i s d b c list below here (first, is, far) (K, cut, put) =
    let more : take (i + 1) rs ≡ take i rs ++ s ∷ [] = take_more rs i d below ∙ ap (λ r. take i rs ++ r ∷ []) (sym here) in
    let front = rise_front first.root (take (i + 1) rs) (drop (i + 1) rs)
    (ap (rise_from first.root) (take-append-drop (i + 1) rs) ∙ (subst IsRootList is list).order) in (
      first,
      is,
      subst (λ xs. AreTakenOver (first ∷ xs) c) (sym more)
          (taken_next (first ∷ take i rs) s K b c (subst (λ xs. rise_from first.root xs ≡ true) more front) far cut put),
    )

pub so_far_all : (rs all : List RootKind) (i : ℕ) (roots : RootMap) → take i rs ≡ rs → AreSoFar all rs i roots
    → AreTakenOver all roots
so_far_all rs all i roots whole (first, is, far) =
    subst (λ xs. AreTakenOver xs roots) (sym is) (subst (λ xs. AreTakenOver (first ∷ xs) roots) whole far)

-- ---- the list of what is known

listed_variable : (x : List ℕ) (es : List Entry) → listed_kind (Name x) (each variable_kind es) ≡ found x es
listed_variable x [] = refl
listed_variable x (e ∷ es) =
    ap (λ b. cond b (Some e.1) (listed_kind (Name x) (each variable_kind es))) (sym (is_eq-slice_cmp x e.0))
    ∙ ap (cond (eq_by_cmp name_cmp x e.0) (Some e.1)) (listed_variable x es)

cut_stays : (K L : Option KindTree) → IsRootKindIf K → IsCutIf K L → L ≡ K
cut_stays None L root cut = cut
cut_stays (Some K) None root cut = absurd cut
cut_stays (Some K) (Some L) root cut = ap Some (cut.kept root.nodes root.levels)

-- what is known is given by its own list
pub replaced_by_itself : KnownReplacesItself
replaced_by_itself None after has is = is
replaced_by_itself (Some roots) None has is = absurd is
replaced_by_itself (Some roots) (Some after) has is =
    let event : after.event ≡ roots.event = (is Event).kept has.event.nodes has.event.levels in
    let variables : after.variables ≡ roots.variables = same_map after.variables roots.variables (λ x.
    cut_stays (map.get roots.variables x) (map.get after.variables x) (has.variables x)
    (subst (λ K. IsCutIf K (map.get after.variables x))
    (listed_variable x (map.entries roots.variables) ∙ sym (map.get-entries roots.variables x)) (is (Name x)))) in
    λ i. Some (record { event = event i; variables = variables i })
