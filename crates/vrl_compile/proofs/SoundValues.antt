-- Literals, arrays, objects and reads: what they give is of the kind that was judged.
use Rattle.std.proofs.Common.{◌≡◌, ℕ, zero, suc, length, Bool, true, false, List, [], ◌∷◌, ◌++◌, Option, Some, None, IfSome, IsTrue, Decides, if◌then◌else◌, unwrap_or, refl, sym, ap, ◌∙◌, subst}
use Rattle.std.specs.Prelude.{⊤, bytes_eq}
use Rattle.std.specs.FinMap as map
use Rattle.std.proofs.lemmas.Bool.{true≢false, false≢true}
use Rattle.std.proofs.lemmas.Slice.Eq.{bytes_eq-Decides}
use Rattle.vrl_value.specs.Laws.{MembersAreMaps}
use Rattle.vrl_value.specs.Look.{Step, field, place, found_behind, found_if, item_at, no_place, part_at, raw_at, tag_found}
use Rattle.vrl_value.specs.Tag.{tag_of}
use Rattle.vrl_value.specs.Tree.{Tree, null, array as items, object as members, Members, no_members, find, put}
use Rattle.vrl_value.specs.View.{items_of_trees}
use Rattle.vrl_value.specs.declared.value.Tag.{Tag}
use Rattle.vrl_value.specs.declared.value.Tag.TheVariants as tag
use Rattle.vrl_path.specs.declared.path.Step.{Step as CodeStep}
use Rattle.vrl_diag.specs.declared.diagnostic.Span.{Span}
use Rattle.vrl_syntax.specs.Tree as form
use Rattle.vrl_syntax.specs.Tree.{Expr, Exprs, Pairs, no_pairs, pair}
use Rattle.vrl_syntax.specs.declared.root.Root.{Root}
use Rattle.vrl_syntax.specs.declared.root.Root.TheVariants.{Event, Name}
use Rattle.vrl_kind.specs.Canonical.{never_kind}
use Rattle.vrl_kind.specs.KindTree.{KindTree}
use Rattle.vrl_kind.specs.Kinds.{found_at, option_tags, Inhabits}
use Rattle.vrl_kind.specs.Sets.{IsAllowed}
use Rattle.vrl_kind.specs.Tags.{Tags, only, same_tag}
use Rattle.vrl_state.specs.Laws.{CutsHoldTheAllowed}
use Rattle.vrl_state.specs.States.{kind_of, IsCutOf, RootMap}
use Rattle.vrl_state.specs.Stores.{AreOfKinds, FitsKind, FitsKnown, FitsMap, Store}
use Rattle.vrl_builtin.specs.Rows.{SettingTree}
use Rattle.vrl_store.specs.Outcomes.{ends, value, Ended}
use Rattle.vrl_store.specs.Places.{part_of, root_value}
use Rattle.vrl_store.specs.WellFormed.{AreWellFormedPairs, IsWellFormedStore}
use Rattle.vrl_judge.specs.Rules.{Judgement, IsReadAt, array_at, at, field_of, gives, items_at, last_or, named_at, object_at, scalars_at, with_codes, IsScalar}
use Rattle.vrl_check.specs.Judgement.{pair_names, pair_values}
use Rattle.vrl_resolve.specs.Meaning.{eval, eval_all, eval_pairs}
use Rattle.vrl_compile.specs.Sound.{HasNoError}
use Rattle.vrl_compile.proofs.SoundEnds.{as_weaker, ends_alike, sound_on_value, sound_told, IsSoundAs, IsSoundForm, IsSoundPart, IsValueOf}
use Rattle.vrl_compile.specs.SoundLaws.{Laws}
use Rattle.vrl_compile.proofs.SoundLists.{all_begin, all_clean, all_end, all_sound, next_sound, no_more_sound, one_more_sound, AreSound, AreTagsOf, AreValues}

-- ---- literals

-- a tag is the same as itself
pub same_tag-itself : (t : Tag) → same_tag t t ≡ true
same_tag-itself tag.Text = refl
same_tag-itself t = refl

just_found : (found : Option Tag) → IfSome found (λ t. IsTrue (option_tags found t))
just_found None = tt
just_found (Some t) = same_tag-itself t

-- a value is of its own kind
pub of_own_kind : CutsHoldTheAllowed → (v : Tree) (K : KindTree) → IsCutOf (found_at v) K → Inhabits v K
of_own_kind cuts v K is = cuts v (found_at v) K is (λ p. just_found (tag_found (raw_at v p)))

-- no part of the value is anywhere
abbrev pub HasNoPart : Tree → Type 0
HasNoPart v = (s : Step) → part_at v s ≡ no_place

only_at_root : (v : Tree) (T : Tags) → HasNoPart v → IsTrue (T (tag_of v)) → IsAllowed v (scalars_at T)
only_at_root v T none allowed [] = allowed
only_at_root v T none allowed (s ∷ p) = rw (none s) tt

-- a value without parts is of a kind of scalars that allows its tag
pub of_scalars : CutsHoldTheAllowed → (v : Tree) (T : Tags) (K : KindTree) → IsCutOf (scalars_at T) K → HasNoPart v → IsTrue (T (tag_of v)) → Inhabits v K
of_scalars cuts v T K is none allowed = cuts v (scalars_at T) K is (only_at_root v T none allowed)

-- and so of the kind of its tag alone
pub scalar_is : CutsHoldTheAllowed → (v : Tree) (K : KindTree) → HasNoPart v → IsScalar (tag_of v) K → Inhabits v K
scalar_is cuts v K none is = of_scalars cuts v (only (tag_of v)) K is none (same_tag-itself (tag_of v))

pub literal_is_sound : Laws → (setting : SettingTree) (known : RootMap) (v : Tree) (K : KindTree) → IsCutOf (found_at v) K → IsSoundForm setting known (form.literal v) (gives K (Some known))
literal_is_sound laws setting known v K cut none well rest store stored fits = (of_own_kind laws.cuts v K cut, fits)

-- ---- arrays

-- what stands at a place, behind which the look-up goes on
item_allowed : (vs : List Tree) (Ks : List KindTree) (i : ℕ) (p : List Step) → AreOfKinds vs Ks → IfSome (tag_found (found_behind (found_if (item_at i (items_of_trees vs))) p (λ u. raw_at u p))) (λ t. IsTrue (items_at Ks i p t))
item_allowed [] [] i [] are = refl
item_allowed [] [] i (s ∷ p) are = tt
item_allowed [] (K ∷ Ks) i p are = absurd are
item_allowed (v ∷ vs) [] i p are = absurd are
item_allowed (v ∷ vs) (K ∷ Ks) zero p are = are.0 p
item_allowed (v ∷ vs) (K ∷ Ks) (suc i) p are = item_allowed vs Ks i p are.1

array_allowed : (vs : List Tree) (Ks : List KindTree) → AreOfKinds vs Ks → IsAllowed (items (items_of_trees vs)) (array_at Ks)
array_allowed vs Ks are [] = refl
array_allowed vs Ks are (place i ∷ p) = item_allowed vs Ks i p are
array_allowed vs Ks are (field n ∷ p) = tt

pub array_is_sound : Laws → (setting : SettingTree) (known : RootMap) (es : Exprs) (j : Judgement) (Ks : List KindTree) (K : KindTree) → AreSound setting (gives never_kind (Some known)) es Ks j → IsCutOf (array_at Ks) K
    → IsSoundForm setting known (form.array es) (record j { kind = K })
array_is_sound laws setting known es j Ks K all cut none well rest store stored fits =
    (sound_told (record j { kind = K }) ended).1
    (as_weaker (AreValues (length setting.sources) [] Ks j) (IsValueOf (record j { kind = K })) (record j { kind = K }) ended
    (λ v after are. (subst (λ u. Inhabits u K) (sym are.is) (laws.cuts _ (array_at Ks) K cut (array_allowed are.values Ks are.kinds)), are.ok))
    (all_sound laws setting all none well rest (j.empties ++ rest) refl [] store stored fits)) where
      ended : Ended
      ended = eval_all setting (j.empties ++ rest) es [] store

-- ---- objects

-- what stands at a name, and what is known of that
abbrev IsField : Option Tree → Option KindTree → Type 0
IsField None None = ⊤
IsField None (Some K) = ⊥
IsField (Some v) None = ⊥
IsField (Some v) (Some K) = Inhabits v K

abbrev AreFields : Members → (List ℕ → Option KindTree) → Type 0
AreFields ms known = (n : List ℕ) → IsField (find n ms) (known n)

field_allowed : (found : Option Tree) (known : Option KindTree) (p : List Step) → IsField found known → IfSome (tag_found (found_behind (found_if found) p (λ u. raw_at u p))) (λ t. IsTrue (field_of known p t))
field_allowed None None [] is = refl
field_allowed None None (s ∷ p) is = tt
field_allowed None (Some K) p is = absurd is
field_allowed (Some v) None p is = absurd is
field_allowed (Some v) (Some K) p is = is p

object_allowed : (ms : Members) (names : List (List ℕ)) (Ks : List KindTree) → AreFields ms (named_at names Ks) → IsAllowed (members ms) (object_at names Ks)
object_allowed ms names Ks are [] = refl
object_allowed ms names Ks are (place i ∷ p) = tt
object_allowed ms names Ks are (field n ∷ p) = field_allowed (find n ms) (named_at names Ks n) p (are n)

-- the last of these names, or what was known before
abbrev known_behind : List (List ℕ) → List KindTree → (List ℕ → Option KindTree) → List ℕ → Option KindTree
known_behind names Ks before n = last_or (named_at names Ks n) (before n)

-- with one name more
abbrev known_with : List ℕ → KindTree → (List ℕ → Option KindTree) → List ℕ → Option KindTree
known_with name K before n = last_or (if bytes_eq name n then Some K else None) (before n)

last_joins : (a b c : Option KindTree) → last_or a (last_or b c) ≡ last_or (last_or a b) c
last_joins None b c = refl
last_joins (Some a) b c = refl

last_alone : (a : Option KindTree) → last_or a None ≡ a
last_alone None = refl
last_alone (Some a) = refl

put_at : MembersAreMaps → (name n : List ℕ) (v : Tree) (K : KindTree) (ms : Members) (before : List ℕ → Option KindTree) (same : Bool) → Decides same (name ≡ n) → Inhabits v K → IsField (find n ms) (before n) → IsField (find n (put name v ms)) (last_or (if same then Some K else None) (before n))
put_at maps name n v K ms before true decides of_kind is = subst (λ found. IsField found (Some K)) (sym (ap (λ m. find m (put name v ms)) (sym (decides.0 refl)) ∙ maps.find_put name v ms)) of_kind
put_at maps name n v K ms before false decides of_kind is = subst (λ found. IsField found (before n)) (sym (maps.find_put_other n name v ms (λ same. false≢true (decides.1 (sym same))))) is

put_is_known : MembersAreMaps → (name : List ℕ) (v : Tree) (K : KindTree) (ms : Members) (before : List ℕ → Option KindTree) → Inhabits v K → AreFields ms before → AreFields (put name v ms) (known_with name K before)
put_is_known maps name v K ms before of_kind are n = put_at maps name n v K ms before (bytes_eq name n) (bytes_eq-Decides name n) of_kind (are n)

-- an object of such fields, and the store that they left
record IsObject (known : List ℕ → Option KindTree) (j : Judgement) (v : Tree) (after : Store) : Type 0 where
  members_in : Members
  is : v ≡ members members_in
  fields : AreFields members_in known
  ok : FitsKnown after j.ok

same_object : (known more : List ℕ → Option KindTree) (j : Judgement) (v : Tree) (after : Store) → ((n : List ℕ) → known n ≡ more n) → IsObject known j v after → IsObject more j v after
same_object known more j v after same is = record { members_in = is.members_in; is = is.is; fields = λ n. subst (IsField (find n is.members_in)) (same n) (is.fields n); ok = is.ok }

-- fields behind those that were there
pairs_sound : Laws → (setting : SettingTree) (ps : Pairs) {before after : Judgement} {Ks : List KindTree} → AreSound setting before (pair_values ps) Ks after → HasNoError after.codes → AreWellFormedPairs (length setting.sources) ps
    → (rest tags : List Tag) → AreTagsOf before after rest tags → (ms : Members) (known : List ℕ → Option KindTree) → AreFields ms known → (store : Store) → IsWellFormedStore (length setting.sources) store → FitsKnown store before.ok
    → IsSoundAs (IsObject (known_behind (pair_names ps) Ks known) after) after (eval_pairs setting tags ps ms store)
pairs_sound laws setting no_pairs no_more_sound none well rest tags are ms known fields store stored fits = record { members_in = ms; is = refl; fields = fields; ok = fits }
pairs_sound laws setting (pair name e ps) (one_more_sound {before = before} {j = j} {middle = middle} {after = after} {Ks = Ks} counted sound in_order more) none well rest tags are ms known fields store stored fits =
    next_sound laws setting (IsObject (known_behind (name ∷ pair_names ps) (j.kind ∷ Ks) known) after) before j middle after e rest tags store (λ ts v end. eval_pairs setting ts ps (put name v ms) end)
    counted sound in_order (all_begin more) (all_end laws more) (all_clean more none) well.0 are stored fits
    (λ others left v end is fit.
    as_weaker (IsObject (known_behind (pair_names ps) Ks (known_with name j.kind known)) after) _ after (eval_pairs setting others ps (put name v ms) end)
    (λ u last. same_object _ _ after u last (λ n. last_joins (named_at (pair_names ps) Ks n) (if bytes_eq name n then Some j.kind else None) (known n)))
    (pairs_sound laws setting ps more none well.1 rest others left (put name v ms) (known_with name j.kind known) (put_is_known laws.members name v j.kind ms known is.kind fields) end is.stored fit))

pub object_is_sound : Laws → (setting : SettingTree) (known : RootMap) (ps : Pairs) (j : Judgement) (Ks : List KindTree) (K : KindTree) → AreSound setting (gives never_kind (Some known)) (pair_values ps) Ks j → IsCutOf (object_at (pair_names ps) Ks) K
    → IsSoundForm setting known (form.object ps) (record j { kind = K })
object_is_sound laws setting known ps j Ks K all cut none well rest store stored fits =
    (sound_told (record j { kind = K }) ended).1
    (as_weaker (IsObject (known_behind (pair_names ps) Ks (λ n. None)) j) (IsValueOf (record j { kind = K })) (record j { kind = K }) ended
    (λ v after is. (subst (λ u. Inhabits u K) (sym is.is) (laws.cuts _ (object_at (pair_names ps) Ks) K cut (object_allowed is.members_in (pair_names ps) Ks (λ n. subst (IsField (find n is.members_in)) (last_alone _) (is.fields n)))), is.ok))
    (pairs_sound laws setting ps all none well rest (j.empties ++ rest) refl no_members (λ n. None) (λ n. tt) store stored fits)) where
      ended : Ended
      ended = eval_pairs setting (j.empties ++ rest) ps no_members store

-- ---- reads

variable_fits : (v : Option Tree) (K : Option KindTree) (L : KindTree) → K ≡ Some L → FitsKind v K → Inhabits (unwrap_or v null) L
variable_fits v None L is fits = cc
variable_fits None (Some K) L is fits = absurd fits
variable_fits (Some v) (Some K) L is fits = let same : K ≡ L = cc in subst (Inhabits v) same fits

-- what stands in a root that is known is of its kind
root_fits : (root : Root) (known : RootMap) (K : KindTree) (store : Store) → kind_of root known ≡ Some K → FitsMap store known → Inhabits (root_value root store) K
root_fits Event known K store is fits = variable_fits (Some store.event) (Some known.event) K is fits.event
root_fits (Name x) known K store is fits = variable_fits (map.get store.variables x) (map.get known.variables x) K is (fits.variables x)

-- what is read in a value of a kind is of the kind of the read
part_fits : Laws → (K M : KindTree) (path : List CodeStep) (v : Tree) → IsReadAt K path M → Inhabits v K → Inhabits (part_of v path) M
part_fits laws K M path v is of_kind = laws.reads v path K is.whole M is.tags is.is_cut of_kind

pub read_is_sound : Laws → (setting : SettingTree) (known : RootMap) (root : Root) (path : List CodeStep) (K M : KindTree) → kind_of root known ≡ Some K → IsReadAt K path M → IsSoundForm setting known (form.read root path) (gives M (Some known))
read_is_sound laws setting known root path K M is is_read none well rest store stored fits = (part_fits laws K M path (root_value root store) is_read (root_fits root known K store is fits), fits)

-- what isn't known has a code
pub unknown_is_sound : (setting : SettingTree) (known : RootMap) (span : Span) (root : Root) (path : List CodeStep) (K : KindTree) → IsSoundForm setting known (form.read root path) (with_codes (at 701 span) (gives K (Some known)))
unknown_is_sound setting known span root path K none well rest store stored fits = absurd (true≢false none)

pub query_is_sound : Laws → (setting : SettingTree) (known : RootMap) (e : Expr) (path : List CodeStep) (j : Judgement) (K : KindTree) → IsSoundPart setting (Some known) e j → IsReadAt j.kind path K
    → IsSoundForm setting known (form.query e path) (record j { kind = K })
query_is_sound laws setting known e path j K sound is_read none well rest store stored fits =
    sound_on_value (length setting.sources) j (record j { kind = K }) (eval setting (j.empties ++ rest) e store) (λ v after. ends (value (part_of v path)) after) (ends_alike j (record j { kind = K }) refl refl refl)
    (sound none well rest store stored fits) (laws.kept.expression setting (j.empties ++ rest) e store well stored)
    (λ v after is. (part_fits laws j.kind K path v is_read is.kind, is.ok))

-- parentheses
pub group_is_sound : (setting : SettingTree) (known : RootMap) (e : Expr) (j : Judgement) → IsSoundPart setting (Some known) e j → IsSoundForm setting known (form.group e) j
group_is_sound setting known e j sound none well rest store stored fits = sound none well rest store stored fits
