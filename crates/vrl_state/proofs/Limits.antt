-- That the kinds of roots are within the limits and never absent.
use Rattle.std.proofs.Common.{◌≡◌, ◌≤◌, ℕ, Bool, true, false, ◌||◌, cond, List, [], ◌∷◌, length, Option, Some, None, refl, sym, ap, ◌∙◌, subst, ⊎_elim, arith}
use Rattle.std.proofs.lemmas.Bool.{cases_lt}
use Rattle.std.specs.FinMap as map
use Rattle.std.specs.FinSet as set
use Rattle.vrl_value.specs.declared.value.Tag.TheVariants as tag
use Rattle.vrl_path.specs.declared.path.Step.{Step}
use Rattle.vrl_syntax.specs.declared.root.Root.{Root}
use Rattle.vrl_syntax.specs.declared.root.Root.TheVariants.{Event, Name}
use Rattle.vrl_kind.specs.Canonical.{IsCanonical, ListIsCanonical, ObjectIsCanonical}
use Rattle.vrl_kind.specs.Count.{nodes, levels}
use Rattle.vrl_kind.specs.Cut.{IsCut, flat, flat_list, flat_object, level_limit, node_limit}
use Rattle.vrl_kind.specs.KindTree.{KindTree, kind, ListTree, no_list, list_part, ObjectTree, no_object, object_part}
use Rattle.vrl_kind.specs.Kinds as kinds
use Rattle.vrl_kind.specs.Kinds.{tags_at}
use Rattle.vrl_kind.specs.Sets.{Sets}
use Rattle.vrl_place.proofs.Removing.{removed_root as root_kept}
use Rattle.vrl_place.proofs.Writing.{written_present}
use Rattle.vrl_state.specs.States.{kind_of, kinds_back, with_kind, HasRootKinds, IsCutOf, IsEither, IsEitherMap, IsEitherVariable, IsLeftKind, IsMapWithin, IsPresent, IsRootKind, IsRootKindIf, IsWrittenKind, RootMap, Scope, Variables}
use Rattle.vrl_state.proofs.Behind.{at_behind, first_of}
use Rattle.vrl_state.proofs.Finite.{at_name, at_other, by_name}

list_is_canonical : (l : ListTree) → ListIsCanonical (flat_list l)
list_is_canonical no_list = tt
list_is_canonical (list_part ps r) = (tt, tt, tt)

object_is_canonical : (o : ObjectTree) → ObjectIsCanonical (flat_object o)
object_is_canonical no_object = tt
object_is_canonical (object_part fs r) = (tt, tt, tt)

flat_nodes : (K : KindTree) → nodes (flat K) ≤ node_limit
flat_nodes (kind s no_list no_object) = omega arith
flat_nodes (kind s no_list (object_part fs r)) = omega arith
flat_nodes (kind s (list_part ps q) no_object) = omega arith
flat_nodes (kind s (list_part ps q) (object_part fs r)) = omega arith

flat_levels : (K : KindTree) → levels (flat K) ≤ level_limit
flat_levels (kind s no_list no_object) = omega arith
flat_levels (kind s no_list (object_part fs r)) = omega arith
flat_levels (kind s (list_part ps q) no_object) = omega arith
flat_levels (kind s (list_part ps q) (object_part fs r)) = omega arith

flat_canonical : (K : KindTree) → IsCanonical (flat K)
flat_canonical (kind s l o) = (list_is_canonical l, object_is_canonical o)

flat_present : (K : KindTree) → IsPresent K → IsPresent (flat K)
flat_present (kind s l o) present = present

pub flat_root : (K M : KindTree) → M ≡ flat K → IsPresent K → IsRootKind M
flat_root K M e present = subst IsRootKind (sym e) (record { canonical = flat_canonical K; present = flat_present K present; nodes = flat_nodes K; levels = flat_levels K })

same_root : (K M : KindTree) → M ≡ K → IsCanonical K → IsPresent K → nodes K ≤ node_limit → levels K ≤ level_limit → IsRootKind M
same_root K M e canonical present few flat = subst IsRootKind (sym e) (record { canonical = canonical; present = present; nodes = few; levels = flat })

-- what a kind is cut to
pub cut_root : (K M : KindTree) → IsCanonical K → IsPresent K → IsCut K M → IsRootKind M
cut_root K M canonical present c =
    ⊎_elim (λ many. flat_root K M (c.too_many many) present)
    (λ few. ⊎_elim (λ deep. flat_root K M (c.too_deep deep) present) (λ flat. same_root K M (c.kept few flat) canonical present few flat) (cases_lt level_limit (levels K)))
    (cases_lt node_limit (nodes K))

pub sets_root : (A : Sets) (M : KindTree) → IsCutOf A M → A [] tag.Absent ≡ false → IsRootKind M
sets_root A M c present = cut_root c.whole M c.canonical (c.tags [] tag.Absent ∙ present) c.cut

pub written_root : (J K M : KindTree) (p : List Step) → IsPresent K → IsWrittenKind J p K M → IsRootKind M
written_root J K M p present c = cut_root c.whole M c.canonical (written_present (tags_at J) (tags_at K) (tags_at c.whole) p c.write present) c.cut

pub no_steps : (p : List Step) → length p ≡ 0 → p ≡ []
no_steps [] none = refl
no_steps (s ∷ r) none = absurd (omega arith)

pub removed_root : (K M : KindTree) (p : List Step) → IsRootKind K → IsLeftKind K p M → IsRootKind M
removed_root K M p is c = cut_root c.whole M c.canonical (root_kept (tags_at K) (tags_at c.whole) p tag.Absent c.removal ∙ is.present) c.cut

pub either_root : (K L M : KindTree) → IsRootKind K → IsRootKind L → IsEither K L M → IsRootKind M
either_root K L M k l c = sets_root _ M c (ap (λ b. b || tags_at L [] tag.Absent) k.present ∙ l.present)

-- ---- a kind that is within another

-- a root's kind stays whole
root_cut : (K : KindTree) → IsRootKind K → IsCut K K
root_cut K is = record {
  kept = λ few flat. refl;
  too_many = λ many. absurd (omega (arith, is.nodes));
  too_deep = λ deep. absurd (omega (arith, is.levels));
}

wider_or : (b c : Bool) → (c ≡ true → b ≡ true) → b ≡ (b || c)
wider_or true c h = refl
wider_or false true h = h refl
wider_or false false h = refl

or_wider : (b c : Bool) → (b ≡ true → c ≡ true) → c ≡ (b || c)
or_wider true c h = h refl
or_wider false c h = refl

-- either of a root's kind and one within it is that kind
pub either_first : (K L : KindTree) → IsRootKind K → kinds.IsWithin L K → IsEither K L K
either_first K L is within = record {
  whole = K;
  canonical = is.canonical;
  tags = λ p t. wider_or (tags_at K p t) (tags_at L p t) (within p t);
  cut = root_cut K is;
}

pub either_second : (K L : KindTree) → IsRootKind L → kinds.IsWithin K L → IsEither K L L
either_second K L is within = record {
  whole = L;
  canonical = is.canonical;
  tags = λ p t. or_wider (tags_at K p t) (tags_at L p t) (within p t);
  cut = root_cut L is;
}

-- ---- of all roots

pub root_of : (root : Root) (roots : RootMap) → HasRootKinds roots → IsRootKindIf (kind_of root roots)
root_of Event roots all = all.event
root_of (Name x) roots all = all.variables x

pub with_root : (root : Root) (K : KindTree) (roots : RootMap) → IsRootKind K → HasRootKinds roots → HasRootKinds (with_kind root K roots)
with_root Event K roots is all = record { event = is; variables = all.variables }
with_root (Name x) K roots is all =
    record {
      event = all.event;
      variables = by_name (λ y. IsRootKindIf (map.get (map.insert roots.variables x K) y)) x
          (subst IsRootKindIf (sym (at_name roots.variables x K)) is)
          (λ y other. subst IsRootKindIf (sym (at_other roots.variables x K y other)) (all.variables y));
    }

pub put_name : (event : KindTree) (m n : Variables) (x : List ℕ) (K : KindTree) → n ≡ map.insert m x K → IsRootKind K → HasRootKinds (record { event = event; variables = m }) → HasRootKinds (record { event = event; variables = n })
put_name event m n x K e is all = subst (λ v. HasRootKinds (record { event = event; variables = v })) (sym e) (with_root (Name x) K (record { event = event; variables = m }) is all)

pub either_variable : (K L M : Option KindTree) → IsEitherVariable K L M → IsRootKindIf K → IsRootKindIf L → IsRootKindIf M
either_variable None L M is k l = subst IsRootKindIf (sym is) tt
either_variable (Some K) None M is k l = subst IsRootKindIf (sym is) tt
either_variable (Some K) (Some L) None is k l = absurd is
either_variable (Some K) (Some L) (Some M) is k l = either_root K L M k l is

pub either_roots : (a b c : RootMap) → IsEitherMap a b c → HasRootKinds a → HasRootKinds b → HasRootKinds c
either_roots a b c is k l = record {
  event = either_root a.event b.event c.event k.event l.event is.event;
  variables = λ x. either_variable (map.get a.variables x) (map.get b.variables x) (map.get c.variables x) (is.variables x) (k.variables x) (l.variables x);
}

kept_variable : (b : Bool) (K : Option KindTree) → IsRootKindIf K → IsRootKindIf (cond b K None)
kept_variable true K h = h
kept_variable false K h = tt

pub either_seen : (a a' b b' c : RootMap) → a ≡ a' → b ≡ b' → IsEitherMap a b c → IsEitherMap a' b' c
either_seen a a' b b' c e f is = subst (λ m. IsEitherMap m b' c) e (subst (λ m. IsEitherMap a m c) f is)

pub within_seen : (a a' b b' : RootMap) → a ≡ a' → b ≡ b' → IsMapWithin a b → IsMapWithin a' b'
within_seen a a' b b' e f is = subst (λ m. IsMapWithin m b') e (subst (λ m. IsMapWithin a m) f is)

first_root : (K L : Option KindTree) → IsRootKindIf K → IsRootKindIf L → IsRootKindIf (first_of K L)
first_root None L k l = l
first_root (Some K) L k l = k

-- behind a scope
pub left_roots : (scope : Scope) (event : KindTree) (m k n : Variables) → k ≡ map.retain_keys m (λ x. set.contains scope.known x) → n ≡ kinds_back (map.entries scope.hidden) k
    → ((x : List ℕ) → IsRootKindIf (map.get scope.hidden x)) → HasRootKinds (record { event = event; variables = m }) → HasRootKinds (record { event = event; variables = n })
left_roots scope event m k n kept back hidden all = record {
  event = all.event;
  variables = λ x.
      subst IsRootKindIf (sym (ap (λ v. map.get v x) (back ∙ ap (kinds_back (map.entries scope.hidden)) kept) ∙ at_behind scope m x))
      (first_root (map.get scope.hidden x) _ (hidden x) (kept_variable (set.contains scope.known x) (map.get m x) (all.variables x)));
}

pub none_hidden : (v : Variables) → v ≡ map.empty → (x : List ℕ) → IsRootKindIf (map.get v x)
none_hidden v none x = subst IsRootKindIf (sym (ap (λ m. map.get m x) none ∙ map.get-empty _ x)) tt

pub start_roots : (K M : KindTree) (roots : RootMap) → IsCanonical K → IsPresent K → IsCut K M → roots.event ≡ M → roots.variables ≡ map.empty → HasRootKinds roots
start_roots K M roots canonical present c e none = record {
  event = subst IsRootKind (sym e) (cut_root K M canonical present c);
  variables = λ x. subst IsRootKindIf (sym (ap (λ m. map.get m x) none ∙ map.get-empty _ x)) tt;
}
