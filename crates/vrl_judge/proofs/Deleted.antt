-- What stands at a path is taken out.
use Rattle.std.proofs.Common.{◌≡◌, Bool, true, false, bytes_eq, if◌then◌else◌, List, [], Option, Some, None, ⊎_elim, refl, sym, ap, ◌∙◌, subst, arith, ◌∷◌, length}
use Rattle.std.proofs.lemmas.Bool.{cases_lt}
use Rattle.vrl_value.specs.Look.{Step}
use Rattle.vrl_value.specs.Tree.{Tree, no_members, null, object}
use Rattle.vrl_path.specs.declared.path.Step.{Step as CodeStep}
use Rattle.vrl_syntax.specs.declared.root.Root.{Root}
use Rattle.vrl_kind.specs.Canonical.{IsCanonical}
use Rattle.vrl_kind.specs.Count.{nodes, levels}
use Rattle.vrl_kind.specs.Cut.{IsCut, flat, level_limit, node_limit}
use Rattle.vrl_kind.specs.KindTree.{KindTree}
use Rattle.vrl_kind.specs.Kinds.{found_at, tags_at}
use Rattle.vrl_state.specs.States.{IsWritten, RootMap}
use Rattle.vrl_syntax.specs.Stores.{left_in, metadata_name}
use Rattle.vrl_judge.specs.Rules.{IsDeleted}
use Rattle.vrl_value.specs.declared.value.Tag.TheVariants as tag
use Rattle.vrl_syntax.specs.declared.root.Root.TheVariants as root

-- ---- a root

-- each kind has a cut
pub cut_of : (K : KindTree) → (M : KindTree) × IsCut K M
cut_of K =
    ⊎_elim (λ many. (flat K, record { kept = λ few low. absurd (omega (arith, many, few)); too_many = λ _. refl; too_deep = λ _. refl }))
    (λ few. ⊎_elim (λ deep. (flat K, record { kept = λ _ low. absurd (omega (arith, deep, low)); too_many = λ _. refl; too_deep = λ _. refl }))
    (λ low. (K, record { kept = λ _ _. refl; too_many = λ many. absurd (omega (arith, many, few)); too_deep = λ deep. absurd (omega (arith, deep, low)) })) (cases_lt level_limit (levels K)))
    (cases_lt node_limit (nodes K))

pub left_over : (r : Root) (K : KindTree) (before after : Option RootMap) → IsCanonical K → ((p : List Step) → tags_at K p ≡ found_at (left_in r) p) → IsWritten r [] K before after → IsDeleted r [] before after
left_over r K None after canonical tags is =
    let cut = cut_of K in
    (cut.0, record { whole = K; canonical = canonical; tags = λ p t. ap (λ T. T t) (tags p); cut = cut.1 }, is)
left_over r K (Some roots) after canonical tags is =
    let M = is.1 in
    (is.0, record { whole = M.whole; canonical = M.canonical; tags = λ p t. M.write p t ∙ ap (λ T. T t) (tags p); cut = M.cut }, is.2)

-- what is left in a root is never absent
either_present : (b : Bool) → found_at (if b then object no_members else null) [] tag.Absent ≡ false
either_present true = refl
either_present false = refl

pub left_present : (r : Root) → found_at (left_in r) [] tag.Absent ≡ false
left_present root.Event = refl
left_present (root.Name x) = either_present (bytes_eq x metadata_name)

pub root_present : (r : Root) (v : Tree) (K : KindTree) → v ≡ left_in r → ((p : List Step) → tags_at K p ≡ found_at v p) → tags_at K [] tag.Absent ≡ false
root_present r v K left tags = ap (λ T. T tag.Absent) (tags []) ∙ ap (λ u. found_at u [] tag.Absent) left ∙ left_present r

pub root_taken : (r : Root) (path : List CodeStep) (v : Tree) (K : KindTree) (before after : Option RootMap) → path ≡ [] → v ≡ left_in r → IsCanonical K → ((p : List Step) → tags_at K p ≡ found_at v p)
    → IsWritten r path K before after → IsDeleted r path before after
root_taken r path v K before after empty left canonical tags is =
    subst (λ p. IsDeleted r p before after) (sym empty)
    (left_over r K before after canonical (λ p. tags p ∙ ap (λ u. found_at u p) left) (subst (λ p. IsWritten r p K before after) empty is))

-- nothing is in a list without length
pub empty_list : {X : Type 0} (xs : List X) → length xs ≡ 0 → xs ≡ []
empty_list [] none = refl
empty_list (x ∷ xs) none = absurd (omega arith)
