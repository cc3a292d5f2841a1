-- What a kind is cut to.
use Rattle.std.proofs.Common.{◌≡◌, sym, subst, ⊎_elim}
use Rattle.std.proofs.lemmas.Bool.{cases_lt}
use Rattle.vrl_kind.specs.KindTree.{KindTree}
use Rattle.vrl_kind.specs.Count.{nodes, levels}
use Rattle.vrl_kind.specs.Cut.{flat, level_limit, node_limit}
use Rattle.vrl_kind.specs.Kinds.{IsWithin}
use Rattle.vrl_kind.specs.Laws.{CutsAreWider}
use Rattle.vrl_kind.proofs.Shapes.{within_flat}

flat_is_wider : (K M : KindTree) → M ≡ flat K → IsWithin K M
flat_is_wider K M e = subst (IsWithin K) (sym e) (within_flat K)

same_is_wider : (K M : KindTree) → M ≡ K → IsWithin K M
same_is_wider K M e = subst (IsWithin K) (sym e) (λ p t h. h)

pub cuts_are_wider : CutsAreWider
cuts_are_wider K M c =
    ⊎_elim (λ many. flat_is_wider K M (c.too_many many))
    (λ few. ⊎_elim (λ deep. flat_is_wider K M (c.too_deep deep)) (λ flat. same_is_wider K M (c.kept few flat)) (cases_lt level_limit (levels K)))
    (cases_lt node_limit (nodes K))
