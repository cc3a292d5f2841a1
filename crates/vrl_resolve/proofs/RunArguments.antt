-- The arguments of a call that are run before it, and those behind, which mean what is found where they stand.
use Rattle.std.proofs.Common.{◌≡◌, ℕ, List, [], ◌∷◌, ◌++◌, sym, ap, ◌∙◌, false, true, append_assoc}
use Rattle.std.proofs.lemmas.Bool.{and_parts}
use Rattle.std.proofs.lemmas.List.{append-nil}
use Rattle.vrl_value.specs.Regexes.{items_regexes_below, regexes_below}
use Rattle.vrl_value.specs.Tree.{Tree, array as items}
use Rattle.vrl_value.specs.View.{items_of_trees}
use Rattle.vrl_syntax.specs.Stores.{Store}
use Rattle.vrl_builtin.specs.Rows.{SettingTree}
use Rattle.vrl_store.specs.Outcomes.{ends, value}
use Rattle.vrl_store.specs.Places.{read_in}
use Rattle.vrl_store.specs.StoreView.{root_of, Names}
use Rattle.vrl_store.specs.WellFormed.{AreWellFormed, IsWellFormed}
use Rattle.vrl_resolve.specs.Fits.{AllFit}
use Rattle.vrl_resolve.specs.Linked.{Linked, literal, read, parts_of_list}
use Rattle.vrl_resolve.specs.LinkedMeaning.{all_mean}
use Rattle.vrl_resolve.specs.Looks.{AreOf, IsOf}
use Rattle.vrl_resolve.specs.Plain.{plain_values, AllPlain}
use Rattle.vrl_resolve.proofs.GivenArguments.{AreKnownAs, IsKnownAs}
use Rattle.vrl_resolve.proofs.WellFormedLinked.{arguments_known, known_of, known_parts}

-- literals and paths leave the store, and their values are what stands there
pub plain_mean : (names : Names) (setting : SettingTree) (ns : List Linked) (vs : List Tree) (store : Store) → AllPlain ns →
    all_mean names setting (parts_of_list ns) vs store ≡ ends (value (items (items_of_trees (vs ++ plain_values names ns store)))) store
plain_mean names setting [] vs store plain = ap (λ us. ends (value (items (items_of_trees us))) store) (sym (append-nil vs))
plain_mean names setting (literal v ∷ ns) vs store plain =
    plain_mean names setting ns (vs ++ v ∷ []) store plain.1 ∙ ap (λ us. ends (value (items (items_of_trees us))) store) (append_assoc vs (v ∷ []) (plain_values names ns store))
plain_mean names setting (read place ∷ ns) vs store plain =
    let v = read_in (root_of names place.base) place.path store in
    plain_mean names setting ns (vs ++ v ∷ []) store plain.1 ∙ ap (λ us. ends (value (items (items_of_trees us))) store) (append_assoc vs (v ∷ []) (plain_values names ns store))
plain_mean names setting (n ∷ ns) vs store plain = let wrong : false ≡ true = plain.0 in cc

of_known : (n : Linked) (v : Tree) → IsKnownAs (known_of n) v → IsOf n v
of_known (literal u) v is = is
of_known n v is = tt

none_of : (ns : List Linked) → AreOf ns []
none_of [] = tt
none_of (n ∷ ns) = tt

all_of_known : (ns rest : List Linked) (vs : List Tree) → AreKnownAs (known_parts (parts_of_list ns)) (items_of_trees vs) → AreOf (ns ++ rest) vs
all_of_known [] rest [] are = none_of rest
all_of_known [] rest (v ∷ vs) are = absurd are
all_of_known (n ∷ ns) rest [] are = absurd are
all_of_known (n ∷ ns) rest (v ∷ vs) are = (of_known n v are.0, all_of_known ns rest vs are.1)

-- the values of arguments that were run are those of the first
pub run_are_of : (names : Names) (setting : SettingTree) (ns : List Linked) (vs : List Tree) (before after : Store) → all_mean names setting (parts_of_list ns) [] before ≡ ends (value (items (items_of_trees vs))) after →
    (rest : List Linked) → AreOf (ns ++ rest) vs
run_are_of names setting ns vs before after came rest = all_of_known ns rest vs (arguments_known names setting (parts_of_list ns) before (items (items_of_trees vs)) (ap (λ ended. ended.outcome) came))

pub items_are : (count : ℕ) (vs : List Tree) → IsWellFormed count (items (items_of_trees vs)) → AreWellFormed count vs
items_are count [] is = tt
items_are count (v ∷ vs) is =
    let parts = and_parts (regexes_below count v) (items_regexes_below count (items_of_trees vs)) is.below in
    (record { ordered = is.ordered.0; below = parts.0 }, items_are count vs (record { ordered = is.ordered.1; below = parts.1 }))

pub front_fits : (count sources : ℕ) (ns more : List Linked) → AllFit count sources (parts_of_list (ns ++ more)) → AllFit count sources (parts_of_list ns)
front_fits count sources [] more fits = tt
front_fits count sources (n ∷ ns) more fits = (fits.0, front_fits count sources ns more fits.1)
