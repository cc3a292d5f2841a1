-- The arms of an `if`, one by one.
use Rattle.std.proofs.Common.{◌≡◌, ℕ, ◌+◌, ◌<◌, ◌≤◌, Bool, true, false, if◌then◌else◌, List, drop, get_or, length, sym, ap, ◌∙◌, subst}
use Rattle.std.proofs.lemmas.List.{at_drop_all, at_drop_more}
use Rattle.std.specs.declared.result.Result.{Result}
use Rattle.vrl_value.specs.Tree.{Tree, null}
use Rattle.vrl_value.specs.declared.value.Value.{Value}
use Rattle.vrl_syntax.specs.Stores.{Store}
use Rattle.vrl_store.specs.Operators.{is_true}
use Rattle.vrl_store.specs.Outcomes.{Ended, block_left, ends, on_value, value}
use Rattle.vrl_store.specs.declared.stop.Stop.{Stop}
use Rattle.vrl_store.specs.declared.store.Store.{Store as CodeStore}
use Rattle.vrl_resolve.specs.Laws.{MeaningsStayWellFormed}
use Rattle.vrl_resolve.specs.Linked.{ArmTree, Linked, Parts, arm, arm_of, arms_view, block}
use Rattle.vrl_resolve.specs.LinkedMeaning.{arms_mean, items_mean}
use Rattle.vrl_resolve.specs.Walking.{AllFitIn, ArmsFitIn, EndsAsked, FitsIn, Stays, meant, names_in, setting_in, store_at}
use Rattle.vrl_resolve.specs.declared.node.Arm.{Arm}
use Rattle.vrl_resolve.specs.declared.walk.Context.{Context}
use Rattle.vrl_resolve.proofs.Walks.{IsPartway, partway_next, ready_after}

-- the next arm
pub next_arm : (all : List Arm) (i : ℕ) (a : Arm) (p : Linked) (body : Parts) → i < length all → a ≡ get_or all i a → ◌≡◌ {A = ArmTree} (arm_of a) (p, body) → arms_view (drop i all) ≡ arm p body (arms_view (drop (i + 1) all))
next_arm all i a p body below here is =
    at_drop_more arms_view all i a below ∙ ap (λ b. arm (arm_of b).0 (arm_of b).1 (arms_view (drop (i + 1) all))) (sym here) ∙ ap (λ (t : ArmTree). arm t.0 t.1 (arms_view (drop (i + 1) all))) is

pub arm_fits : (x : Context) (all : List Arm) (i : ℕ) (a : Arm) (p : Linked) (body : Parts) → i < length all → a ≡ get_or all i a → ◌≡◌ {A = ArmTree} (arm_of a) (p, body) → ArmsFitIn x (arms_view (drop i all)) → FitsIn x p × (AllFitIn x body × ArmsFitIn x (arms_view (drop (i + 1) all)))
arm_fits x all i a p body below here is fits = subst (ArmsFitIn x) (next_arm all i a p body below here is) fits

-- what follows its predicate
abbrev chosen : Context → Parts → Ended → Bool → Store → Ended
chosen x body others b after = if b then block_left after (items_mean (names_in x) (setting_in x) null body after) else others

behind : (x : Context) (now after : CodeStore) (all : List Arm) (i : ℕ) (a : Arm) (p : Linked) (body : Parts) (otherwise : Store → Ended) (v : Tree) (b : Bool) → i < length all → a ≡ get_or all i a → ◌≡◌ {A = ArmTree} (arm_of a) (p, body)
    → meant x p now ≡ ends (value v) (store_at x after) → b ≡ is_true v
    → arms_mean (names_in x) (setting_in x) (arms_view (drop i all)) otherwise (store_at x now) ≡ chosen x body (arms_mean (names_in x) (setting_in x) (arms_view (drop (i + 1) all)) otherwise (store_at x after)) b (store_at x after)
behind x now after all i a p body otherwise v b below here is came told =
    let rest = arms_view (drop (i + 1) all) in
    ap (λ as_. arms_mean (names_in x) (setting_in x) as_ otherwise (store_at x now)) (next_arm all i a p body below here is)
    ∙ ap (λ e. on_value e (λ w end. chosen x body (arms_mean (names_in x) (setting_in x) rest otherwise end) (is_true w) end)) came
    ∙ ap (λ c. chosen x body (arms_mean (names_in x) (setting_in x) rest otherwise (store_at x after)) c (store_at x after)) (sym told)

-- its block, where the predicate is true
pub arm_taken : (x : Context) (before now after : CodeStore) (all : List Arm) (i : ℕ) (a : Arm) (p : Linked) (body : Parts) (otherwise : Store → Ended) (whole : Ended) (b : Bool) (v : Tree) (t : Store) (asked : Bool) (r : Result Value Stop)
    → i < length all → a ≡ get_or all i a → ◌≡◌ {A = ArmTree} (arm_of a) (p, body) → IsPartway x before now (arms_mean (names_in x) (setting_in x) (arms_view (drop i all)) otherwise (store_at x now)) whole
    → meant x p now ≡ ends (value v) (store_at x after) → b ≡ is_true v → b ≡ true → EndsAsked asked (meant x (block body) after) t r → EndsAsked asked whole t r
arm_taken x before now after all i a p body otherwise whole b v t asked r below here is so_far came told true_is rest =
    let step = behind x now after all i a p body otherwise v b below here is came told
    ∙ ap (λ c. chosen x body (arms_mean (names_in x) (setting_in x) (arms_view (drop (i + 1) all)) otherwise (store_at x after)) c (store_at x after)) true_is in
    subst (λ e. EndsAsked asked e t r) (sym step ∙ so_far.same) rest

-- the arms behind it, where it is false
pub arm_passed : (law : MeaningsStayWellFormed) (x : Context) (before now after : CodeStore) (all : List Arm) (i : ℕ) (a : Arm) (p : Linked) (body : Parts) (otherwise : Store → Ended) (whole : Ended) (b : Bool) (v : Tree)
    → i < length all → a ≡ get_or all i a → ◌≡◌ {A = ArmTree} (arm_of a) (p, body) → ArmsFitIn x (arms_view (drop i all)) → IsPartway x before now (arms_mean (names_in x) (setting_in x) (arms_view (drop i all)) otherwise (store_at x now)) whole
    → meant x p now ≡ ends (value v) (store_at x after) → b ≡ is_true v → b ≡ false → Stays now after
    → IsPartway x before after (arms_mean (names_in x) (setting_in x) (arms_view (drop (i + 1) all)) otherwise (store_at x after)) whole × ArmsFitIn x (arms_view (drop (i + 1) all))
arm_passed law x before now after all i a p body otherwise whole b v below here is fits so_far came told false_is stays =
    let all_fit = arm_fits x all i a p body below here is fits in
    let step = behind x now after all i a p body otherwise v b below here is came told
    ∙ ap (λ c. chosen x body (arms_mean (names_in x) (setting_in x) (arms_view (drop (i + 1) all)) otherwise (store_at x after)) c (store_at x after)) false_is in
    (partway_next x before now after _ _ whole so_far step (ready_after x now after p (value v) law all_fit.0 came so_far.ready stays) stays, all_fit.1.1)

-- no arm was taken
pub arms_end : (x : Context) (before now : CodeStore) (all : List Arm) (i : ℕ) (otherwise : Store → Ended) (whole : Ended) → length all ≤ i
    → IsPartway x before now (arms_mean (names_in x) (setting_in x) (arms_view (drop i all)) otherwise (store_at x now)) whole → whole ≡ otherwise (store_at x now)
arms_end x before now all i otherwise whole end so_far = sym so_far.same ∙ ap (λ as_. arms_mean (names_in x) (setting_in x) as_ otherwise (store_at x now)) (at_drop_all arms_view all i end)
