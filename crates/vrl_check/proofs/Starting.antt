-- The state that a script is judged from.
use Rattle.std.proofs.Common.{◌≡◌, ℕ, Bool, true, false, cond, List, [], Option, Some, None, IsSomeAnd, bytes_eq, nat_cmp, arith, refl, sym, ap, ap₂, ◌∙◌, subst}
use Rattle.std.proofs.lemmas.Cmp.{nat_list_cmp_total}
use Rattle.std.proofs.lemmas.Map.Text.{is_eq-slice_cmp}
use Rattle.std.proofs.lemmas.Slice.Eq.{bytes_eq-Decides}
use Rattle.std.specs.Cmp.Lexicographic.{slice_cmp}
use Rattle.std.specs.FinMap as map
use Rattle.vrl_value.specs.Tree.{Tree}
use Rattle.vrl_path.specs.declared.path.Step.{Step}
use Rattle.vrl_syntax.specs.Stores.{metadata, metadata_name, value_of}
use Rattle.vrl_syntax.specs.declared.root.Root.{Root}
use Rattle.vrl_kind.specs.KindTree.{KindTree}
use Rattle.vrl_kind.specs.Kinds.{Inhabits, tags_at}
use Rattle.vrl_kind.specs.Laws.{EqualTagsAreOneKind}
use Rattle.vrl_state.specs.Laws.{StartsFit}
use Rattle.vrl_state.specs.States.{IsCutOf, IsRootKind, IsStart, IsWritten, RootMap, State, Variables, json_object, with_kind}
use Rattle.vrl_state.specs.Stores.{FitsKind, FitsKnown, FitsMap, Store}
use Rattle.vrl_judge.proofs.RootKinds.{kept_root}
use Rattle.vrl_check.specs.Judgement.{IsScriptStart}
use Rattle.vrl_check.specs.Starts.{ScriptStartsFit}
use Rattle.vrl_check.proofs.DeterminedPremises.{one_cut}

-- ---- its metadata

json_root : IsRootKind json_object
json_root = record { canonical = (tt, (tt, tt, tt)); present = refl; nodes = omega arith; levels = omega arith }

json_kept : IsCutOf (tags_at json_object) json_object
json_kept = record { whole = json_object; canonical = json_root.canonical; tags = λ p t. refl; cut = kept_root json_object json_root }

-- it is written in the state that knows the event alone
pub metadata_written : EqualTagsAreOneKind → (K J : KindTree) (r : Root) (path : List Step) (before after : State) → r ≡ metadata → path ≡ [] → J ≡ json_object → IsStart K before → IsWritten r path J before.known after.known → after.scopes ≡ before.scopes → IsScriptStart K after
metadata_written kinds K J r path before after root whole kind start written same =
    let there : IsWritten metadata [] json_object (Some start.roots) after.known =
    subst (λ known. IsWritten metadata [] json_object known after.known) start.known
    (subst (λ L. IsWritten metadata [] L before.known after.known) kind (subst (λ p. IsWritten metadata p J before.known after.known) whole (subst (λ s. IsWritten s path J before.known after.known) root written)))
    in
    let M = there.1 in
    let cut : IsCutOf (tags_at json_object) there.0 = record { whole = M.whole; canonical = M.canonical; tags = λ p t. M.write p t; cut = M.cut } in
    let is : there.0 ≡ json_object = one_cut kinds refl cut json_kept in
    record {
      roots = with_kind metadata json_object start.roots;
      known = there.2 ∙ ap (λ L. Some (with_kind metadata L start.roots)) is;
      event = start.event;
      variables = ap (λ variables. map.insert variables metadata_name json_object) start.variables;
      scopes = same ∙ start.scopes;
    }

-- ---- what fits it

held : (v : Option Tree) → IsSomeAnd v (λ u. Inhabits u json_object) → FitsKind v (Some json_object)
held None is = absurd is
held (Some u) is = is

-- of the variables it knows the metadata alone
variable_fits : (store : Store) (x : List ℕ) (known : Bool) → bytes_eq x metadata_name ≡ known → IsSomeAnd (value_of metadata store) (λ u. Inhabits u json_object) → FitsKind (map.get store.variables x) (cond known (Some json_object) None)
variable_fits store x true is object = subst (λ y. FitsKind (map.get store.variables y) (Some json_object)) (sym ((bytes_eq-Decides x metadata_name).0 is)) (held (value_of metadata store) object)
variable_fits store x false is object = tt

known_alone : (variables : Variables) (x : List ℕ) → variables ≡ map.insert map.empty metadata_name json_object → map.get variables x ≡ cond (bytes_eq x metadata_name) (Some json_object) None
known_alone variables x is =
    ap (λ m. map.get m x) is
    ∙ map.get-insert nat_list_cmp_total map.empty metadata_name json_object x
    ∙ ap₂ (λ b other. cond b (Some json_object) other) (is_eq-slice_cmp x metadata_name) (map.get-empty (slice_cmp nat_cmp) x)

pub script_starts : StartsFit → ScriptStartsFit
script_starts fits K state store start of_kind object =
    let alone : RootMap = record { event = start.roots.event; variables = map.empty } in
    let own : FitsMap store alone = fits K (record { known = Some alone; scopes = [] }) store (record { roots = alone; known = refl; event = start.event; variables = refl; scopes = refl }) of_kind in
    subst (FitsKnown store) (sym start.known) (record {
      event = own.event;
      variables = λ x. subst (FitsKind (map.get store.variables x)) (sym (known_alone start.roots.variables x start.variables)) (variable_fits store x (bytes_eq x metadata_name) refl object);
    })
