-- What a call in memory calls.
use Rattle.std.proofs.Common.{◌≡◌, ℕ, ◌<◌, ◌+◌, Bool, true, false, List, [], ◌∷◌, length, Option, Some, None, is_some, option_map, bytes_eq, codes, refl, sym, ◌∙◌, subst, arith, rules, if◌then◌else◌}
use Rattle.std.proofs.lemmas.Bool.{true≢false, lt-ltb}
use Rattle.std.proofs.lemmas.Slice.Eq.{bytes_eq-Decides}
use Rattle.std.specs.Prelude.{⊤}
use Rattle.vrl_path.specs.declared.path.Step.{Step}
use Rattle.vrl_diag.specs.declared.diagnostic.Span.{Span}
use Rattle.vrl_syntax.specs.Calls.{is_del, is_exists, path_of}
use Rattle.vrl_syntax.specs.ErrorAssignments.{in_args, in_closure}
use Rattle.vrl_syntax.specs.Tree.{Expr, expr, read, Args, no_args, arg, no_closure, call}
use Rattle.vrl_syntax.specs.View.{args_of, call_of, closure_in, closure_of}
use Rattle.vrl_syntax.specs.declared.root.Root.{Root}
use Rattle.vrl_syntax.specs.declared.tree.Call.{Call as CodeCall, out-Call}
use Rattle.vrl_syntax.specs.declared.tree.Closure.{Closure as CodeClosure}
use Rattle.vrl_syntax.specs.declared.tree.Form.{the_lemmas}
use Rattle.vrl_binding.specs.Binding.{binding, keywords_of, path_parameters}
use Rattle.vrl_store.specs.StoreView.{Names}
use Rattle.vrl_resolve.specs.Calls as called
use Rattle.vrl_resolve.specs.Linked as linked
use Rattle.vrl_resolve.specs.Linked.{Linked, Parts}
use Rattle.vrl_resolve.specs.Linking.{a_call, path_argument, path_called, AreArgsLinked, IsCalleeIn, IsCalleeOf, IsPathCallee, Links, LinksForm}
use Rattle.vrl_resolve.specs.declared.link.Linker.{Linker}
use Rattle.vrl_resolve.specs.declared.node.Callee.{Callee}
use Rattle.vrl_resolve.proofs.Links.{form_made}

pub call_seen : (c : CodeCall) → call_of c ≡ call (out-Call c).name (out-Call c).name_span (out-Call c).bang (args_of (out-Call c).args) (closure_in (option_map closure_of (out-Call c).closure))
call_seen c = search (rules, the_lemmas)

-- ---- the argument of `del` and `exists`

one_path : (make : Root → List Step → called.Callee) (e : Expr) → called.path_callee make (e ∷ []) ≡ path_called make (path_of e)
one_path make (expr span (read root path)) = refl
one_path make (expr span f) = refl

too_many : (make : Root → List Step → called.Callee) (gs : Args) → 1 < length (keywords_of gs) → called.bound_path make gs (binding path_parameters (keywords_of gs)) ≡ called.nothing_called
too_many make gs many = rw (lt-ltb 1 (length (keywords_of gs)) many)

unknown : (make : Root → List Step → called.Callee) (k : List ℕ) (span : Span) (e : Expr) (b : Bool) → bytes_eq (codes "value") k ≡ b → b ≡ false
    → called.bound_path make (arg (Some k) span e no_args) (binding path_parameters (Some k ∷ [])) ≡ called.nothing_called
unknown make k span e true is other = absurd (true≢false other)
unknown make k span e false is other = rw is

named_value : (make : Root → List Step → called.Callee) (k : List ℕ) (span : Span) (e : Expr) (b : Bool) → bytes_eq k (codes "value") ≡ b
    → called.bound_path make (arg (Some k) span e no_args) (binding path_parameters (Some k ∷ [])) ≡ path_called make (if b then path_of e else None)
named_value make k span e true is =
    let same : codes "value" ≡ k = sym ((bytes_eq-Decides k (codes "value")).0 is) in
    let P : List ℕ → Type 0 = λ key. called.bound_path make (arg (Some key) span e no_args) (binding path_parameters (Some key ∷ [])) ≡ path_called make (path_of e) in
    subst P same (one_path make e)
named_value make k span e false is = unknown make k span e _ refl (other (bytes_eq (codes "value") k) refl) where
  other : (b : Bool) → bytes_eq (codes "value") k ≡ b → bytes_eq (codes "value") k ≡ false
  other false not = not
  other true same =
      let equal : k ≡ codes "value" = sym ((bytes_eq-Decides (codes "value") k).0 same) in
      let wrong : bytes_eq k (codes "value") ≡ true = (bytes_eq-Decides k (codes "value")).1 equal in
      absurd (true≢false (sym wrong ∙ is))

pub path_bound : (make : Root → List Step → called.Callee) (gs : Args) → called.bound_path make gs (binding path_parameters (keywords_of gs)) ≡ path_called make (path_argument gs)
path_bound make no_args = refl
path_bound make (arg None span e no_args) = one_path make e
path_bound make (arg (Some k) span e no_args) = named_value make k span e _ refl
path_bound make (arg None span e (arg n s f gs)) = too_many make (arg None span e (arg n s f gs)) (omega arith)
path_bound make (arg (Some k) span e (arg n s f gs)) = too_many make (arg (Some k) span e (arg n s f gs)) (omega arith)

-- ---- by its name

no_closure_there : (c : Option CodeClosure) → is_some c ≡ false → closure_in (option_map closure_of c) ≡ no_closure
no_closure_there None none = refl
no_closure_there (Some c) none = absurd (true≢false none)

abbrev pub IsFormCallee : Names → CodeCall → Callee → Type 0
IsFormCallee names c d = IsCalleeOf names (out-Call c).name (args_of (out-Call c).args) (closure_in (option_map closure_of (out-Call c).closure)) d

pub callee_seen : (names : Names) (c : CodeCall) (d : Callee) → IsFormCallee names c d → IsCalleeIn names (call_of c) d
callee_seen names c d is = subst (λ f. IsCalleeIn names f d) (sym (call_seen c)) is

pub deletion_called : (names : Names) (c : CodeCall) (d : Callee) → is_some (out-Call c).closure ≡ false → is_del (out-Call c).name ≡ true → IsPathCallee names called.deletion (args_of (out-Call c).args) d → IsCalleeIn names (call_of c) d
deletion_called names c d none named is =
    let gs = args_of (out-Call c).args in
    callee_seen names c d (record {
      known = is.known;
      same = is.same ∙ sym (path_bound called.deletion gs) ∙ rw (no_closure_there (out-Call c).closure none, named) refl;
    })

pub existence_called : (names : Names) (c : CodeCall) (d : Callee) → is_some (out-Call c).closure ≡ false → is_del (out-Call c).name ≡ false → is_exists (out-Call c).name ≡ true → IsPathCallee names called.existence (args_of (out-Call c).args) d → IsCalleeIn names (call_of c) d
existence_called names c d none other named is =
    let gs = args_of (out-Call c).args in
    callee_seen names c d (record {
      known = is.known;
      same = is.same ∙ sym (path_bound called.existence gs) ∙ rw (no_closure_there (out-Call c).closure none, other, named) refl;
    })

-- ---- a call is linked

pub call_made : {a b : Linker} (c : CodeCall) (m : Linked) (d : Callee) (ns : Parts) → m ≡ linked.call d (out-Call c).bang ns
    → Links a b (in_args (args_of (out-Call c).args) + in_closure (closure_in (option_map closure_of (out-Call c).closure))) (λ names tags. IsCalleeIn names (call_of c) d × (AreArgsLinked names tags (args_of (out-Call c).args) ns × ⊤))
    → LinksForm a b (call_of c) m
call_made {a} {b} c m d ns is one =
    let seen = call_seen c in
    subst (λ f. LinksForm a b f m) (sym seen)
    (form_made _ m _ is (λ names all. a_call (subst (λ f. IsCalleeIn names f d) seen all.0) all.1.0) one)
