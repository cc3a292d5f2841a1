-- What linking makes of the parts of a script, told of the names that the variables have in the
-- end.
--
-- Each part has its own tags of empty values in front of those left.
use Rattle.std.specs.Prelude.{◌≡◌, ℕ, Bool, true, false, List, [], ◌∷◌, ◌++◌, length, drop, map, Option, Some, None, bytes_eq, codes, if◌then◌else◌, ⊤}
use Rattle.std.specs.String.{string_bytes}
use Rattle.vrl_value.specs.Tree.{Tree, IsOrdered}
use Rattle.vrl_value.specs.declared.value.Tag.{Tag}
use Rattle.vrl_path.specs.declared.path.Step.{Step}
use Rattle.vrl_diag.specs.declared.diagnostic.Span.{Span}
use Rattle.vrl_syntax.specs.Calls.{form_named, has_shape, is_closure_form, path_of}
use Rattle.vrl_syntax.specs.ErrorAssignments.{behind, behind_all, behind_args, behind_arms, first_tag, in_form, other_tags}
use Rattle.vrl_syntax.specs.Tree.{Expr, expr, Form, literal, array, object, read, query, group, block, conditional, negation, binary, assign, merge, both, call, return_of, abort_with, Exprs, no_exprs, exprs, Pairs, no_pairs, pair, Arms, no_arms, arm, Else, no_else, else_block, Args, no_args, arg, Closure, no_closure, closure, no_message, message}
use Rattle.vrl_syntax.specs.declared.root.Op.{Op}
use Rattle.vrl_syntax.specs.declared.call_form.CallForm.{CallForm}
use Rattle.vrl_syntax.specs.declared.root.Root.{Root}
use Rattle.vrl_syntax.specs.declared.root.Root.TheVariants.{Name}
use Rattle.vrl_syntax.specs.declared.root.Target.{Target}
use Rattle.vrl_syntax.specs.declared.root.Target.TheVariants as target
use Rattle.vrl_table.specs.declared.function.Fun.{Fun}
use Rattle.vrl_store.specs.StoreView.{root_of, IsKnown, Names}
use Rattle.vrl_store.specs.declared.target_path.Base.{Base}
use Rattle.vrl_store.specs.declared.target_path.Base.TheVariants as base
use Rattle.vrl_store.specs.declared.target_path.TargetPath.{TargetPath}
use Rattle.vrl_resolve.specs.Calls as called
use Rattle.vrl_resolve.specs.Calls.{callee_of, closure_callee}
use Rattle.vrl_resolve.specs.Linked as linked
use Rattle.vrl_resolve.specs.Linked.{Linked, Parts}
use Rattle.vrl_resolve.specs.LinkedMeaning.{callee_in, form_in, slots_in}
use Rattle.vrl_resolve.specs.declared.link.Linker.{Linker}
use Rattle.vrl_resolve.specs.declared.node.Callee.{Callee}
use Rattle.vrl_resolve.specs.declared.node.Callee.TheVariants as callee
use Rattle.vrl_resolve.specs.declared.node.Loop.{Loop}

-- ---- places and callees

-- the base stands for the root
pub record IsBaseOf (names : Names) (root : Root) (base : Base) : Type 0 where
  pub known : IsKnown (length names) base
  pub same : root_of names base ≡ root

pub record IsTargetPathOf (names : Names) (root : Root) (path : List Step) (place : TargetPath) : Type 0 where
  pub begins : IsBaseOf names root place.base
  pub steps : place.path ≡ path

abbrev pub IsTargetOf : Names → Target → Option TargetPath → Type 0
IsTargetOf names target.Nowhere None = ⊤
IsTargetOf names (target.Place span root path) (Some place) = IsTargetPathOf names root path place
IsTargetOf names t place = ⊥

abbrev pub IsKnownCallee : ℕ → Callee → Type 0
IsKnownCallee count (callee.Deletion place) = IsKnown count place.base
IsKnownCallee count (callee.Existence place) = IsKnown count place.base
IsKnownCallee count other = ⊤

-- it is what the text of a call calls
pub record IsCalleeOf (names : Names) (name : List ℕ) (gs : Args) (c : Closure) (d : Callee) : Type 0 where
  pub known : IsKnownCallee (length names) d
  pub same : callee_in names d ≡ callee_of name gs c

-- the variable of a name of a closure; none of `_`
abbrev pub IsSlotOf : Names → List ℕ → Option ℕ → Type 0
IsSlotOf names x None = bytes_eq x (codes "_") ≡ true
IsSlotOf names x (Some number) = (bytes_eq x (codes "_") ≡ false) × IsBaseOf names (Name x) (base.Variable number)

abbrev pub AreSlotsOf : Names → List (List ℕ) → List (Option ℕ) → Type 0
AreSlotsOf names [] [] = ⊤
AreSlotsOf names [] (slot ∷ slots) = ⊥
AreSlotsOf names (x ∷ xs) [] = ⊥
AreSlotsOf names (x ∷ xs) (slot ∷ slots) = IsSlotOf names x slot × AreSlotsOf names xs slots

-- ---- expressions

mutual
  pub data IsLinked (names : Names) : List Tag → Expr → Linked → Type 0 where
    stands : {tags : List Tag} {span : Span} {f : Form} {n : Linked}
        → IsLinkedForm names tags f n
        → IsLinked names tags (expr span f) n

  pub data IsLinkedForm (names : Names) : List Tag → Form → Linked → Type 0 where
    a_literal : {tags : List Tag} {v : Tree}
        → IsOrdered v
        → IsLinkedForm names tags (literal v) (linked.literal v)
    an_array : {tags : List Tag} {es : Exprs} {ns : Parts}
        → AreLinked names tags es ns
        → IsLinkedForm names tags (array es) (linked.array ns)
    an_object : {tags : List Tag} {ps : Pairs} {qs : linked.Pairs}
        → ArePairsLinked names tags ps qs
        → IsLinkedForm names tags (object ps) (linked.object qs)
    a_read : {tags : List Tag} {root : Root} {path : List Step} {place : TargetPath}
        → IsTargetPathOf names root path place
        → IsLinkedForm names tags (read root path) (linked.read place)
    a_query : {tags : List Tag} {e : Expr} {path : List Step} {n : Linked}
        → IsLinked names tags e n
        → IsLinkedForm names tags (query e path) (linked.query n path)
    a_group : {tags : List Tag} {e : Expr} {n : Linked}
        → IsLinked names tags e n
        → IsLinkedForm names tags (group e) n
    a_block : {tags : List Tag} {es : Exprs} {ns : Parts}
        → AreLinked names tags es ns
        → IsLinkedForm names tags (block es) (linked.block ns)
    a_conditional : {tags : List Tag} {gs : Arms} {es : Else} {as_ : linked.Arms} {otherwise : linked.Else}
        → AreArmsLinked names tags gs as_ → IsElseLinked names (behind_arms gs tags) es otherwise
        → IsLinkedForm names tags (conditional gs es) (linked.conditional as_ otherwise)
    a_negation : {tags : List Tag} {e : Expr} {n : Linked}
        → IsLinked names tags e n
        → IsLinkedForm names tags (negation e) (linked.negation n)
    a_binary : {tags : List Tag} {o : Op} {l r : Expr} {m n : Linked}
        → IsLinked names tags l m → IsLinked names (behind l tags) r n
        → IsLinkedForm names tags (binary o l r) (linked.binary o m n)
    an_assignment : {tags : List Tag} {t : Target} {e : Expr} {place : Option TargetPath} {n : Linked}
        → IsTargetOf names t place → IsLinked names tags e n
        → IsLinkedForm names tags (assign t e) (linked.assign place n)
    a_merge : {tags : List Tag} {t : Target} {e : Expr} {place : Option TargetPath} {n : Linked}
        → IsTargetOf names t place → IsLinked names tags e n
        → IsLinkedForm names tags (merge t e) (linked.merge place n)
    an_error_assignment : {tags : List Tag} {t u : Target} {e : Expr} {ok err : Option TargetPath} {n : Linked}
        → IsTargetOf names t ok → IsTargetOf names u err → IsLinked names (other_tags tags) e n
        → IsLinkedForm names tags (both t u e) (linked.both ok err (first_tag tags) n)
    a_call : {tags : List Tag} {name : List ℕ} {span : Span} {bang : Bool} {gs : Args} {c : Closure} {d : Callee}
        {ns : Parts}
        → IsCalleeOf names name gs c d → AreArgsLinked names tags gs ns
        → IsLinkedForm names tags (call name span bang gs c) (linked.call d bang ns)
    an_iteration : {tags : List Tag} {name : List ℕ} {span : Span} {bang : Bool} {gs : Args} {xs : List (List ℕ)}
        {es : Exprs} {at : Span} {f : Loop} {ns body : Parts}
        → callee_of name gs (closure xs es at) ≡ called.iteration (form_in f) → AreSlotsOf names xs (slots_in f)
        → AreArgsLinked names tags gs ns → AreLinked names (behind_args gs tags) es body
        → IsLinkedForm names tags (call name span bang gs (closure xs es at)) (linked.iterate f bang ns body)
    a_return : {tags : List Tag} {e : Expr} {n : Linked}
        → IsLinked names tags e n
        → IsLinkedForm names tags (return_of e) (linked.return_of n)
    a_bare_abort : {tags : List Tag}
        → IsLinkedForm names tags (abort_with no_message) (linked.abort_with linked.no_message)
    an_abort : {tags : List Tag} {e : Expr} {n : Linked}
        → IsLinked names tags e n
        → IsLinkedForm names tags (abort_with (message e)) (linked.abort_with (linked.message n))

  pub data AreLinked (names : Names) : List Tag → Exprs → Parts → Type 0 where
    none_linked : {tags : List Tag} → AreLinked names tags no_exprs linked.no_parts
    one_linked : {tags : List Tag} {e : Expr} {es : Exprs} {n : Linked} {ns : Parts}
        → IsLinked names tags e n → AreLinked names (behind e tags) es ns
        → AreLinked names tags (exprs e es) (linked.parts n ns)

  pub data ArePairsLinked (names : Names) : List Tag → Pairs → linked.Pairs → Type 0 where
    no_pair : {tags : List Tag} → ArePairsLinked names tags no_pairs linked.no_pairs
    one_pair : {tags : List Tag} {key : List ℕ} {e : Expr} {ps : Pairs} {n : Linked} {qs : linked.Pairs}
        → IsLinked names tags e n → ArePairsLinked names (behind e tags) ps qs
        → ArePairsLinked names tags (pair key e ps) (linked.pair key n qs)

  pub data AreArmsLinked (names : Names) : List Tag → Arms → linked.Arms → Type 0 where
    no_arm : {tags : List Tag} → AreArmsLinked names tags no_arms linked.no_arms
    one_arm : {tags : List Tag} {predicate : Expr} {es : Exprs} {gs : Arms} {n : Linked} {ns : Parts}
        {as_ : linked.Arms}
        → IsLinked names tags predicate n → AreLinked names (behind predicate tags) es ns
        → AreArmsLinked names (behind_all es (behind predicate tags)) gs as_
        → AreArmsLinked names tags (arm predicate es gs) (linked.arm n ns as_)

  pub data IsElseLinked (names : Names) : List Tag → Else → linked.Else → Type 0 where
    no_last : {tags : List Tag} → IsElseLinked names tags no_else linked.no_else
    a_last : {tags : List Tag} {es : Exprs} {ns : Parts}
        → AreLinked names tags es ns
        → IsElseLinked names tags (else_block es) (linked.else_block ns)

  pub data AreArgsLinked (names : Names) : List Tag → Args → Parts → Type 0 where
    no_argument : {tags : List Tag} → AreArgsLinked names tags no_args linked.no_parts
    one_argument : {tags : List Tag} {name : Option (List ℕ)} {span : Span} {e : Expr} {gs : Args} {n : Linked}
        {ns : Parts}
        → IsLinked names tags e n → AreArgsLinked names (behind e tags) gs ns
        → AreArgsLinked names tags (arg name span e gs) (linked.parts n ns)

-- ---- what the calls of a linker say of it

-- the names that it knows, in the order of their numbers
abbrev pub names_in : Linker → Names
names_in l = map string_bytes l.names.keys

-- the names that there were come first
abbrev pub IsBeginning : Names → Names → Type 0
IsBeginning names known = (more : Names) × (known ≡ names ++ more)

-- it knows more names, and has so many tags less; and so it is of the names in the end, and of the
-- tags that it had
pub record Links (before after : Linker) (count : ℕ) (So : Names → List Tag → Type 0) : Type 0 where
  pub grows : IsBeginning (names_in before) (names_in after)
  pub behind : after.tags.left.now ≡ drop count before.tags.left.now
  pub so : (names : Names) → IsBeginning (names_in after) names → So names before.tags.left.now

-- the same where it takes no tags
pub record Numbers (before after : Linker) (So : Names → Type 0) : Type 0 where
  pub grows : IsBeginning (names_in before) (names_in after)
  pub tags : after.tags.left.now ≡ before.tags.left.now
  pub so : (names : Names) → IsBeginning (names_in after) names → So names

abbrev pub LinksForm : Linker → Linker → Form → Linked → Type 0
LinksForm before after f n = Links before after (in_form f) (λ names tags. IsLinkedForm names tags f n)

-- what a call in memory calls
abbrev pub IsCalleeIn : Names → Form → Callee → Type 0
IsCalleeIn names (call name span bang gs c) d = IsCalleeOf names name gs c d
IsCalleeIn names f d = ⊥

-- ---- the closure of a call

-- the form that runs it; none where nothing does
abbrev pub IsRunBy : Option CallForm → List (List ℕ) → Args → Option CallForm → Type 0
IsRunBy named xs gs None = closure_callee named xs gs ≡ called.nothing_called
IsRunBy named xs gs (Some f) =
    (closure_callee named xs gs ≡ called.iteration f) × ((is_closure_form (Some f) ≡ true) × (has_shape f xs ≡ true))

-- the function of that form, with the variables of the closure's names
pub record IsLoopOf (names : Names) (f : CallForm) (xs : List (List ℕ)) (function : Loop) : Type 0 where
  pub form : form_in function ≡ f
  pub slots : AreSlotsOf names xs (slots_in function)

-- what runs a closure with such names, in a call of a name with such arguments
abbrev pub IsLoopBy : Names → List ℕ → List (List ℕ) → Args → Option Loop → Type 0
IsLoopBy names name xs gs None = closure_callee (form_named name) xs gs ≡ called.nothing_called
IsLoopBy names name xs gs (Some f) =
    (closure_callee (form_named name) xs gs ≡ called.iteration (form_in f)) × AreSlotsOf names xs (slots_in f)

-- what a call in memory runs its closure by
abbrev pub IsLoopIn : Names → Form → Option Loop → Type 0
IsLoopIn names (call name span bang gs (closure xs es at)) o = IsLoopBy names name xs gs o
IsLoopIn names (call name span bang gs no_closure) None = ⊤
IsLoopIn names (call name span bang gs no_closure) (Some f) = ⊥
IsLoopIn names f o = ⊥

-- the items of a closure, where there is one
abbrev pub IsBodyLinked : Names → List Tag → Closure → Parts → Type 0
IsBodyLinked names tags no_closure ns = ⊤
IsBodyLinked names tags (closure xs es at) ns = AreLinked names tags es ns

-- ---- the arguments of a call

-- the one argument of `del` and `exists`, where it is a path or a name
abbrev pub is_value_keyword : Option (List ℕ) → Bool
is_value_keyword None = true
is_value_keyword (Some keyword) = bytes_eq keyword (codes "value")

abbrev pub path_argument : Args → Option (Root × List Step)
path_argument (arg name span e no_args) = if is_value_keyword name then path_of e else None
path_argument gs = None

abbrev pub path_called : (Root → List Step → called.Callee) → Option (Root × List Step) → called.Callee
path_called make None = called.nothing_called
path_called make (Some p) = make p.0 p.1

-- what `del` and `exists` call
pub record IsPathCallee (names : Names) (make : Root → List Step → called.Callee) (gs : Args)
    (d : Callee) : Type 0 where
  pub known : IsKnownCallee (length names) d
  pub same : callee_in names d ≡ path_called make (path_argument gs)

-- what a name with arguments calls, of the functions of the table
pub record IsFunctionCallee (function : Option Fun) (gs : Args) (d : Callee) : Type 0 where
  pub known : (count : ℕ) → IsKnownCallee count d
  pub same : (names : Names) → callee_in names d ≡ called.named_function function gs

-- a function with arguments at these places
pub record IsWrittenCallee (function : Fun) (gs : Args) (places : List (Option ℕ)) (d : Callee) : Type 0 where
  pub known : (count : ℕ) → IsKnownCallee count d
  pub same : (names : Names) → callee_in names d ≡ called.written_function function (called.values_of gs) places
