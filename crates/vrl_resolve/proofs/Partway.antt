-- What the loops of a linker have linked so far, told by what may still come.
use Rattle.std.proofs.Common.{◌≡◌, ℕ, ◌+◌, ◌≤◌, List, [], ◌∷◌, ◌++◌, length, map, drop, refl, sym, ap, ◌∙◌, subst, drop-drop, arith, rules}
use Rattle.std.proofs.lemmas.List.{map-append}
use Rattle.vrl_value.specs.declared.value.Tag.{Tag}
use Rattle.vrl_syntax.specs.ErrorAssignments.{in_args, in_arms, in_expr, in_exprs, in_pairs}
use Rattle.vrl_syntax.specs.Tree.{Expr, Exprs, exprs, no_exprs, Pairs, pair, no_pairs, Arms, arm, no_arms, Args, arg, no_args}
use Rattle.vrl_diag.specs.declared.diagnostic.Span.{Span}
use Rattle.vrl_syntax.specs.View.{arm_of, expr_of, exprs_of}
use Rattle.vrl_syntax.specs.declared.tree.Arm.{Arm as CodeArm, out-Arm}
use Rattle.vrl_syntax.specs.declared.tree.Form.{the_lemmas}
use Rattle.vrl_store.specs.StoreView.{Names}
use Rattle.vrl_syntax.proofs.PartSizes.{args_size, arms_size, exprs_size, pairs_size}
use Rattle.vrl_resolve.specs.Linked as linked
use Rattle.vrl_resolve.specs.Linked.{arm_of as linked_arm, Linked, Parts, parts, no_parts, linked_of, parts_of_list, pairs_of_list, arms_of_list, ArmTree}
use Rattle.vrl_resolve.specs.Linking.{names_in, AreArgsLinked, AreArmsLinked, AreLinked, ArePairsLinked, IsBeginning, IsLinked, Links, none_linked, one_linked, no_pair, one_pair, no_arm, one_arm, no_argument, one_argument}
use Rattle.vrl_resolve.specs.declared.link.Linker.{Linker}
use Rattle.vrl_resolve.specs.declared.node.Arm.{Arm}
use Rattle.vrl_resolve.specs.declared.node.Node.{Node}
use Rattle.vrl_resolve.proofs.Begins.{begins_behind, begins_itself}
use Rattle.vrl_resolve.proofs.Links.{links_then}

-- ---- of any parts

-- so many error assignments are in the whole, and so many are left
pub record IsPartway (before now : Linker) (whole left : ℕ) (Leads : Names → List Tag → List Tag → Type 0) : Type 0 where
  pub grows : IsBeginning (names_in before) (names_in now)
  pub behind : drop left now.tags.left.now ≡ drop whole before.tags.left.now
  pub leads : (names : Names) → IsBeginning (names_in now) names → Leads names before.tags.left.now now.tags.left.now

-- nothing is linked yet
partway_start : (before : Linker) (whole : ℕ) {Leads : Names → List Tag → List Tag → Type 0} → ((names : Names) (tags : List Tag) → Leads names tags tags) → IsPartway before before whole whole Leads
partway_start before whole leads = record { grows = begins_itself (names_in before); behind = refl; leads = λ names begins. leads names before.tags.left.now }

partway_next : {before now after : Linker} {whole m rest : ℕ} {Leads Follows : Names → List Tag → List Tag → Type 0} {P : Names → List Tag → Type 0}
    → IsPartway before now whole (m + rest) Leads → Links now after m P → ((names : Names) (old new : List Tag) → Leads names old new → P names new → Follows names old (drop m new)) → IsPartway before after whole rest Follows
partway_next {before} {now} {after} {whole} {m} {rest} {Leads} {Follows} so_far one step = record {
  grows = begins_behind (names_in before) (names_in now) (names_in after) so_far.grows one.grows;
  behind = ap (drop rest) one.behind ∙ drop-drop rest m now.tags.left.now ∙ so_far.behind;
  leads = λ names begins.
      let before_it = begins_behind (names_in now) (names_in after) names one.grows begins in
      subst (Follows names before.tags.left.now) (sym one.behind) (step names before.tags.left.now now.tags.left.now (so_far.leads names before_it) (one.so names begins));
}

partway_end : {before now : Linker} {whole : ℕ} {Leads : Names → List Tag → List Tag → Type 0} {Q : Names → List Tag → Type 0} → IsPartway before now whole 0 Leads → ((names : Names) (old new : List Tag) → Leads names old new → Q names old) → Links before now whole Q
partway_end {before} {now} so_far end = record { grows = so_far.grows; behind = so_far.behind; so = λ names begins. end names before.tags.left.now now.tags.left.now (so_far.leads names begins) }

-- ---- what is linked, before what may still come

abbrev pub parts_onto : List Linked → Parts → Parts
parts_onto [] more = more
parts_onto (n ∷ ns) more = parts n (parts_onto ns more)

parts_ended : (ns : List Linked) → parts_onto ns no_parts ≡ parts_of_list ns
parts_ended [] = refl
parts_ended (n ∷ ns) = ap (parts n) (parts_ended ns)

parts_more : (ns : List Linked) (n : Linked) (more : Parts) → parts_onto (ns ++ (n ∷ [])) more ≡ parts_onto ns (parts n more)
parts_more [] n more = refl
parts_more (m ∷ ns) n more = ap (parts m) (parts_more ns n more)

abbrev pub pairs_onto : List (List ℕ × Linked) → linked.Pairs → linked.Pairs
pairs_onto [] more = more
pairs_onto (p ∷ ps) more = linked.pair p.0 p.1 (pairs_onto ps more)

pairs_ended : (ps : List (List ℕ × Linked)) → pairs_onto ps linked.no_pairs ≡ pairs_of_list ps
pairs_ended [] = refl
pairs_ended (p ∷ ps) = ap (linked.pair p.0 p.1) (pairs_ended ps)

pairs_more : (ps : List (List ℕ × Linked)) (p : List ℕ × Linked) (more : linked.Pairs) → pairs_onto (ps ++ (p ∷ [])) more ≡ pairs_onto ps (linked.pair p.0 p.1 more)
pairs_more [] p more = refl
pairs_more (q ∷ ps) p more = ap (linked.pair q.0 q.1) (pairs_more ps p more)

abbrev pub arms_onto : List ArmTree → linked.Arms → linked.Arms
arms_onto [] more = more
arms_onto (a ∷ as_) more = linked.arm a.0 a.1 (arms_onto as_ more)

arms_ended : (as_ : List ArmTree) → arms_onto as_ linked.no_arms ≡ arms_of_list as_
arms_ended [] = refl
arms_ended (a ∷ as_) = ap (linked.arm a.0 a.1) (arms_ended as_)

arms_more : (as_ : List ArmTree) (a : ArmTree) (more : linked.Arms) → arms_onto (as_ ++ (a ∷ [])) more ≡ arms_onto as_ (linked.arm a.0 a.1 more)
arms_more [] a more = refl
arms_more (b ∷ as_) a more = ap (linked.arm b.0 b.1) (arms_more as_ a more)

-- ---- items, and parts of an array

abbrev ItemsLead : Exprs → Exprs → List Linked → Names → List Tag → List Tag → Type 0
ItemsLead whole left ns names old new = (more : Parts) → AreLinked names new left more → AreLinked names old whole (parts_onto ns more)

pub record IsItemsPartway (before now : Linker) (whole left : Exprs) (ns : List Linked) : Type 0 where
  pub linked : IsPartway before now (in_exprs whole) (in_exprs left) (ItemsLead whole left ns)
  pub fewer : exprs_size left ≤ exprs_size whole

pub items_start : (before : Linker) (whole left : Exprs) (ns : List Linked) → left ≡ whole → ns ≡ [] → IsItemsPartway before before whole left ns
items_start before whole left ns same none =
    let first : IsItemsPartway before before whole whole [] = record { linked = partway_start before _ (λ names tags more all. all); fewer = omega arith } in
    subst (λ l. IsItemsPartway before before whole l ns) (sym same) (subst (IsItemsPartway before before whole whole) (sym none) first)

pub items_next : (before now after : Linker) (whole left rest : Exprs) (e : Expr) (ns ms : List Linked) (n : Linked) → left ≡ exprs e rest → ms ≡ ns ++ (n ∷ [])
    → IsItemsPartway before now whole left ns → Links now after (in_expr e) (λ names tags. IsLinked names tags e n) → IsItemsPartway before after whole rest ms
items_next before now after whole left rest e ns ms n is more so_far one =
    let here = subst (λ l. IsItemsPartway before now whole l ns) is so_far in
    let fewer = here.fewer in
    subst (IsItemsPartway before after whole rest) (sym more) (record {
      linked = partway_next {Follows = ItemsLead whole rest (ns ++ (n ∷ []))} here.linked one
          (λ names old new leads first others all. subst (AreLinked names old whole) (sym (parts_more ns n others)) (leads (parts n others) (one_linked first all)));
      fewer = omega (arith, fewer);
    })

pub items_end : (before now : Linker) (whole left : Exprs) (ns : List Linked) → left ≡ no_exprs → IsItemsPartway before now whole left ns → Links before now (in_exprs whole) (λ names tags. AreLinked names tags whole (parts_of_list ns))
items_end before now whole left ns is so_far =
    let here = subst (λ l. IsItemsPartway before now whole l ns) is so_far in
    partway_end here.linked (λ names old new leads. subst (AreLinked names old whole) (parts_ended ns) (leads no_parts none_linked))

-- ---- arguments

abbrev ArgsLead : Args → Args → List Linked → Names → List Tag → List Tag → Type 0
ArgsLead whole left ns names old new = (more : Parts) → AreArgsLinked names new left more → AreArgsLinked names old whole (parts_onto ns more)

pub record IsArgsPartway (before now : Linker) (whole left : Args) (ns : List Linked) : Type 0 where
  pub linked : IsPartway before now (in_args whole) (in_args left) (ArgsLead whole left ns)
  pub fewer : args_size left ≤ args_size whole

pub args_start : (before : Linker) (whole left : Args) (ns : List Linked) → left ≡ whole → ns ≡ [] → IsArgsPartway before before whole left ns
args_start before whole left ns same none =
    let first : IsArgsPartway before before whole whole [] = record { linked = partway_start before _ (λ names tags more all. all); fewer = omega arith } in
    subst (λ l. IsArgsPartway before before whole l ns) (sym same) (subst (IsArgsPartway before before whole whole) (sym none) first)

pub args_next : (before now after : Linker) (whole left rest : Args) (name : _) (span : Span) (e : Expr) (ns ms : List Linked) (n : Linked) → left ≡ arg name span e rest → ms ≡ ns ++ (n ∷ [])
    → IsArgsPartway before now whole left ns → Links now after (in_expr e) (λ names tags. IsLinked names tags e n) → IsArgsPartway before after whole rest ms
args_next before now after whole left rest name span e ns ms n is more so_far one =
    let here = subst (λ l. IsArgsPartway before now whole l ns) is so_far in
    let fewer = here.fewer in
    subst (IsArgsPartway before after whole rest) (sym more) (record {
      linked = partway_next {Follows = ArgsLead whole rest (ns ++ (n ∷ []))} here.linked one
          (λ names old new leads first others all. subst (AreArgsLinked names old whole) (sym (parts_more ns n others)) (leads (parts n others) (one_argument first all)));
      fewer = omega (arith, fewer);
    })

pub args_end : (before now : Linker) (whole left : Args) (ns : List Linked) → left ≡ no_args → IsArgsPartway before now whole left ns → Links before now (in_args whole) (λ names tags. AreArgsLinked names tags whole (parts_of_list ns))
args_end before now whole left ns is so_far =
    let here = subst (λ l. IsArgsPartway before now whole l ns) is so_far in
    partway_end here.linked (λ names old new leads. subst (AreArgsLinked names old whole) (parts_ended ns) (leads no_parts no_argument))

-- ---- objects

abbrev ObjectLeads : Pairs → Pairs → List (List ℕ × Linked) → Names → List Tag → List Tag → Type 0
ObjectLeads whole left ps names old new = (more : linked.Pairs) → ArePairsLinked names new left more → ArePairsLinked names old whole (pairs_onto ps more)

pub record IsObjectPartway (before now : Linker) (whole left : Pairs) (ps : List (List ℕ × Linked)) : Type 0 where
  pub linked : IsPartway before now (in_pairs whole) (in_pairs left) (ObjectLeads whole left ps)
  pub fewer : pairs_size left ≤ pairs_size whole

pub object_start : (before : Linker) (whole left : Pairs) (ns : List (List ℕ × Linked)) → left ≡ whole → ns ≡ [] → IsObjectPartway before before whole left ns
object_start before whole left ns same none =
    let first : IsObjectPartway before before whole whole [] = record { linked = partway_start before _ (λ names tags more all. all); fewer = omega arith } in
    subst (λ l. IsObjectPartway before before whole l ns) (sym same) (subst (IsObjectPartway before before whole whole) (sym none) first)

pub object_next : (before now after : Linker) (whole left rest : Pairs) (key : List ℕ) (e : Expr) (ps qs : List (List ℕ × Linked)) (n : Linked) → left ≡ pair key e rest → qs ≡ ps ++ ((key, n) ∷ [])
    → IsObjectPartway before now whole left ps → Links now after (in_expr e) (λ names tags. IsLinked names tags e n) → IsObjectPartway before after whole rest qs
object_next before now after whole left rest key e ps qs n is more so_far one =
    let here = subst (λ l. IsObjectPartway before now whole l ps) is so_far in
    let fewer = here.fewer in
    subst (IsObjectPartway before after whole rest) (sym more) (record {
      linked = partway_next {Follows = ObjectLeads whole rest (ps ++ ((key, n) ∷ []))} here.linked one
          (λ names old new leads first others all. subst (ArePairsLinked names old whole) (sym (pairs_more ps (key, n) others)) (leads (linked.pair key n others) (one_pair first all)));
      fewer = omega (arith, fewer);
    })

pub object_end : (before now : Linker) (whole left : Pairs) (ps : List (List ℕ × Linked)) → left ≡ no_pairs → IsObjectPartway before now whole left ps → Links before now (in_pairs whole) (λ names tags. ArePairsLinked names tags whole (pairs_of_list ps))
object_end before now whole left ps is so_far =
    let here = subst (λ l. IsObjectPartway before now whole l ps) is so_far in
    partway_end here.linked (λ names old new leads. subst (ArePairsLinked names old whole) (pairs_ended ps) (leads linked.no_pairs no_pair))

-- ---- arms

abbrev ArmsLead : Arms → Arms → List ArmTree → Names → List Tag → List Tag → Type 0
ArmsLead whole left as_ names old new = (more : linked.Arms) → AreArmsLinked names new left more → AreArmsLinked names old whole (arms_onto as_ more)

pub record IsArmsPartway (before now : Linker) (whole left : Arms) (as_ : List ArmTree) : Type 0 where
  pub linked : IsPartway before now (in_arms whole) (in_arms left) (ArmsLead whole left as_)
  pub fewer : arms_size left ≤ arms_size whole

pub arms_start : (before : Linker) (whole left : Arms) (ns : List ArmTree) → left ≡ whole → ns ≡ [] → IsArmsPartway before before whole left ns
arms_start before whole left ns same none =
    let first : IsArmsPartway before before whole whole [] = record { linked = partway_start before _ (λ names tags more all. all); fewer = omega arith } in
    subst (λ l. IsArmsPartway before before whole l ns) (sym same) (subst (IsArmsPartway before before whole whole) (sym none) first)

pub arms_next : (before now middle after : Linker) (whole left rest : Arms) (predicate : Expr) (es : Exprs) (as_ bs : List ArmTree) (last : ArmTree) (n : Linked) (ns : Parts) → left ≡ arm predicate es rest → bs ≡ as_ ++ (last ∷ []) → last ≡ (n, ns)
    → IsArmsPartway before now whole left as_ → Links now middle (in_expr predicate) (λ names tags. IsLinked names tags predicate n)
    → Links middle after (in_exprs es) (λ names tags. AreLinked names tags es ns) → IsArmsPartway before after whole rest bs
arms_next before now middle after whole left rest predicate es as_ bs last n ns is pushed last_is so_far one two =
    let more : bs ≡ as_ ++ ((n, ns) ∷ []) = pushed ∙ ap (λ a. as_ ++ (a ∷ [])) last_is in
    let here = subst (λ l. IsArmsPartway before now whole l as_) is so_far in
    let fewer = here.fewer in
    let counted : in_expr predicate + (in_exprs es + in_arms rest) ≡ in_expr predicate + in_exprs es + in_arms rest = omega arith in
    let so = subst (λ k. IsPartway before now (in_arms whole) k (ArmsLead whole (arm predicate es rest) as_)) counted here.linked in
    subst (IsArmsPartway before after whole rest) (sym more) (record {
      linked = partway_next {Follows = ArmsLead whole rest (as_ ++ ((n, ns) ∷ []))} so (links_then one two)
          (λ names old new leads both others all.
          let behind_both = subst (λ tags. AreArmsLinked names tags rest others) (sym (drop-drop (in_exprs es) (in_expr predicate) new)) all in
          subst (AreArmsLinked names old whole) (sym (arms_more as_ (n, ns) others)) (leads (linked.arm n ns others) (one_arm both.0 both.1 behind_both)));
      fewer = omega (arith, fewer);
    })

pub arms_end : (before now : Linker) (whole left : Arms) (as_ : List ArmTree) → left ≡ no_arms → IsArmsPartway before now whole left as_ → Links before now (in_arms whole) (λ names tags. AreArmsLinked names tags whole (arms_of_list as_))
arms_end before now whole left as_ is so_far =
    let here = subst (λ l. IsArmsPartway before now whole l as_) is so_far in
    partway_end here.linked (λ names old new leads. subst (AreArmsLinked names old whole) (arms_ended as_) (leads linked.no_arms no_arm))

-- ---- what is left to be taken out

pub one_gone : {A : Type 0} (all rest : List A) (x : A) (before after : ℕ) → all ≡ x ∷ rest → after + 1 ≡ before → before ≡ length all → after ≡ length rest
one_gone all rest x before after is gone counted = let whole : length all ≡ length (x ∷ rest) = ap length is in omega (arith, gone, counted, whole)

pub none_left : {A : Type 0} (left : List A) (count : ℕ) → count ≡ length left → count ≡ 0 → left ≡ []
none_left [] count counted none = refl
none_left (x ∷ left) count counted none = absurd (omega (arith, counted, none))

-- ---- what is seen in memory

pub predicate_seen : (a : CodeArm) → (arm_of a).0 ≡ expr_of (out-Arm a).predicate
predicate_seen a = search (rules, the_lemmas)

pub body_seen : (a : CodeArm) → (arm_of a).1 ≡ exprs_of (out-Arm a).body
body_seen a = search (rules, the_lemmas)

-- one more node, and one more arm
pub nodes_pushed : (old new : List Node) (n : Node) → new ≡ old ++ (n ∷ []) → map linked_of new ≡ map linked_of old ++ (linked_of n ∷ [])
nodes_pushed old new n is = ap (map linked_of) is ∙ map-append linked_of old (n ∷ [])

pub arms_pushed : (old new : List Arm) (a : Arm) → new ≡ old ++ (a ∷ []) → map linked_arm new ≡ map linked_arm old ++ (linked_arm a ∷ [])
arms_pushed old new a is = ap (map linked_arm) is ∙ map-append linked_arm old (a ∷ [])

abbrev pub pair_in : List ℕ × Node → List ℕ × Linked
pair_in p = (p.0, linked_of p.1)

-- one more pair
pub pairs_pushed : (old new : List (List ℕ × Node)) (name : List ℕ) (n : Node) → new ≡ old ++ ((name, n) ∷ []) → map pair_in new ≡ map pair_in old ++ ((name, linked_of n) ∷ [])
pairs_pushed old new name n is = ap (map pair_in) is ∙ map-append pair_in old ((name, n) ∷ [])
