-- The runs of a closure one by one, and what is made of what they give, while they go on.
use Rattle.std.proofs.Common.{◌≡◌, ℕ, suc, pos, Bool, true, false, List, [], ◌∷◌, ◌++◌, length, map, Option, Some, None, option_map, codes, refl, sym, ap, ap₂, ◌∙◌, subst, append_assoc, append-nil, true≢false, if◌then◌else◌}
use Rattle.std.specs.Cmp.Lexicographic.{slice_cmp}
use Rattle.std.specs.Ordering.{match_ordering, nat_cmp, ordering_reverse}
use Rattle.std.specs.Prelude.{⊤, unwrap_or, OnOk}
use Rattle.std.specs.declared.cmp.Ordering.TheVariants.{Less}
use Rattle.std.specs.declared.result.Result.{Result}
use Rattle.std.specs.declared.result.Result.TheVariants.{Ok, Err}
use Rattle.std.proofs.lemmas.Cmp.{nat_list_cmp_total}
use Rattle.vrl_value.specs.Look.{item_at}
use Rattle.vrl_value.specs.Tag.{tag_of}
use Rattle.vrl_value.specs.Tree.{Tree, string, integer, boolean, null, timestamp, regex, array as items, object as members, Items, no_items, item, Members, no_members, member, put, put_all, IsBefore, MembersAreOrdered}
use Rattle.vrl_value.specs.View.{items_of_trees, tree_of}
use Rattle.vrl_value.specs.declared.value.Tag.{Tag}
use Rattle.vrl_value.specs.declared.value.Tag.TheVariants as tag
use Rattle.vrl_value.specs.declared.value.Value.{Value}
use Rattle.vrl_syntax.specs.Calls.{for_names, form_name}
use Rattle.vrl_syntax.specs.declared.call_form.CallForm.TheVariants as form
use Rattle.vrl_syntax.specs.Stores.{Store}
use Rattle.vrl_builtin.specs.Listed.{list_in, trees_in}
use Rattle.vrl_builtin.specs.TagSets.{allows}
use Rattle.vrl_binding.specs.Binding.{collection_parameters, collections}
use Rattle.vrl_store.specs.Operators.{is_true}
use Rattle.vrl_store.specs.Outcomes.{Ended, Outcome, value, error, aborted, returned, banged, deep, ends, on_value, value_then}
use Rattle.vrl_store.specs.Results.{Ends, Gives, Stops}
use Rattle.vrl_store.specs.WellFormed.{AreWellFormed, IsWellFormed, IsWellFormedEnded}
use Rattle.vrl_store.specs.declared.stop.Stop.{Stop}
use Rattle.vrl_store.specs.declared.store.Store.{Store as CodeStore}
use Rattle.vrl_resolve.specs.Calls.{acts, argument_text, first_unfit, items_in, iterated, iteration, made_of, or_others, within_limit, Body}
use Rattle.vrl_resolve.specs.Iterating.{body_in, bound_values, bound_variables, is_body_asked, items_onto, made_fields, made_in, made_items, takes_arrays, Binds, IsFieldHeld, IsItemHeld, TakesField, TakesItem}
use Rattle.vrl_resolve.specs.Iteration.{given_by, kept_items, kept_members, new_members, parts_by_name, parts_from, runs}
use Rattle.vrl_resolve.specs.Laws.{MeaningsStayWellFormed}
use Rattle.vrl_resolve.specs.Linked.{array, linked_of, Linked, parts_of_list, parts_view, Parts}
use Rattle.vrl_resolve.specs.LinkedMeaning.{all_mean, body_means, form_in}
use Rattle.vrl_resolve.specs.Walking.{names_in, setting_in, store_at, AllFitIn, EndsAsked, IsReadyStore, Stays}
use Rattle.vrl_resolve.specs.declared.iteration.Bindings.{Bindings}
use Rattle.vrl_resolve.specs.declared.iteration.Held.{Held}
use Rattle.vrl_resolve.specs.declared.iteration.MadeFields.{MadeFields}
use Rattle.vrl_resolve.specs.declared.node.Loop.{Loop}
use Rattle.vrl_resolve.specs.declared.node.Loop.TheVariants as loops
use Rattle.vrl_resolve.specs.declared.node.Node.{Node}
use Rattle.vrl_resolve.specs.declared.walk.Context.{Context}
use Rattle.vrl_resolve.proofs.Gives.{gives_ends}
use Rattle.vrl_resolve.proofs.IterationKept.{before_kept, before_new, first_item, first_member, names_formed, other_items, other_members}
use Rattle.vrl_resolve.proofs.Walks.{after_stop, after_value, array_ends, partway_next, ready_after, ready_from, stays_here, IsPartway}
use Rattle.vrl_resolve.proofs.WellFormedValues.{number_is, text_is}

-- ---- turns

-- the body is run with each of these in order, and the outcome is what is made of the values that the runs give
abbrev pub turns : Body → List (List Tree) → (List Tree → Outcome) → Store → Ended
turns body [] made store = ends (made []) store
turns body (vs ∷ vss) made store = on_value (body vs store) (λ r after. turns body vss (λ rs. made (r ∷ rs)) after)

then_then : (o : Outcome) (store : Store) (first second : Tree → Store → Ended) → on_value (value_then o store first) second ≡ value_then o store (λ v after. on_value (first v after) second)
then_then (value v) store first second = refl
then_then (error text) store first second = refl
then_then (aborted m) store first second = refl
then_then (returned v) store first second = refl
then_then (banged text) store first second = refl
then_then deep store first second = refl

trees_again : (rs : List Tree) → trees_in (items_of_trees rs) ≡ rs
trees_again [] = refl
trees_again (r ∷ rs) = ap (λ l. r ∷ l) (trees_again rs)

-- what is made behind the last run
runs_are_turns : (body : Body) (vss : List (List Tree)) (rs : List Tree) (made : List Tree → Outcome) (store : Store)
    → on_value (runs body vss rs store) (λ v after. ends (made (list_in v)) after) ≡ turns body vss (λ more. made (rs ++ more)) store
runs_are_turns body [] rs made store = ap (λ l. ends (made l) store) (trees_again rs ∙ sym (append-nil rs))
runs_are_turns body (vs ∷ vss) rs made store =
    let ended = body vs store in
    then_then ended.outcome ended.store (λ r after. runs body vss (rs ++ r ∷ []) after) (λ v after. ends (made (list_in v)) after)
    ∙ (λ i. on_value ended (λ r after.
    (runs_are_turns body vss (rs ++ r ∷ []) made after ∙ (λ j. turns body vss (λ more. made (append_assoc rs (r ∷ []) more j)) after)) i))

-- the same, whatever it is made by
made_so : (body : Body) (vss : List (List Tree)) (made again : List Tree → Outcome) (store : Store) → ((rs : List Tree) → made rs ≡ again rs) → turns body vss made store ≡ turns body vss again store
made_so body vss made again store same = λ i. turns body vss (λ rs. same rs i) store

-- ---- fields that are put behind others

-- the fields of one object behind those of another
abbrev fields_onto : Members → Members → Members
fields_onto no_members ns = ns
fields_onto (member k v ms) ns = member k v (fields_onto ms ns)

onto_more : (ms : Members) (k : List ℕ) (v : Tree) (ns : Members) → fields_onto (fields_onto ms (member k v no_members)) ns ≡ fields_onto ms (member k v ns)
onto_more no_members k v ns = refl
onto_more (member l w ms) k v ns = ap (member l w) (onto_more ms k v ns)

-- the names are in order
abbrev AreSorted : Members → Type 0
AreSorted no_members = ⊤
AreSorted (member k v ms) = IsBefore k ms × AreSorted ms

sorted_names : (ms : Members) → MembersAreOrdered ms → AreSorted ms
sorted_names no_members ordered = tt
sorted_names (member k v ms) ordered = (ordered.0, sorted_names ms ordered.2)

-- each name is before those of the other
abbrev AreBefore : Members → Members → Type 0
AreBefore no_members ns = ⊤
AreBefore (member k v ms) ns = IsBefore k ns × AreBefore ms ns

before_others : (ms : Members) (k : List ℕ) (v : Tree) (ns : Members) → AreBefore ms (member k v ns) → IsBefore k ns → AreBefore (fields_onto ms (member k v no_members)) ns
before_others no_members k v ns are is = (is, tt)
before_others (member l w ms) k v ns are is = (are.0.1, before_others ms k v ns are.1 is)

put_greater : (k l : List ℕ) (v w : Tree) (ms : Members) → slice_cmp nat_cmp l k ≡ Less → put k v (member l w ms) ≡ member l w (put k v ms)
put_greater k l v w ms is =
    ap (λ o. match_ordering o (member k v (member l w ms)) (member l v ms) (member l w (put k v ms))) (nat_list_cmp_total.antisymm k l ∙ ap ordering_reverse is)

put_last : (k : List ℕ) (v : Tree) (ms ns : Members) → AreBefore ms (member k v ns) → put k v ms ≡ fields_onto ms (member k v no_members)
put_last k v no_members ns are = refl
put_last k v (member l w ms) ns are = put_greater k l v w ms are.0.0 ∙ ap (member l w) (put_last k v ms ns are.1)

put_in_order : (ns ms : Members) → AreSorted ns → AreBefore ms ns → put_all ns ms ≡ fields_onto ms ns
put_in_order no_members ms ordered are = sym (onto_none ms) where
  onto_none : (ms : Members) → fields_onto ms no_members ≡ ms
  onto_none no_members = refl
  onto_none (member k v ms) = ap (member k v) (onto_none ms)
put_in_order (member k v ns) ms ordered are =
    ap (put_all ns) (put_last k v ms ns are)
    ∙ put_in_order ns (fields_onto ms (member k v no_members)) ordered.1 (before_others ms k v ns are ordered.0)
    ∙ onto_more ms k v ns

put_on_none : (ns : Members) → AreSorted ns → put_all ns no_members ≡ ns
put_on_none ns ordered = put_in_order ns no_members ordered tt

-- ---- arrays

items_more : (made : List Tree) (t : Tree) (ts : Items) → items_onto (made ++ t ∷ []) ts ≡ items_onto made (item t ts)
items_more [] t ts = refl
items_more (v ∷ made) t ts = ap (item v) (items_more made t ts)

pub items_alone : (made : List Tree) → items_onto made no_items ≡ items_of_trees made
items_alone [] = refl
items_alone (v ∷ made) = ap (item v) (items_alone made)

kept_next : (keep : Bool) (before after : List Tree) (t : Tree) (ts : Items) → after ≡ (if keep then before ++ t ∷ [] else before) → items_onto after ts ≡ items_onto before (if keep then item t ts else ts)
kept_next true before after t ts is = ap (λ vs. items_onto vs ts) is ∙ items_more before t ts
kept_next false before after t ts is = ap (λ vs. items_onto vs ts) is

-- a filter took the value of a run
pub filter_takes : (key part : Option ℕ) (keep : Bool) (r : Tree) (before after : List Tree) (held : Option Value) → keep ≡ is_true r
    → ((t : Tree) → option_map tree_of held ≡ Some t → after ≡ (if keep then before ++ t ∷ [] else before)) → TakesItem (loops.Filter key part) before after held r
filter_takes key part keep r before after held is kept = λ t one ts rs.
    ap (λ all. within_limit (items all)) (kept_next keep before after t (kept_items ts rs) (kept t one) ∙ ap (λ b. items_onto before (if b then item t (kept_items ts rs) else kept_items ts rs)) is)

pub map_takes : (part : Option ℕ) (r : Tree) (before after : List Tree) (held : Option Value) → after ≡ before ++ r ∷ [] → TakesItem (loops.MapValues part) before after held r
map_takes part r before after held is = λ t one ts rs. ap (λ all. within_limit (items (items_of_trees all))) (ap (λ vs. vs ++ rs) is ∙ append_assoc before (r ∷ []) rs)

-- the items that are left, each with its place
abbrev pub given_from : Loop → ℕ → Items → List (List Tree)
given_from f n ts = map (λ p. for_names (form_in f) p.0 p.1) (parts_from n ts)

-- what is left to be run, in the store behind what was run, with what was made so far, is all that there was
pub record IsOverItems (x : Context) (f : Loop) (ns : Parts) (before now : CodeStore) (place : ℕ) (left : Items) (made : List Tree) (whole : Ended) : Type 0 where
  pub so_far : IsPartway x before now (turns (body_in x f ns) (given_from f place left) (made_items f made left) (store_at x now)) whole
  pub formed : IsWellFormed (length (setting_in x).sources) (items left)

no_made : (f : Loop) → takes_arrays f ≡ true → (ts : Items) (rs : List Tree) → made_of (form_in f) (items ts) rs ≡ made_items f [] ts rs
no_made (loops.ForEach key v) takes ts rs = refl
no_made (loops.Filter key v) takes ts rs = refl
no_made (loops.MapValues v) takes ts rs = refl
no_made (loops.MapKeys key) takes ts rs = absurd (true≢false (sym takes))

pub items_begin : (x : Context) (f : Loop) (ns : Parts) (before : CodeStore) (place : ℕ) (all left : Items) (made : List Tree) → takes_arrays f ≡ true → IsReadyStore x before → IsWellFormed (length (setting_in x).sources) (items all)
    → left ≡ all → place ≡ 0 → made ≡ [] → IsOverItems x f ns before before place left made (iterated (form_in f) (body_in x f ns) (items all) None (store_at x before))
items_begin x f ns before place all left made takes ready formed same first none =
    let body = body_in x f ns in
    let whole = iterated (form_in f) body (items all) None (store_at x before) in
    let turned : whole ≡ turns body (given_from f 0 all) (made_items f [] all) (store_at x before) =
    runs_are_turns body (given_by (form_in f) (items all)) [] (made_of (form_in f) (items all)) (store_at x before) ∙ made_so body (given_from f 0 all) (made_of (form_in f) (items all)) (made_items f [] all) (store_at x before) (no_made f takes all) in
    let start : IsOverItems x f ns before before 0 all [] whole = record { so_far = record { same = sym turned; ready = ready; stays = stays_here before }; formed = formed } in
    subst (λ l. IsOverItems x f ns before before place l made whole) (sym same)
    (subst (λ n. IsOverItems x f ns before before n all made whole) (sym first) (subst (λ vs. IsOverItems x f ns before before 0 all vs whole) (sym none) start))

-- what a run for the next item is given
pub item_values : (x : Context) (f : Loop) (ns : Parts) (before now : CodeStore) (place : ℕ) (left rest : Items) (t : Tree) (made : List Tree) (whole : Ended) (b : Bindings) → IsOverItems x f ns before now place left made whole
    → left ≡ item t rest → Binds f (integer (pos place)) t b → AreWellFormed (length (setting_in x).sources) (bound_values b)
item_values x f ns before now place left rest t made whole b so_far is binds =
    let count = length (setting_in x).sources in
    let formed = subst (λ l. IsWellFormed count (items l)) is so_far.formed in
    subst (AreWellFormed count) (sym binds.values) (names_formed count (form_in f) (integer (pos place)) t (number_is count (pos place)) (first_item count t rest formed))

-- the run of a part, as that of its function's names
run_of : (x : Context) (f : Loop) (ns : Parts) (key t : Tree) (b : Bindings) (now : CodeStore) → Binds f key t b
    → body_means (names_in x) (setting_in x) (bound_variables b) ns (bound_values b) (store_at x now) ≡ body_in x f ns (for_names (form_in f) key t) (store_at x now)
run_of x f ns key t b now binds = ap₂ (λ slots vs. body_means (names_in x) (setting_in x) slots ns vs (store_at x now)) binds.variables binds.values

pub run_ready : (law : MeaningsStayWellFormed) (x : Context) (ns : Parts) (b : Bindings) (now after : CodeStore) (o : Outcome) → AllFitIn x ns → AreWellFormed (length (setting_in x).sources) (bound_values b) → IsReadyStore x now → Stays now after
    → body_means (names_in x) (setting_in x) (bound_variables b) ns (bound_values b) (store_at x now) ≡ ends o (store_at x after) → IsReadyStore x after
run_ready law x ns b now after o fits values ready stays is =
    ready_from x now after _ o (law.body (names_in x) (setting_in x) (length (names_in x)) (bound_variables b) ns fits (bound_values b) (store_at x now) values ready.formed) is ready stays

-- the value of a run is one of which something holds; where it isn't asked for, that holds of each
run_gives : (f : Loop) (asked : Bool) (given : Value) (m : Ended) (store : Store) (Holds : Tree → Type 0) → asked ≡ is_body_asked f
    → EndsAsked asked m store (Ok given) → Holds (tree_of given) → (is_body_asked f ≡ false → (v : Tree) → Holds v)
    → (v : Tree) × ((m ≡ ends (value v) store) × Holds v)
run_gives f true given m store Holds is came holds any = (tree_of given, (came, holds))
run_gives f false given m store Holds is came holds any = (came.0, (came.1, any (sym is) came.0))

no_item_made : (f : Loop) → is_body_asked f ≡ false → (made again : List Tree) (t v : Tree) (ts : Items) (rs : List Tree)
    → made_items f again ts rs ≡ made_items f made (item t ts) (v ∷ rs)
no_item_made (loops.ForEach key part) unasked made again t v ts rs = refl
no_item_made (loops.Filter key part) unasked made again t v ts rs = absurd (true≢false unasked)
no_item_made (loops.MapValues part) unasked made again t v ts rs = absurd (true≢false unasked)
no_item_made (loops.MapKeys key) unasked made again t v ts rs = absurd (true≢false unasked)

pub items_turn : (law : MeaningsStayWellFormed) (x : Context) (f : Loop) (ns : Parts) (before now after : CodeStore) (place next : ℕ) (left rest : Items) (t : Tree) (given : Value) (asked : Bool) (made again : List Tree) (whole : Ended) (b : Bindings) (held : Option Value)
    → AllFitIn x ns → IsOverItems x f ns before now place left made whole → left ≡ item t rest → next ≡ suc place → Binds f (integer (pos place)) t b
    → asked ≡ is_body_asked f
    → EndsAsked asked (body_means (names_in x) (setting_in x) (bound_variables b) ns (bound_values b) (store_at x now)) (store_at x after) (Ok given)
    → Stays now after → IsItemHeld f t held → TakesItem f made again held (tree_of given) → IsOverItems x f ns before after next rest again whole
items_turn law x f ns before now after place next left rest t given asked made again whole b held fits so_far is more binds told came stays kept takes =
    let count = length (setting_in x).sources in
    let body = body_in x f ns in
    let m = body_means (names_in x) (setting_in x) (bound_variables b) ns (bound_values b) (store_at x now) in
    let gives = run_gives f asked given m (store_at x after) (λ v. (ts : Items) (rs : List Tree) → made_items f again ts rs ≡ made_items f made (item t ts) (v ∷ rs))
    told came (takes t kept) (λ unasked v. no_item_made f unasked made again t v) in
    let r = gives.0 in
    let ran = gives.1.0 in
    let formed = item_values x f ns before now place left rest t made whole b so_far is binds in
    let here = subst (λ l. IsOverItems x f ns before now place l made whole) is so_far in
    let gave : body (for_names (form_in f) (integer (pos place)) t) (store_at x now) ≡ ends (value r) (store_at x after) = sym (run_of x f ns (integer (pos place)) t b now binds) ∙ ran in
    let step : turns body (given_from f place (item t rest)) (made_items f made (item t rest)) (store_at x now) ≡ turns body (given_from f (suc place) rest) (made_items f again rest) (store_at x after) =
    ap (λ e. on_value e (λ v end. turns body (given_from f (suc place) rest) (λ rs. made_items f made (item t rest) (v ∷ rs)) end)) gave
    ∙ made_so body (given_from f (suc place) rest) (λ rs. made_items f made (item t rest) (r ∷ rs)) (made_items f again rest) (store_at x after) (λ rs. sym (gives.1.1 rest rs)) in
    let end : IsOverItems x f ns before after (suc place) rest again whole = record {
      so_far = partway_next x before now after _ _ whole here.so_far step (run_ready law x ns b now after (value r) fits formed so_far.so_far.ready stays ran) stays;
      formed = other_items count t rest here.formed;
    } in
    subst (λ n. IsOverItems x f ns before after n rest again whole) (sym more) end

pub items_stop : (x : Context) (f : Loop) (ns : Parts) (before now : CodeStore) (place : ℕ) (left rest : Items) (t : Tree) (made : List Tree) (whole : Ended) (b : Bindings) (store : Store) (stop : Stop)
    → IsOverItems x f ns before now place left made whole → left ≡ item t rest → Binds f (integer (pos place)) t b
    → Stops (body_means (names_in x) (setting_in x) (bound_variables b) ns (bound_values b) (store_at x now)) store stop → Stops whole store stop
items_stop x f ns before now place left rest t made whole b store stop so_far is binds ran =
    let body = body_in x f ns in
    let here = subst (λ l. IsOverItems x f ns before now place l made whole) is so_far in
    subst (λ e. Stops e store stop) here.so_far.same
    (after_stop (body (for_names (form_in f) (integer (pos place)) t) (store_at x now)) (λ v end. turns body (given_from f (suc place) rest) (λ rs. made_items f made (item t rest) (v ∷ rs)) end) store stop
    (subst (λ e. Stops e store stop) (run_of x f ns (integer (pos place)) t b now binds) ran))

pub items_end : (x : Context) (f : Loop) (ns : Parts) (before now : CodeStore) (place : ℕ) (left : Items) (made : List Tree) (whole : Ended) → IsOverItems x f ns before now place left made whole → left ≡ no_items
    → whole ≡ ends (made_items f made no_items []) (store_at x now)
items_end x f ns before now place left made whole so_far is = sym (subst (λ l. IsOverItems x f ns before now place l made whole) is so_far).so_far.same

-- ---- objects

abbrev pub given_fields : Loop → Members → List (List Tree)
given_fields f ms = map (λ p. for_names (form_in f) p.0 p.1) (parts_by_name ms)

pub record IsOverFields (x : Context) (f : Loop) (ns : Parts) (before now : CodeStore) (left : Members) (made : List Tree → Outcome) (whole : Ended) : Type 0 where
  pub so_far : IsPartway x before now (turns (body_in x f ns) (given_fields f left) made (store_at x now)) whole
  pub formed : IsWellFormed (length (setting_in x).sources) (members left)

either_sorted : (b : Bool) (k : List ℕ) (v : Tree) (ms : Members) → IsBefore k ms → AreSorted ms → AreSorted (if b then member k v ms else ms)
either_sorted true k v ms before sorted = (before, sorted)
either_sorted false k v ms before sorted = sorted

-- names in order stay so
kept_sorted : (ms : Members) (rs : List Tree) → AreSorted ms → AreSorted (kept_members ms rs)
kept_sorted no_members rs sorted = tt
kept_sorted (member k v ms) [] sorted = tt
kept_sorted (member k v ms) (r ∷ rs) sorted = either_sorted (is_true r) k v (kept_members ms rs) (before_kept k ms rs sorted.0) (kept_sorted ms rs sorted.1)

new_sorted : (ms : Members) (rs : List Tree) → AreSorted ms → AreSorted (new_members ms rs)
new_sorted no_members rs sorted = tt
new_sorted (member k v ms) [] sorted = tt
new_sorted (member k v ms) (r ∷ rs) sorted = (before_new k ms rs sorted.0, new_sorted ms rs sorted.1)

no_field : (f : Loop) (ms : Members) (rs : List Tree) → AreSorted ms → made_of (form_in f) (members ms) rs ≡ made_fields f true no_members ms rs
no_field (loops.ForEach key v) ms rs sorted = refl
no_field (loops.Filter key v) ms rs sorted = ap (λ all. within_limit (members all)) (sym (put_on_none (kept_members ms rs) (kept_sorted ms rs sorted)))
no_field (loops.MapValues v) ms rs sorted = ap (λ all. within_limit (members all)) (sym (put_on_none (new_members ms rs) (new_sorted ms rs sorted)))
no_field (loops.MapKeys key) ms rs sorted = refl

pub fields_begin : (x : Context) (f : Loop) (ns : Parts) (before : CodeStore) (all left made : Members) (named : Bool) → IsReadyStore x before → IsWellFormed (length (setting_in x).sources) (members all)
    → left ≡ all → made ≡ no_members → named ≡ true → IsOverFields x f ns before before left (made_fields f named made left) (iterated (form_in f) (body_in x f ns) (members all) None (store_at x before))
fields_begin x f ns before all left made named ready formed same none is =
    let body = body_in x f ns in
    let whole = iterated (form_in f) body (members all) None (store_at x before) in
    let turned : whole ≡ turns body (given_fields f all) (made_fields f true no_members all) (store_at x before) =
    runs_are_turns body (given_by (form_in f) (members all)) [] (made_of (form_in f) (members all)) (store_at x before)
    ∙ made_so body (given_fields f all) (made_of (form_in f) (members all)) (made_fields f true no_members all) (store_at x before) (λ rs. no_field f all rs (sorted_names all formed.ordered)) in
    let start : IsOverFields x f ns before before all (made_fields f true no_members all) whole = record { so_far = record { same = sym turned; ready = ready; stays = stays_here before }; formed = formed } in
    subst (λ l. IsOverFields x f ns before before l (made_fields f named made l) whole) (sym same)
    (subst (λ b. IsOverFields x f ns before before all (made_fields f b made all) whole) (sym is) (subst (λ ms. IsOverFields x f ns before before all (made_fields f true ms all) whole) (sym none) start))

pub field_values : (x : Context) (f : Loop) (ns : Parts) (before now : CodeStore) (left rest : Members) (k : List ℕ) (t : Tree) (made : List Tree → Outcome) (whole : Ended) (b : Bindings) → IsOverFields x f ns before now left made whole
    → left ≡ member k t rest → Binds f (string k) t b → AreWellFormed (length (setting_in x).sources) (bound_values b)
field_values x f ns before now left rest k t made whole b so_far is binds =
    let count = length (setting_in x).sources in
    let formed = subst (λ l. IsWellFormed count (members l)) is so_far.formed in
    subst (AreWellFormed count) (sym binds.values) (names_formed count (form_in f) (string k) t (text_is count k) (first_member count k t rest formed))

no_field_made : (f : Loop) → is_body_asked f ≡ false → (made again : MadeFields) (k : List ℕ) (t v : Tree) (ms : Members) (rs : List Tree)
    → made_in f again ms rs ≡ made_in f made (member k t ms) (v ∷ rs)
no_field_made (loops.ForEach key part) unasked made again k t v ms rs = refl
no_field_made (loops.Filter key part) unasked made again k t v ms rs = absurd (true≢false unasked)
no_field_made (loops.MapValues part) unasked made again k t v ms rs = absurd (true≢false unasked)
no_field_made (loops.MapKeys key) unasked made again k t v ms rs = absurd (true≢false unasked)

pub fields_turn : (law : MeaningsStayWellFormed) (x : Context) (f : Loop) (ns : Parts) (before now after : CodeStore) (left rest : Members) (k : List ℕ) (t : Tree) (given : Value) (asked : Bool) (made again : MadeFields) (whole : Ended) (b : Bindings) (held : Held)
    → AllFitIn x ns → IsOverFields x f ns before now left (made_in f made left) whole → left ≡ member k t rest → Binds f (string k) t b
    → asked ≡ is_body_asked f
    → EndsAsked asked (body_means (names_in x) (setting_in x) (bound_variables b) ns (bound_values b) (store_at x now)) (store_at x after) (Ok given)
    → Stays now after → IsFieldHeld f k t held → TakesField made again held (tree_of given) → IsOverFields x f ns before after rest (made_in f again rest) whole
fields_turn law x f ns before now after left rest k t given asked made again whole b held fits so_far is binds told came stays kept takes =
    let count = length (setting_in x).sources in
    let body = body_in x f ns in
    let m = body_means (names_in x) (setting_in x) (bound_variables b) ns (bound_values b) (store_at x now) in
    let gives = run_gives f asked given m (store_at x after) (λ v. (ms : Members) (rs : List Tree) → made_in f again ms rs ≡ made_in f made (member k t ms) (v ∷ rs))
    told came (takes f k t kept) (λ unasked v. no_field_made f unasked made again k t v) in
    let r = gives.0 in
    let ran = gives.1.0 in
    let formed = field_values x f ns before now left rest k t (made_in f made left) whole b so_far is binds in
    let here = subst (λ l. IsOverFields x f ns before now l (made_in f made l) whole) is so_far in
    let gave : body (for_names (form_in f) (string k) t) (store_at x now) ≡ ends (value r) (store_at x after) = sym (run_of x f ns (string k) t b now binds) ∙ ran in
    let step : turns body (given_fields f (member k t rest)) (made_in f made (member k t rest)) (store_at x now) ≡ turns body (given_fields f rest) (made_in f again rest) (store_at x after) =
    ap (λ e. on_value e (λ v end. turns body (given_fields f rest) (λ rs. made_in f made (member k t rest) (v ∷ rs)) end)) gave
    ∙ made_so body (given_fields f rest) (λ rs. made_in f made (member k t rest) (r ∷ rs)) (made_in f again rest) (store_at x after) (λ rs. sym (gives.1.1 rest rs)) in
    record {
      so_far = partway_next x before now after _ _ whole here.so_far step (run_ready law x ns b now after (value r) fits formed so_far.so_far.ready stays ran) stays;
      formed = other_members count k t rest here.formed;
    }

pub fields_stop : (x : Context) (f : Loop) (ns : Parts) (before now : CodeStore) (left rest : Members) (k : List ℕ) (t : Tree) (made : List Tree → Outcome) (whole : Ended) (b : Bindings) (store : Store) (stop : Stop)
    → IsOverFields x f ns before now left made whole → left ≡ member k t rest → Binds f (string k) t b
    → Stops (body_means (names_in x) (setting_in x) (bound_variables b) ns (bound_values b) (store_at x now)) store stop → Stops whole store stop
fields_stop x f ns before now left rest k t made whole b store stop so_far is binds ran =
    let body = body_in x f ns in
    let here = subst (λ l. IsOverFields x f ns before now l made whole) is so_far in
    subst (λ e. Stops e store stop) here.so_far.same
    (after_stop (body (for_names (form_in f) (string k) t) (store_at x now)) (λ v end. turns body (given_fields f rest) (λ rs. made (v ∷ rs)) end) store stop
    (subst (λ e. Stops e store stop) (run_of x f ns (string k) t b now binds) ran))

pub fields_end : (x : Context) (f : Loop) (ns : Parts) (before now : CodeStore) (left : Members) (made : MadeFields) (whole : Ended) → IsOverFields x f ns before now left (made_in f made left) whole → left ≡ no_members
    → whole ≡ ends (made_in f made no_members []) (store_at x now)
fields_end x f ns before now left made whole so_far is = sym (subst (λ l. IsOverFields x f ns before now l (made_in f made l) whole) is so_far).so_far.same

-- ---- the collection

-- a call of a function without an argument gives null
pub none_given : (f : Loop) (body : Body) (store : Store) → iterated (form_in f) body null None store ≡ ends (value null) store
none_given (loops.ForEach key v) body store = refl
none_given (loops.Filter key v) body store = refl
none_given (loops.MapValues v) body store = refl
none_given (loops.MapKeys key) body store = refl

pub unfit_is : (f : Loop) (v : Tree) (b : Bool) → allows (collections (form_in f)) (tag_of v) ≡ b → first_unfit 0 (collection_parameters (form_in f)) (Some v ∷ []) ≡ (if b then None else Some (codes "value", tag_of v))
unfit_is f v b is = ap (λ a. or_others (codes "value") (if a then None else Some (tag_of v)) None) is ∙ either b where
  either : (a : Bool) → or_others (codes "value") (if a then None else Some (tag_of v)) None ≡ (if a then None else Some (codes "value", tag_of v))
  either true = refl
  either false = refl

-- each of them refuses the same tags, but that of arrays
plain_refused : (f : Loop) (t : Tag) → allows (collections form.ForEach) t ≡ false → allows (collections form.MapKeys) t ≡ false → allows (collections (form_in f)) t ≡ false
plain_refused (loops.ForEach key v) t first second = first
plain_refused (loops.Filter key v) t first second = first
plain_refused (loops.MapValues v) t first second = first
plain_refused (loops.MapKeys key) t first second = second

abbrev pub is_container : Tree → Bool
is_container (items ts) = true
is_container (members ms) = true
is_container v = false

pub other_is_refused : (f : Loop) (v : Tree) → is_container v ≡ false → allows (collections (form_in f)) (tag_of v) ≡ false
other_is_refused f (string s) is = plain_refused f tag.Text refl refl
other_is_refused f (integer n) is = plain_refused f tag.Int refl refl
other_is_refused f (boolean b) is = plain_refused f tag.Bool refl refl
other_is_refused f null is = plain_refused f tag.Null refl refl
other_is_refused f (timestamp n) is = plain_refused f tag.Time refl refl
other_is_refused f (regex n) is = plain_refused f tag.Pattern refl refl
other_is_refused f (items ts) is = absurd (true≢false is)
other_is_refused f (members ms) is = absurd (true≢false is)

-- all but `map_keys` take arrays, and all take objects
pub arrays_taken : (f : Loop) (ts : Items) → allows (collections (form_in f)) (tag_of (items ts)) ≡ takes_arrays f
arrays_taken (loops.ForEach key v) ts = refl
arrays_taken (loops.Filter key v) ts = refl
arrays_taken (loops.MapValues v) ts = refl
arrays_taken (loops.MapKeys key) ts = refl

pub objects_taken : (f : Loop) (ms : Members) → allows (collections (form_in f)) (tag_of (members ms)) ≡ true
objects_taken (loops.ForEach key v) ms = refl
objects_taken (loops.Filter key v) ms = refl
objects_taken (loops.MapValues v) ms = refl
objects_taken (loops.MapKeys key) ms = refl

pub taken_ends : (f : Loop) (body : Body) (v w : Tree) (store t : Store) (r : Result Value Stop) → w ≡ v → allows (collections (form_in f)) (tag_of w) ≡ true → Ends (iterated (form_in f) body v None store) t r
    → Ends (iterated (form_in f) body w (first_unfit 0 (collection_parameters (form_in f)) (Some w ∷ [])) store) t r
taken_ends f body v w store t r same is ended =
    subst (λ unfit. Ends (iterated (form_in f) body w unfit store) t r) (sym (unfit_is f w true is)) (subst (λ u. Ends (iterated (form_in f) body u None store) t r) (sym same) ended)

pub refused_ends : (f : Loop) (body : Body) (w : Tree) (t : Tag) (store : Store) (r : Result Value Stop) → t ≡ tag_of w → allows (collections (form_in f)) (tag_of w) ≡ false
    → Gives (error (argument_text (form_name (form_in f)) (codes "value") t)) r → Ends (iterated (form_in f) body w (first_unfit 0 (collection_parameters (form_in f)) (Some w ∷ [])) store) store r
refused_ends f body w t store r same is gives =
    let text = argument_text (form_name (form_in f)) (codes "value") in
    subst (λ unfit. Ends (iterated (form_in f) body w unfit store) store r) (sym (unfit_is f w false is))
    (gives_ends (error (text (tag_of w))) store r (subst (λ u. Gives (error (text u)) r) same gives))

-- ---- the arguments of such a call

pub args_ready : (law : MeaningsStayWellFormed) (x : Context) (args : List Node) (before after : CodeStore) (run : List Value) → AllFitIn x (parts_view args) → IsReadyStore x before → Stays before after
    → ((more : List Linked) → all_mean (names_in x) (setting_in x) (parts_of_list (map linked_of args ++ more)) [] (store_at x before) ≡ all_mean (names_in x) (setting_in x) (parts_of_list more) (map tree_of run) (store_at x after))
    → IsReadyStore x after
args_ready law x args before after run fits ready stays all =
    ready_after x before after (array (parts_view args)) (value (items (items_of_trees (map tree_of run)))) law fits (array_ends x (map linked_of args) before after (map tree_of run) all) ready stays

first_formed : (count : ℕ) (vs : List Tree) (v : Tree) → item_at 0 (items_of_trees vs) ≡ Some v → IsWellFormed count (items (items_of_trees vs)) → IsWellFormed count v
first_formed count [] v is formed = cc
first_formed count (u ∷ us) v is formed = let one : u ≡ v = cc in subst (IsWellFormed count) one (first_item count u (items_of_trees us) formed)

pub collection_formed : (law : MeaningsStayWellFormed) (x : Context) (args : List Node) (before after : CodeStore) (run : List Value) (v : Tree) → AllFitIn x (parts_view args) → IsReadyStore x before
    → ((more : List Linked) → all_mean (names_in x) (setting_in x) (parts_of_list (map linked_of args ++ more)) [] (store_at x before) ≡ all_mean (names_in x) (setting_in x) (parts_of_list more) (map tree_of run) (store_at x after))
    → item_at 0 (items_of_trees (map tree_of run)) ≡ Some v → IsWellFormed (length (setting_in x).sources) v
collection_formed law x args before after run v fits ready all is =
    let count = length (setting_in x).sources in
    let whole = law.parts (names_in x) (setting_in x) (length (names_in x)) (parts_view args) [] (store_at x before) fits tt ready.formed in
    let ended = subst (IsWellFormedEnded count) (array_ends x (map linked_of args) before after (map tree_of run) all) whole in
    first_formed count (map tree_of run) v is ended.0

-- what the call comes to behind its arguments
pub iterate_ends : (x : Context) (f : Loop) (body : Body) (args : List Node) (run : List Value) (o : Option Tree) (before after : CodeStore) (t : Store) (r : Result Value Stop)
    → ((more : List Linked) → all_mean (names_in x) (setting_in x) (parts_of_list (map linked_of args ++ more)) [] (store_at x before) ≡ all_mean (names_in x) (setting_in x) (parts_of_list more) (map tree_of run) (store_at x after))
    → item_at 0 (items_of_trees (map tree_of run)) ≡ o
    → Ends (iterated (form_in f) body (unwrap_or o null) (first_unfit 0 (collection_parameters (form_in f)) (o ∷ [])) (store_at x after)) t r
    → Ends (on_value (all_mean (names_in x) (setting_in x) (parts_view args) [] (store_at x before)) (λ vs end. acts (setting_in x) (iteration (form_in f)) body (items_in vs) end)) t r
iterate_ends x f body args run o before after t r all is ended =
    after_value (all_mean (names_in x) (setting_in x) (parts_view args) [] (store_at x before)) (λ vs end. acts (setting_in x) (iteration (form_in f)) body (items_in vs) end)
    (items (items_of_trees (map tree_of run))) (store_at x after) t r (array_ends x (map linked_of args) before after (map tree_of run) all)
    (subst (λ u. Ends (iterated (form_in f) body (unwrap_or u null) (first_unfit 0 (collection_parameters (form_in f)) (u ∷ [])) (store_at x after)) t r) (sym is) ended)

-- ---- results

pub on_ok : {A E : Type 0} (r : Result A E) {P Q : Type 0} → (P → Q) → OnOk r P → OnOk r Q
on_ok (Ok a) follows holds = follows holds
on_ok (Err e) follows holds = tt
