-- Paths with negative places: what a set and a removal at them are at the steps that they stand for.
use Rattle.std.proofs.Common.{◌≡◌, pos, negsuc, Bool, true, false, if◌then◌else◌, List, [], ◌∷◌, Option, Some, None, IfSome, refl, sym, ap, ◌∙◌}
use Rattle.vrl_value.specs.Laws.{ItemsAreLists, MembersAreMaps}
use Rattle.vrl_value.specs.Look.{Step, Found, there, missing, no_place, found_behind, part_at, raw_at}
use Rattle.vrl_value.specs.Parts.{count_of}
use Rattle.vrl_value.specs.Tree.{Tree, array, object, Items}
use Rattle.vrl_path.specs.FromEnd.{front_padded, padded, part_behind, step_in, steps_in}
use Rattle.vrl_path.specs.Laws.{ReadsAreLookUps}
use Rattle.vrl_path.specs.Parts.{part_or_null, replace_part, set_part, tree_or_null, without_part}
use Rattle.vrl_path.specs.Read.{item_if, place_of, signed_part_at, signed_raw_at, tree_found}
use Rattle.vrl_path.specs.Remove.{removable_at}
use Rattle.vrl_path.specs.Steps.{has_negative}
use Rattle.vrl_path.specs.Trees.{if_there, remove_tree, set_tree}
use Rattle.vrl_path.specs.declared.path.Step.{Step as CodeStep}
use Rattle.vrl_path.specs.declared.path.Step.TheVariants.{Field, Place}
use Rattle.vrl_path.proofs.Placed.{part_at-set_part, plain_set_tree, set_part-twice}
use Rattle.vrl_path.proofs.Removed.{plain_remove_tree, replaced_same}
use Rattle.vrl_path.proofs.Sets.{behind}

-- where no place is negative, nothing is padded
padded_plain : (v : Tree) (p : List CodeStep) → has_negative p ≡ false → padded v p ≡ v
padded_plain v [] is = refl
padded_plain v (Field k ∷ p) is = rw is refl
padded_plain v (Place (pos i) ∷ p) is = rw is refl
padded_plain v (Place (negsuc i) ∷ p) is = absurd cc

-- the part behind a step, once the rest of the path is padded
pub part_padded : (maps : MembersAreMaps) (lists : ItemsAreLists) (v : Tree) (s : CodeStep) (p : List CodeStep) (b : Bool) → has_negative p ≡ b
    → part_or_null (if b then set_part (step_in v s) (padded (part_behind v s) p) (front_padded v s) else front_padded v s) (step_in v s) ≡ padded (part_behind v s) p
part_padded maps lists v s p false is = sym (padded_plain (part_behind v s) p is)
part_padded maps lists v s p true is = ap tree_or_null (part_at-set_part maps lists (step_in v s) (padded (part_behind v s) p) (front_padded v s))

padded_once : (maps : MembersAreMaps) (b : Bool) (q : Step) (x t u : Tree) → set_part q t (if b then set_part q x u else u) ≡ set_part q t u
padded_once maps false q x t u = refl
padded_once maps true q x t u = set_part-twice maps q x t u

-- a set is one at the steps that the path stands for, in the padded tree
pub set_padded : (maps : MembersAreMaps) (lists : ItemsAreLists) (v : Tree) (p : List CodeStep) (n : Tree) → set_tree v p n ≡ plain_set_tree (padded v p) (steps_in v p) n
set_padded maps lists v [] n = refl
set_padded maps lists v (s ∷ p) n =
    let q = step_in v s in
    let u = front_padded v s in
    let x = part_behind v s in
    let t = plain_set_tree (padded x p) (steps_in x p) n in
    ap (λ t. set_part q t u) (set_padded maps lists x p n) ∙ sym (padded_once maps (has_negative p) q (padded x p) t u)
    ∙ ap (λ t. set_part q (plain_set_tree t (steps_in x p) n) (padded v (s ∷ p))) (sym (part_padded maps lists v s p (has_negative p) refl))

-- what a step finds stands at the step that it stands for, and nothing is padded for it
record Stands (v : Tree) (s : CodeStep) (u : Tree) : Type 0 where
  padded : front_padded v s ≡ v
  part : part_at v (step_in v s) ≡ there u

stands_at : (ts : Items) (o : Option _) (z : _) (u : Tree) → place_of (count_of ts) z ≡ o → item_if o ts ≡ there u → Stands (array ts) (Place z) u
stands_at ts None z u is found = absurd cc
stands_at ts (Some i) z u is found = record { padded = rw is refl; part = rw is found }

stands : (v : Tree) (s : CodeStep) (u : Tree) → signed_part_at v s ≡ there u → Stands v s u
stands (object ms) (Field k) u found = record { padded = refl; part = found }
stands (array ts) (Place z) u found = stands_at ts (place_of (count_of ts) z) z u refl found
stands v s u found = absurd cc

part_stands : (v : Tree) (s : CodeStep) (u : Tree) → Stands v s u → part_behind v s ≡ u
part_stands v s u is = ap (λ t. part_or_null t (step_in v s)) is.padded ∙ ap tree_or_null is.part

found_at : (f : Found) (v : Tree) (s : CodeStep) (p : List CodeStep) (x : Tree) → signed_part_at v s ≡ f → found_behind f p (λ u. signed_raw_at u p) ≡ there x
    → ((u : Tree) → signed_raw_at u p ≡ there x → raw_at u (steps_in u p) ≡ there x) → raw_at v (steps_in v (s ∷ p)) ≡ there x
found_at (there u) v s p x is found later =
    let at = stands v s u is in
    ap (behind (steps_in (part_behind v s) p)) at.part ∙ ap (λ t. raw_at u (steps_in t p)) (part_stands v s u at) ∙ later u found
found_at missing v s [] x is found later = absurd cc
found_at missing v s (r ∷ p) x is found later = absurd cc
found_at no_place v s p x is found later = absurd cc

-- what a read finds stands at the steps that the path stands for
pub found : (v : Tree) (p : List CodeStep) (x : Tree) → signed_raw_at v p ≡ there x → raw_at v (steps_in v p) ≡ there x
found v [] x is = is
found v (s ∷ p) x is = found_at (signed_part_at v s) v s p x refl is (λ u. found u p x)

found_if_there : (f g : Found) → ((x : Tree) → f ≡ there x → g ≡ there x) → IfSome (tree_found f) (λ u. g ≡ there u)
found_if_there (there u) g stands = stands u refl
found_if_there missing g stands = tt
found_if_there no_place g stands = tt

pub reads_are : ReadsAreLookUps
reads_are t p = found_if_there (signed_raw_at t p) (raw_at t (steps_in t p)) (found t p)

there_of : (f : Found) (x : Tree) → tree_found f ≡ Some x → f ≡ there x
there_of (there u) x is = cc
there_of missing x is = absurd cc
there_of no_place x is = absurd cc

-- what is removed stands at these steps
pub removable_stands : (v : Tree) (p : List CodeStep) (x : Tree) → removable_at v p ≡ Some x → raw_at v (steps_in v p) ≡ there x
removable_stands v [] x is = absurd cc
removable_stands v (s ∷ p) x is = found v (s ∷ p) x (there_of (signed_raw_at v (s ∷ p)) x is)

last_removed : (f : Found) (v : Tree) (s : CodeStep) (x : Tree) → found_behind {S = CodeStep} f [] (λ u. there u) ≡ there x → if_there f (λ u. without_part (step_in v s) v) v ≡ without_part (step_in v s) v
last_removed (there u) v s x is = refl
last_removed missing v s x is = absurd cc
last_removed no_place v s x is = absurd cc

removed_at : (f : Found) (v : Tree) (s r : CodeStep) (p : List CodeStep) (x : Tree) → signed_part_at v s ≡ f → found_behind f (r ∷ p) (λ u. signed_raw_at u (r ∷ p)) ≡ there x
    → ((u : Tree) → signed_raw_at u (r ∷ p) ≡ there x → remove_tree u (r ∷ p) ≡ plain_remove_tree u (steps_in u (r ∷ p)))
    → if_there f (λ u. replace_part (step_in v s) (remove_tree u (r ∷ p)) v) v ≡ plain_remove_tree v (steps_in v (s ∷ r ∷ p))
removed_at (there u) v s r p x is found later =
    let q = step_in v s in
    let at = stands v s u is in
    ap (λ t. replace_part q t v) (later u found ∙ ap (λ t. plain_remove_tree u (steps_in t (r ∷ p))) (sym (part_stands v s u at)))
    ∙ sym (ap (λ f. if_there f (λ t. replace_part q (plain_remove_tree t (steps_in (part_behind v s) (r ∷ p))) v) v) at.part)
removed_at missing v s r p x is found later = absurd cc
removed_at no_place v s r p x is found later = absurd cc

-- a removal is one at these steps
removed_stands : (v : Tree) (p : List CodeStep) (x : Tree) → signed_raw_at v p ≡ there x → remove_tree v p ≡ plain_remove_tree v (steps_in v p)
removed_stands v [] x is = refl
removed_stands v (s ∷ []) x is = last_removed (signed_part_at v s) v s x is
removed_stands v (s ∷ r ∷ p) x is = removed_at (signed_part_at v s) v s r p x refl is (λ u. removed_stands u (r ∷ p) x)

pub remove_plain : (v : Tree) (p : List CodeStep) (x : Tree) → removable_at v p ≡ Some x → remove_tree v p ≡ plain_remove_tree v (steps_in v p)
remove_plain v [] x is = refl
remove_plain v (s ∷ p) x is = removed_stands v (s ∷ p) x (there_of (signed_raw_at v (s ∷ p)) x is)

nothing_last : (f : Found) (v : Tree) (s : CodeStep) → tree_found (found_behind {S = CodeStep} f [] (λ u. there u)) ≡ None → if_there f (λ u. without_part (step_in v s) v) v ≡ v
nothing_last (there u) v s none = absurd cc
nothing_last missing v s none = refl
nothing_last no_place v s none = refl

nothing_at : (f : Found) (v : Tree) (s r : CodeStep) (p : List CodeStep) → signed_part_at v s ≡ f → tree_found (found_behind f (r ∷ p) (λ u. signed_raw_at u (r ∷ p))) ≡ None → ((u : Tree) → removable_at u (r ∷ p) ≡ None → remove_tree u (r ∷ p) ≡ u)
    → if_there f (λ u. replace_part (step_in v s) (remove_tree u (r ∷ p)) v) v ≡ v
nothing_at (there u) v s r p is none later = ap (λ t. replace_part (step_in v s) t v) (later u none) ∙ replaced_same (step_in v s) v u (stands v s u is).part
nothing_at missing v s r p is none later = refl
nothing_at no_place v s r p is none later = refl

-- where there is nothing to remove, nothing changes
pub nothing_removed : (v : Tree) (p : List CodeStep) → removable_at v p ≡ None → remove_tree v p ≡ v
nothing_removed v [] none = refl
nothing_removed v (s ∷ []) none = nothing_last (signed_part_at v s) v s none
nothing_removed v (s ∷ r ∷ p) none = nothing_at (signed_part_at v s) v s r p refl none (λ u e. nothing_removed u (r ∷ p) e)
