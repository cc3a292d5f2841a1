-- What is made of a field and of the value that its run gave.
use Rattle.std.proofs.Common.{◌≡◌, ℕ, Bool, true, false, List, [], ◌∷◌, Option, None, option_map, refl, sym, ap, ap₂, ◌∙◌, true≢false, if◌then◌else◌}
use Rattle.vrl_value.specs.Tree.{Tree, string, integer, boolean, null, timestamp, regex, array as items, object as members, Members, member, put, put_all}
use Rattle.vrl_value.specs.View.{members_of, tree_of}
use Rattle.vrl_value.specs.declared.value.Value.{Value}
use Rattle.vrl_store.specs.Operators.{is_true}
use Rattle.vrl_store.specs.Outcomes.{error}
use Rattle.vrl_resolve.specs.Calls.{renamed_or_else, within_limit}
use Rattle.vrl_resolve.specs.Iterating.{made_fields, made_in, TakesField, TakesName}
use Rattle.vrl_resolve.specs.Iteration.{kept_members, new_members, renamed}
use Rattle.vrl_resolve.specs.declared.iteration.Held.TheVariants as held
use Rattle.vrl_resolve.specs.declared.iteration.MadeFields.{MadeFields}
use Rattle.vrl_resolve.specs.declared.node.Loop.TheVariants as loops

-- nothing is kept
pub nothing_kept : (made : MadeFields) (r : Tree) → TakesField made made held.Nothing r
nothing_kept made r (loops.ForEach key v) k t kept ms rs = refl
nothing_kept made r (loops.Filter key v) k t kept ms rs = absurd kept
nothing_kept made r (loops.MapValues v) k t kept ms rs = absurd kept
nothing_kept made r (loops.MapKeys key) k t kept ms rs = absurd kept

put_next : (keep : Bool) (k : List ℕ) (t : Tree) (before after kept : Members) → after ≡ (if keep then put k t before else before) → put_all kept after ≡ put_all (if keep then member k t kept else kept) before
put_next true k t before after kept is = ap (put_all kept) is
put_next false k t before after kept is = ap (put_all kept) is

-- a filter keeps the field
pub field_kept : (name : List ℕ) (part : Value) (keep : Bool) (r : Tree) (before after : MadeFields) → keep ≡ is_true r
    → members_of after.fields ≡ (if keep then put name (tree_of part) (members_of before.fields) else members_of before.fields) → TakesField before after (held.Field name part) r
field_kept name part keep r before after is made (loops.ForEach key v) k t kept ms rs = absurd kept
field_kept name part keep r before after is made (loops.Filter key v) k t kept ms rs =
    let fields = members_of before.fields in
    let so : members_of after.fields ≡ (if keep then put k t fields else fields) = made ∙ ap₂ (λ n w. if keep then put n w fields else fields) kept.0 kept.1 in
    ap (λ all. within_limit (members all)) (put_next keep k t fields (members_of after.fields) (kept_members ms rs) so ∙ ap (λ b. put_all (if b then member k t (kept_members ms rs) else kept_members ms rs) fields) is)
field_kept name part keep r before after is made (loops.MapValues v) k t kept ms rs = absurd kept
field_kept name part keep r before after is made (loops.MapKeys key) k t kept ms rs = absurd kept

-- its name gets another value
pub name_kept : (name : List ℕ) (r : Tree) (before after : MadeFields) → members_of after.fields ≡ put name r (members_of before.fields) → TakesField before after (held.Name name) r
name_kept name r before after made (loops.ForEach key v) k t kept ms rs = absurd kept
name_kept name r before after made (loops.Filter key v) k t kept ms rs = absurd kept
name_kept name r before after made (loops.MapValues v) k t kept ms rs =
    ap (λ all. within_limit (members (put_all (new_members ms rs) all))) (made ∙ ap (λ n. put n r (members_of before.fields)) kept)
name_kept name r before after made (loops.MapKeys key) k t kept ms rs = absurd kept

-- its value gets another name
pub part_kept : (part : Value) (r : Tree) (before after : MadeFields) → TakesName before after r (tree_of part) → TakesField before after (held.Part part) r
part_kept part r before after takes (loops.ForEach key v) k t kept ms rs = absurd kept
part_kept part r before after takes (loops.Filter key v) k t kept ms rs = absurd kept
part_kept part r before after takes (loops.MapValues v) k t kept ms rs = absurd kept
part_kept part r before after takes (loops.MapKeys key) k t kept ms rs = takes key k ms rs ∙ ap (λ w. made_in (loops.MapKeys key) before (member k w ms) (r ∷ rs)) kept

-- which is a text
pub text_taken : (s : List ℕ) (t : Tree) (before after : MadeFields) → members_of after.fields ≡ put s t (members_of before.fields) → after.are_named ≡ before.are_named → TakesName before after (string s) t
text_taken s t before after made same = λ key k ms rs.
    ap₂ (λ b all. made_fields (loops.MapKeys key) b all ms rs) same made ∙ either before.are_named key k ms rs where
      either : (b : Bool) (key : Option ℕ) (k : List ℕ) (ms : Members) (rs : List Tree)
          → made_fields (loops.MapKeys key) b (put s t (members_of before.fields)) ms rs ≡ made_fields (loops.MapKeys key) b (members_of before.fields) (member k t ms) (string s ∷ rs)
      either true key k ms rs = refl
      either false key k ms rs = refl

abbrev pub is_text : Tree → Bool
is_text (string s) = true
is_text v = false

no_name : (r : Tree) (k : List ℕ) (t : Tree) (ms done : Members) (rs : List Tree) → is_text r ≡ false → renamed (member k t ms) (r ∷ rs) done ≡ None
no_name (string s) k t ms done rs is = absurd (true≢false is)
no_name (integer n) k t ms done rs is = refl
no_name (boolean b) k t ms done rs is = refl
no_name null k t ms done rs is = refl
no_name (timestamp n) k t ms done rs is = refl
no_name (regex n) k t ms done rs is = refl
no_name (items ts) k t ms done rs is = refl
no_name (members ns) k t ms done rs is = refl

-- or is none
pub other_taken : (r t : Tree) (before after : MadeFields) → is_text r ≡ false → after.are_named ≡ false → TakesName before after r t
other_taken r t before after is named = λ key k ms rs. ap (λ b. made_fields (loops.MapKeys key) b (members_of after.fields) ms rs) named ∙ either before.are_named key k ms rs where
  either : (b : Bool) (key : Option ℕ) (k : List ℕ) (ms : Members) (rs : List Tree) → error [] ≡ made_fields (loops.MapKeys key) b (members_of before.fields) (member k t ms) (r ∷ rs)
  either true key k ms rs = sym (ap (λ o. renamed_or_else (option_map (λ done. members done) o)) (no_name r k t ms (members_of before.fields) rs is))
  either false key k ms rs = refl
