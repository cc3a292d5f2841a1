use Rattle.std.proofs.Common.{◌≡◌, ◌∙◌, ℕ, Bool, true, false, List, map, Option, if◌then◌else◌, refl, sym, ap}
use Rattle.std.proofs.lemmas.Bool.{true≢false}
use Rattle.vrl_syntax.specs.Tree.{Args}
use Rattle.vrl_syntax.specs.View.{args_of, args_view}
use Rattle.vrl_table.specs.Table.{row_of}
use Rattle.vrl_table.specs.declared.function.Fun.{Fun}
use Rattle.vrl_resolve.specs.Calls as called
use Rattle.vrl_resolve.proofs.bound.written_function.Goals as goal

abbrev right : Fun → Args → List (Option ℕ) → Bool
right f gs places = called.are_written_right (row_of f).accepts 0 (row_of f).parameters (map (called.written_at (called.values_of gs)) places)

-- the arguments and the places were only seen otherwise
is_right : (f : Fun) (gs hs : Args) (ps qs : List (Option ℕ)) (r : Bool) → hs ≡ gs → qs ≡ ps → r ≡ right f hs qs → r ≡ true → right f gs ps ≡ true
is_right f gs hs ps qs r same_args same_places told is = sym (ap (λ xs. right f xs ps) same_args) ∙ sym (ap (λ xs. right f hs xs) same_places) ∙ sym told ∙ is

taken : {A : Type 0} (b : Bool) (x y : A) → b ≡ true → x ≡ (if b then x else y)
taken true x y is = refl
taken false x y is = absurd (true≢false (sym is))

pub returns-then-are_written_right : goal.returns-then-are_written_right
returns-then-are_written_right c =
    let is : right c.args.function (args_of c.args.args.now) c.args.places.items ≡ true
    = is_right c.args.function (args_of c.args.args.now) (args_view c.as_slice.result.now) c.args.places.items c.deref.result.now c.are_written_right.result
    c.as_slice.ensures c.deref.ensures.value c.are_written_right.ensures c.if-are_written_right.true in
    record {
      known = λ count. tt;
      same = λ names. taken (right c.args.function (args_of c.args.args.now) c.args.places.items) (called.function c.args.function c.args.places.items) called.nothing_called is;
    }
