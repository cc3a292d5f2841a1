-- Parameters and arguments as they are in memory, and as they are seen.
use Rattle.std.proofs.Common.{◌≡◌, ℕ, suc, ◌+◌, ◌≤◌, ◌++◌, length, arith, Bool, true, false, not, bytes_eq, List, [], ◌∷◌, Option, Some, None, map, ◌||◌, cond, position, if◌then◌else◌, ◌∙◌, refl, sym, ap, rules}
use Rattle.std.specs.List.{list_any, position_from}
use Rattle.std.specs.Option.{option_map_or}
use Rattle.std.proofs.lemmas.List.{append_assoc}
use Rattle.std.specs.declared.result.Result.{Result}
use Rattle.std.specs.declared.result.Result.TheVariants.{Err}
use Rattle.std.proofs.lemmas.Iterator.Adapters.{position_from-zero}
use Rattle.vrl_builtin.specs.Rows.{ParameterRow}
use Rattle.vrl_builtin.specs.View.{parameter_row}
use Rattle.vrl_builtin.specs.declared.parameter.Parameter.{Parameter}
use Rattle.vrl_syntax.specs.Tree.{Args}
use Rattle.vrl_syntax.specs.View.{arg_of, args_view}
use Rattle.vrl_syntax.specs.declared.tree.Arg.{Arg}
use Rattle.vrl_syntax.specs.declared.tree.Form.{the_lemmas}
use Rattle.vrl_binding.specs.Binding.{binding, bound_from, bound_or_missing, bound_or_unknown, first_missing, first_unknown, is_keyword, is_repeated, is_unknown, is_wrong_number, keyword_at, keywords_of, names_of, positional_at, Keywords}
use Rattle.vrl_binding.specs.declared.binding.BindFault.{BindFault}
use Rattle.vrl_binding.specs.declared.binding.BindFault.TheVariants as fault

any_of_map : {A B : Type 0} (p : B → Bool) (f : A → B) (xs : List A) → list_any (λ x. p (f x)) xs ≡ list_any p (map f xs)
any_of_map p f [] = refl
any_of_map p f (x ∷ xs) = ap (λ b. p (f x) || b) (any_of_map p f xs)

pub unknown : (ps : List Parameter) (word keyword : List ℕ) → word ≡ keyword → not (list_any (λ p. bytes_eq p.name.now word) ps) ≡ is_unknown (map parameter_row ps) (Some keyword)
unknown ps word keyword is = ap not (ap (λ w. list_any (λ p. bytes_eq p.name.now w) ps) is ∙ any_of_map (λ p. bytes_eq p.name keyword) parameter_row ps)

pub repeated : (gs : List Arg) (word keyword : List ℕ) → word ≡ keyword → list_any (λ g. is_keyword word g.name) gs ≡ is_repeated (Some keyword) (names_of gs)
repeated gs word keyword is = ap (λ w. list_any (λ (g : Arg). is_keyword w g.name) gs) is ∙ any_of_map (is_keyword keyword) (λ (g : Arg). g.name) gs

from_of_map : {A B : Type 0} (p : B → Bool) (f : A → B) (i : ℕ) (xs : List A) → position_from (λ x. p (f x)) i xs ≡ position_from p i (map f xs)
from_of_map p f i [] = refl
from_of_map p f i (x ∷ xs) = ap (cond (p (f x)) (Some i)) (from_of_map p f (i + 1) xs)

position_of_map : {A B : Type 0} (p : B → Bool) (f : A → B) (xs : List A) → position (λ x. p (f x)) xs ≡ position p (map f xs)
position_of_map p f xs = position_from-zero (λ x. p (f x)) xs ∙ from_of_map p f 0 xs ∙ sym (position_from-zero p (map f xs))

pub keyword_place : (gs : List Arg) (word : List ℕ) → position (λ g. is_keyword word g.name) gs ≡ keyword_at word (names_of gs)
keyword_place gs word = position_of_map (is_keyword word) (λ (g : Arg). g.name) gs

pub unknown_place : (ps : List Parameter) (gs : List Arg) → position (λ g. is_unknown (map parameter_row ps) g.name) gs ≡ first_unknown (map parameter_row ps) (names_of gs)
unknown_place ps gs = position_of_map (is_unknown (map parameter_row ps)) (λ (g : Arg). g.name) gs

name_seen : (g : Arg) → (arg_of g).0 ≡ g.name
name_seen g = search (rules, the_lemmas)

-- the keywords of a call are those of its arguments in memory
keywords_seen : (gs : List Arg) → keywords_of (args_view gs) ≡ names_of gs
keywords_seen [] = refl
keywords_seen (g ∷ gs) = ap (λ k. k ∷ keywords_of (args_view gs)) (name_seen g) ∙ ap (λ ks. g.name ∷ ks) (keywords_seen gs)

-- what is bound, as it is worked out in memory
pub bound_seen : (rows : List ParameterRow) (gives : Args) (ps : List Parameter) (gs : List Arg) → map parameter_row ps ≡ rows → args_view gs ≡ gives →
    binding rows (keywords_of gives) ≡ binding (map parameter_row ps) (names_of gs)
bound_seen rows gives ps gs are seen =
    ap (λ rs. binding rs (keywords_of gives)) (sym are)
    ∙ ap (λ as_. binding (map parameter_row ps) (keywords_of as_)) (sym seen)
    ∙ ap (binding (map parameter_row ps)) (keywords_seen gs)

-- what is bound, by what the tests found
abbrev outcome : Bool → Option ℕ → Option ℕ → List (Option ℕ) → Result (List (Option ℕ)) BindFault
outcome wrong unknown missing places = if wrong then Err fault.Number else bound_or_unknown unknown (bound_or_missing missing places)

pub wrong_bound : (ps : List ParameterRow) (ks : Keywords) → is_wrong_number ps ks ≡ true → binding ps ks ≡ Err fault.Number
wrong_bound ps ks wrong = ap (λ w. outcome w (first_unknown ps ks) (first_missing ps (bound_from 0 ps ks)) (bound_from 0 ps ks)) wrong

pub known_bound : (ps : List ParameterRow) (ks : Keywords) (unknown : Option ℕ) → is_wrong_number ps ks ≡ false → first_unknown ps ks ≡ unknown →
    binding ps ks ≡ outcome false unknown (first_missing ps (bound_from 0 ps ks)) (bound_from 0 ps ks)
known_bound ps ks unknown right is =
    ap (λ w. outcome w (first_unknown ps ks) (first_missing ps (bound_from 0 ps ks)) (bound_from 0 ps ks)) right
    ∙ ap (λ u. outcome false u (first_missing ps (bound_from 0 ps ks)) (bound_from 0 ps ks)) is

pub places_bound : (ps : List ParameterRow) (ks : Keywords) (missing : Option ℕ) (places : List (Option ℕ)) → is_wrong_number ps ks ≡ false → first_unknown ps ks ≡ None →
    places ≡ bound_from 0 ps ks → first_missing ps places ≡ missing → binding ps ks ≡ bound_or_missing missing places
places_bound ps ks missing places right known are is =
    known_bound ps ks None right known
    ∙ ap (λ found. bound_or_missing (first_missing ps found) found) (sym are)
    ∙ ap (λ m. bound_or_missing m places) is

-- one more parameter is bound: by its name, or by its position
one_more : (found whole rest : List (Option ℕ)) (place : Option ℕ) (now : List (Option ℕ)) → found ++ (place ∷ rest) ≡ whole → now ≡ found ++ (place ∷ []) → now ++ rest ≡ whole
one_more found whole rest place now was is = ap (λ places. places ++ rest) is ∙ append_assoc found (place ∷ []) rest ∙ was

pub named_more : (p : Parameter) (ps left : List Parameter) (gs : List Arg) (taken count place : ℕ) (found whole now : List (Option ℕ)) →
    found ++ bound_from taken (map parameter_row left) (names_of gs) ≡ whole → taken + length left ≤ count → left ≡ p ∷ ps →
    position (λ g. is_keyword p.name.now g.name) gs ≡ Some place → now ≡ found ++ (Some place ∷ []) →
    (now ++ bound_from taken (map parameter_row ps) (names_of gs) ≡ whole) × (taken + length ps ≤ count)
named_more p ps left gs taken count place found whole now was few split at is =
    let rest = λ (k : Option ℕ). option_map_or (λ n. Some n ∷ bound_from taken (map parameter_row ps) (names_of gs)) k (positional_at taken (names_of gs) ∷ bound_from (suc taken) (map parameter_row ps) (names_of gs)) in
    let from : bound_from taken (map parameter_row left) (names_of gs) ≡ rest (Some place) =
    ap (λ ps'. bound_from taken (map parameter_row ps') (names_of gs)) split ∙ ap rest (sym (keyword_place gs p.name.now) ∙ at) in
    let longer : length left ≡ suc (length ps) = ap length split in
    (one_more found whole (bound_from taken (map parameter_row ps) (names_of gs)) (Some place) now (ap (λ bound. found ++ bound) (sym from) ∙ was) is, omega arith)

pub positional_more : (p : Parameter) (ps left : List Parameter) (gs : List Arg) (taken next count : ℕ) (found whole now : List (Option ℕ)) →
    found ++ bound_from taken (map parameter_row left) (names_of gs) ≡ whole → taken + length left ≤ count → left ≡ p ∷ ps →
    position (λ g. is_keyword p.name.now g.name) gs ≡ None → next ≡ suc taken → now ≡ found ++ (positional_at taken (names_of gs) ∷ []) →
    (now ++ bound_from next (map parameter_row ps) (names_of gs) ≡ whole) × (next + length ps ≤ count)
positional_more p ps left gs taken next count found whole now was few split at counted is =
    let rest = λ (k : Option ℕ). option_map_or (λ n. Some n ∷ bound_from taken (map parameter_row ps) (names_of gs)) k (positional_at taken (names_of gs) ∷ bound_from (suc taken) (map parameter_row ps) (names_of gs)) in
    let from : bound_from taken (map parameter_row left) (names_of gs) ≡ rest None =
    ap (λ ps'. bound_from taken (map parameter_row ps') (names_of gs)) split ∙ ap rest (sym (keyword_place gs p.name.now) ∙ at) in
    let longer : length left ≡ suc (length ps) = ap length split in (
      ap (λ i. now ++ bound_from i (map parameter_row ps) (names_of gs)) counted
          ∙ one_more found whole (bound_from (suc taken) (map parameter_row ps) (names_of gs)) (positional_at taken (names_of gs)) now (ap (λ bound. found ++ bound) (sym from) ∙ was) is,
      omega arith,
    )
