-- Names cut at the first separator, again and again.
use Rattle.std.proofs.Common.{◌≡◌, ◌≤◌, ◌<◌, ◌+◌, ◌-◌, ◌==◌, ◌||◌, nat_lt, ℕ, zero, suc, Bool, true, false, List, [], ◌∷◌, ◌++◌, take, drop, length, map, Option, Some, None, option_map, refl, sym, ap, ◌∙◌, append_assoc, arith, if◌then◌else◌}
use Rattle.std.proofs.lemmas.Bool.{true≢false}
use Rattle.std.proofs.lemmas.List.{length-drop, length-map, take-append-drop}
use Rattle.std.proofs.lemmas.Slice.Eq.{bytes_eq-Decides}
use Rattle.std.specs.Str.Pattern.{FindsText, LacksTextAt, SplitsAroundMatch}
use Rattle.std.specs.List.{list_all}
use Rattle.vrl_path.specs.declared.path.Step.{Step}
use Rattle.vrl_path.specs.declared.path.Step.TheVariants.{Field}
use Rattle.fn_object.specs.Paths.{is_writable}
use Rattle.fn_object.specs.Unflatten.{begins, cut_at, cut_key, first_place, is_nothing, path_of}
use Rattle.fn_object.proofs.Pairs.{more_at}

-- ---- the first place

-- a text that begins with the separator is it, and a rest
begun : (separator s : List ℕ) → begins separator s ≡ true → s ≡ separator ++ drop (length separator) s
begun separator s is = sym (take-append-drop (length separator) s) ∙ ap (λ front. front ++ drop (length separator) s) ((bytes_eq-Decides (take (length separator) s) separator).0 is)

begins_so : (separator rest : List ℕ) → begins separator (separator ++ rest) ≡ true
begins_so separator rest = (bytes_eq-Decides (take (length separator) (separator ++ rest)) separator).1 (front separator) where
  front : (bs : List ℕ) → take (length bs) (bs ++ rest) ≡ bs
  front [] = refl
  front (b ∷ bs) = ap (λ cs. b ∷ cs) (front bs)

begins_at : (separator s : List ℕ) (rest : List ℕ) → s ≡ separator ++ rest → begins separator s ≡ true
begins_at separator s rest is = ap (begins separator) is ∙ begins_so separator rest

lacks_first : (separator s : List ℕ) (b : Bool) → begins separator s ≡ b → LacksTextAt separator s 0 → b ≡ false
lacks_first separator s true is lacks = absurd (lacks (drop (length separator) s) (begun separator s is))
lacks_first separator s false is lacks = refl

none_at : (separator : List ℕ) (b : ℕ) (bs : List ℕ) → LacksTextAt separator (b ∷ bs) 0 → first_place separator bs ≡ None → first_place separator (b ∷ bs) ≡ None
none_at separator b bs lacks later =
    ap (λ c. if c then Some 0 else option_map (λ i. suc i) (first_place separator bs)) (lacks_first separator (b ∷ bs) (begins separator (b ∷ bs)) refl lacks) ∙ ap (option_map (λ i. suc i)) later

pub no_place : (separator s : List ℕ) → ((i : ℕ) → i ≤ length s → LacksTextAt separator s i) → first_place separator s ≡ None
no_place separator [] lacks = refl
no_place separator (b ∷ bs) lacks = none_at separator b bs (lacks 0 (omega arith)) (no_place separator bs (λ i few. lacks (suc i) (omega (arith, few))))

later_at : (separator : List ℕ) (b : ℕ) (bs : List ℕ) (i : ℕ) → LacksTextAt separator (b ∷ bs) 0 → first_place separator bs ≡ Some i → first_place separator (b ∷ bs) ≡ Some (suc i)
later_at separator b bs i lacks later =
    ap (λ c. if c then Some 0 else option_map (λ j. suc j) (first_place separator bs)) (lacks_first separator (b ∷ bs) (begins separator (b ∷ bs)) refl lacks) ∙ ap (option_map (λ j. suc j)) later

first_at : (separator : List ℕ) (b : ℕ) (bs rest : List ℕ) → b ∷ bs ≡ separator ++ rest → first_place separator (b ∷ bs) ≡ Some 0
first_at separator b bs rest is = ap (λ c. if c then Some 0 else option_map (λ j. suc j) (first_place separator bs)) (begins_at separator (b ∷ bs) rest is)

pub some_place : (separator s : List ℕ) (i : ℕ) (rest : List ℕ) → is_nothing separator ≡ false → ((k : ℕ) → k < i → LacksTextAt separator s k) → drop i s ≡ separator ++ rest → first_place separator s ≡ Some i
some_place [] s i rest some lacks is = absurd (true≢false some)
some_place (c ∷ cs) [] zero rest some lacks is = absurd cc
some_place (c ∷ cs) [] (suc i) rest some lacks is = absurd cc
some_place (c ∷ cs) (b ∷ bs) zero rest some lacks is = first_at (c ∷ cs) b bs rest is
some_place (c ∷ cs) (b ∷ bs) (suc i) rest some lacks is =
    later_at (c ∷ cs) b bs i (lacks 0 (omega arith)) (some_place (c ∷ cs) bs i rest some (λ k few. lacks (suc k) (omega (arith, few))) is)

-- ---- the pieces

-- behind a separator there is less than before
shorter : (separator s : List ℕ) (i most : ℕ) → is_nothing separator ≡ false → length s ≤ suc most → length (drop (i + length separator) s) ≤ most
shorter [] s i most some few = absurd (true≢false some)
shorter (c ∷ cs) s i most some few =
    let long : length (c ∷ cs) ≡ suc (length cs) = refl in
    let left : length (drop (i + length (c ∷ cs)) s) ≡ length s - (i + length (c ∷ cs)) = length-drop (i + length (c ∷ cs)) s in omega (arith, few, long, left)

same_at : (separator s : List ℕ) (f g : List ℕ → List (List ℕ)) (o : Option ℕ) → ((i : ℕ) → f (drop (i + length separator) s) ≡ g (drop (i + length separator) s)) → cut_at separator s f o ≡ cut_at separator s g o
same_at separator s f g None same = refl
same_at separator s f g (Some i) same = ap (λ ps. take i s ∷ ps) (same i)

same_cut : (separator : List ℕ) (m n : ℕ) (s : List ℕ) → is_nothing separator ≡ false → length s ≤ m → length s ≤ n → cut_key m separator s ≡ cut_key n separator s
same_cut separator zero zero s some few less = refl
same_cut separator zero (suc n) [] some few less = refl
same_cut separator zero (suc n) (b ∷ bs) some few less = let never : ⊥ = omega (arith, few) in absurd never
same_cut separator (suc m) zero [] some few less = refl
same_cut separator (suc m) zero (b ∷ bs) some few less = let never : ⊥ = omega (arith, less) in absurd never
same_cut separator (suc m) (suc n) s some few less =
    same_at separator s (cut_key m separator) (cut_key n separator) (first_place separator s)
    (λ i. same_cut separator m n (drop (i + length separator) s) some (shorter separator s i m some few) (shorter separator s i n some less))

-- a text that is cut once
cut_once : (separator s : List ℕ) (i : ℕ) → is_nothing separator ≡ false → first_place separator s ≡ Some i →
    cut_key (length s) separator s ≡ take i s ∷ cut_key (length (drop (i + length separator) s)) separator (drop (i + length separator) s)
cut_once separator [] i some found = absurd cc
cut_once separator (b ∷ bs) i some found =
    let rest = drop (i + length separator) (b ∷ bs) in
    ap (cut_at separator (b ∷ bs) (cut_key (length bs) separator)) found
    ∙ ap (λ ps. take i (b ∷ bs) ∷ ps) (same_cut separator (length bs) (length rest) rest some (shorter separator (b ∷ bs) i (length bs) some (omega arith)) (omega arith))

pub cut_never : (most : ℕ) (separator s : List ℕ) → first_place separator s ≡ None → cut_key most separator s ≡ s ∷ []
cut_never zero separator s none = refl
cut_never (suc most) separator s none = ap (cut_at separator s (cut_key most separator)) none

-- ---- the code's own walk

placed : (separator s front back : List ℕ) → is_nothing separator ≡ false → (m : SplitsAroundMatch (FindsText separator) s front back) → first_place separator s ≡ Some m.0
placed separator s front back some m = some_place separator s m.0 (drop m.1 s) some m.2.0 m.2.1.split

behind_is : (separator s front back : List ℕ) → (m : SplitsAroundMatch (FindsText separator) s front back) → drop (m.0 + length separator) s ≡ back
behind_is separator s front back m = sym (m.4 ∙ ap (λ k. drop k s) m.2.1.ends)

pub cut_here : (separator s front back : List ℕ) → is_nothing separator ≡ false → SplitsAroundMatch (FindsText separator) s front back → cut_key (length s) separator s ≡ front ∷ cut_key (length back) separator back
cut_here separator s front back some m =
    cut_once separator s m.0 some (placed separator s front back some m)
    ∙ ap (λ bs. take m.0 s ∷ cut_key (length bs) separator bs) (behind_is separator s front back m)
    ∙ ap (λ f. f ∷ cut_key (length back) separator back) (sym m.3)

pub one_more : (separator s front back : List ℕ) (items after whole : List Step) → is_nothing separator ≡ false → SplitsAroundMatch (FindsText separator) s front back → after ≡ items ++ Field front ∷ [] →
    items ++ map Field (cut_key (length s) separator s) ≡ whole → after ++ map Field (cut_key (length back) separator back) ≡ whole
one_more separator s front back items after whole some m pushed before =
    ap (λ ss. ss ++ map Field (cut_key (length back) separator back)) pushed ∙ append_assoc items (Field front ∷ []) (map Field (cut_key (length back) separator back))
    ∙ ap (λ ps. items ++ map Field ps) (sym (cut_here separator s front back some m)) ∙ before

pub last_one : (separator s : List ℕ) (items whole : List Step) → FindsText separator s None → items ++ map Field (cut_key (length s) separator s) ≡ whole → items ++ Field s ∷ [] ≡ whole
last_one separator s items whole none before = ap (λ ps. items ++ map Field ps) (sym (cut_never (length s) separator s (no_place separator s none))) ∙ before

pub all_writable : (ks : List (List ℕ)) → list_all is_writable (map Field ks) ≡ true
all_writable [] = refl
all_writable (k ∷ ks) = all_writable ks

-- ---- which of both it is

pub nothing_is : (s : List ℕ) (b : Bool) → (length s == 0) ≡ b → is_nothing s ≡ b
nothing_is [] b is = is
nothing_is (c ∷ cs) b is = sym (more_at (length cs) (length (c ∷ cs) == 0) refl) ∙ is

choice : (separator k : List ℕ) (a b : Bool) → is_nothing separator ≡ a → nat_lt 64 (length (cut_key (length k) separator k)) ≡ b → path_of separator k ≡ map Field (if a || b then k ∷ [] else cut_key (length k) separator k)
choice separator k a b nothing many =
    ap (λ c. map Field (if c || nat_lt 64 (length (cut_key (length k) separator k)) then k ∷ [] else cut_key (length k) separator k)) nothing
    ∙ ap (λ c. map Field (if a || c then k ∷ [] else cut_key (length k) separator k)) many

pub whole_if_nothing : (separator k : List ℕ) → is_nothing separator ≡ true → map Field (k ∷ []) ≡ path_of separator k
whole_if_nothing separator k nothing = sym (choice separator k true (nat_lt 64 (length (cut_key (length k) separator k))) nothing refl)

pub whole_if_many : (separator k : List ℕ) (steps : List Step) → is_nothing separator ≡ false → steps ≡ map Field (cut_key (length k) separator k) → nat_lt 64 (length steps) ≡ true → map Field (k ∷ []) ≡ path_of separator k
whole_if_many separator k steps some are many =
    let long : length steps ≡ length (cut_key (length k) separator k) = ap length are ∙ length-map (cut_key (length k) separator k) Field in
    sym (choice separator k false true some (sym (ap (nat_lt 64) long) ∙ many))

pub cut_if_few : (separator k : List ℕ) (steps : List Step) → is_nothing separator ≡ false → steps ≡ map Field (cut_key (length k) separator k) → nat_lt 64 (length steps) ≡ false → steps ≡ path_of separator k
cut_if_few separator k steps some are few =
    let long : length steps ≡ length (cut_key (length k) separator k) = ap length are ∙ length-map (cut_key (length k) separator k) Field in
    are ∙ sym (choice separator k false false some (sym (ap (nat_lt 64) long) ∙ few))
