-- There is one way to part characters at their templates.
use Rattle.std.proofs.Common.{◌≡◌, ℕ, ◌+◌, List, [], ◌∷◌, ◌++◌, length, refl, sym, ap, ◌∙◌, subst, arith}
use Rattle.std.specs.List.{AllByRecursion}
use Rattle.vrl_token.specs.declared.token.Hole.{Hole}
use Rattle.vrl_token.specs.Lexical.{BeginsOutside, IsBlank, IsName, IsNamePart, IsNameStart}
use Rattle.vrl_token.specs.Characters.{Character, plain, plains, spelling_of, text_of}
use Rattle.vrl_token.specs.Templates.{HasOpening, IsHole, IsParted, OpensAt}
use Rattle.vrl_token.proofs.Runs.{same_cut}
use Rattle.vrl_token.proofs.Tested.{start_is_part}
use Rattle.vrl_token.proofs.Unique.{tails}

-- ---- bytes that stand for themselves

pub spelling_of-plains : (bs : List ℕ) (cs : List Character) → spelling_of (plains bs ++ cs) ≡ bs ++ spelling_of cs
spelling_of-plains [] cs = refl
spelling_of-plains (b ∷ bs) cs = ap (λ t. b ∷ t) (spelling_of-plains bs cs)

behind_plains : (bs : List ℕ) (cs ds : List Character) → plains bs ++ cs ≡ plains bs ++ ds → cs ≡ ds
behind_plains [] cs ds e = e
behind_plains (b ∷ bs) cs ds e = let tail : plains bs ++ cs ≡ plains bs ++ ds = cc in behind_plains bs cs ds tail

-- ---- the first opening

opening_more : (c : Character) {cs : List Character} → HasOpening cs → HasOpening (c ∷ cs)
opening_more c has = record { before = c ∷ has.before; behind = has.behind; parts = ap (λ t. c ∷ t) has.parts }

two_open : (a b : Character) (cs : List Character) → a ≡ plain 123 → b ≡ plain 123 → HasOpening (a ∷ b ∷ cs)
two_open a b cs one two = record { before = []; behind = cs; parts = ap (λ c. c ∷ b ∷ cs) one ∙ ap (λ c. plain 123 ∷ c ∷ cs) two }

openings_meet : (b c x y : List Character) → ¬ HasOpening (b ++ plain 123 ∷ []) → ¬ HasOpening (c ++ plain 123 ∷ []) → b ++ plain 123 ∷ plain 123 ∷ x ≡ c ++ plain 123 ∷ plain 123 ∷ y → (b ≡ c) × (x ≡ y)
openings_meet [] [] x y one two e = (refl, cc)
openings_meet [] (k ∷ []) x y one two e = let head : k ≡ plain 123 = cc in absurd (two (two_open k (plain 123) [] head refl))
openings_meet [] (k ∷ l ∷ c) x y one two e =
    let head : k ≡ plain 123 = cc in
    let next : l ≡ plain 123 = cc in
    absurd (two (two_open k l (c ++ plain 123 ∷ []) head next))
openings_meet (k ∷ []) [] x y one two e = let head : k ≡ plain 123 = cc in absurd (one (two_open k (plain 123) [] head refl))
openings_meet (k ∷ l ∷ b) [] x y one two e =
    let head : k ≡ plain 123 = cc in
    let next : l ≡ plain 123 = cc in
    absurd (one (two_open k l (b ++ plain 123 ∷ []) head next))
openings_meet (k ∷ b) (l ∷ c) x y one two e =
    let head : k ≡ l = cc in
    let tail : b ++ plain 123 ∷ plain 123 ∷ x ≡ c ++ plain 123 ∷ plain 123 ∷ y = cc in
    let more = openings_meet b c x y (λ h. one (opening_more k h)) (λ h. two (opening_more l h)) tail in
    (ap (λ d. d ∷ b) head ∙ ap (λ t. l ∷ t) more.0, more.1)

pub same_opening : {cs b c x y : List Character} → OpensAt cs b x → OpensAt cs c y → (b ≡ c) × (x ≡ y)
same_opening {cs} {b} {c} {x} {y} one two = openings_meet b c x y one.is_first two.is_first (sym one.parts ∙ two.parts)

pub opening_of : {cs before inside : List Character} → OpensAt cs before inside → HasOpening cs
opening_of {cs} {before} {inside} opens = record { before = before; behind = inside; parts = opens.parts }

-- ---- templates

pub name_passes : (name : List ℕ) → IsName name → AllByRecursion IsNamePart name
name_passes [] is = absurd is
name_passes (b ∷ bs) is = (start_is_part b is.0, is.1)

name_outside : (name rest : List ℕ) → IsName name → BeginsOutside IsBlank (name ++ rest)
name_outside [] rest is = absurd is
name_outside (b ∷ bs) rest is = λ blank. let start = is.0 in grind (arith, blank, start)

pub blanks_outside : (blanks rest : List ℕ) → AllByRecursion IsBlank blanks → BeginsOutside IsNamePart (blanks ++ 125 ∷ rest)
blanks_outside [] rest is = λ part. grind (arith, part)
blanks_outside (b ∷ bs) rest is = λ part. let blank = is.0 in grind (arith, part, blank)

pub brace_outside : (rest : List ℕ) → BeginsOutside IsBlank (125 ∷ rest)
brace_outside rest = λ blank. grind (arith, blank)

-- a template from its name on, as it is spelled
pub named_spelling : {cs behind : List Character} {name : List ℕ} {distance : ℕ} (hole : IsHole cs name distance behind) → spelling_of hole.named ≡ name ++ (hole.trail ++ 125 ∷ 125 ∷ spelling_of behind)
named_spelling {cs} {behind} {name} hole =
    ap spelling_of hole.goes_on ∙ spelling_of-plains name _ ∙ ap (λ t. name ++ t) (spelling_of-plains hole.trail (plain 125 ∷ plain 125 ∷ behind))

pub named_outside : {cs behind : List Character} {name : List ℕ} {distance : ℕ} (hole : IsHole cs name distance behind) → BeginsOutside IsBlank (spelling_of hole.named)
named_outside {cs} {behind} {name} hole = subst (BeginsOutside IsBlank) (sym (named_spelling hole)) (name_outside name _ hole.is_name)

pub record AreOneHole (n m : List ℕ) (d e : ℕ) (b c : List Character) : Type 0 where
  pub names : n ≡ m
  pub distances : d ≡ e
  pub behinds : b ≡ c

pub same_hole : {cs b c : List Character} {n m : List ℕ} {d e : ℕ} → IsHole cs n d b → IsHole cs m e c → AreOneHole n m d e b c
same_hole {cs} {b} {c} {n} {m} {d} {e} one two =
    let fronts : one.lead ++ spelling_of one.named ≡ two.lead ++ spelling_of two.named
    = sym (spelling_of-plains one.lead one.named) ∙ ap spelling_of (sym one.parts ∙ two.parts) ∙ spelling_of-plains two.lead two.named in
    let leads = same_cut IsBlank one.lead (spelling_of one.named) two.lead (spelling_of two.named) one.lead_is (named_outside one) two.lead_is (named_outside two) fronts in
    let named : one.named ≡ two.named = behind_plains one.lead one.named two.named (sym one.parts ∙ two.parts ∙ ap (λ l. plains l ++ two.named) (sym leads.0)) in
    let texts : n ++ (one.trail ++ 125 ∷ 125 ∷ spelling_of b) ≡ m ++ (two.trail ++ 125 ∷ 125 ∷ spelling_of c) = sym (named_spelling one) ∙ leads.1 ∙ named_spelling two in
    let names = same_cut IsNamePart n _ m _ (name_passes n one.is_name) (blanks_outside one.trail (125 ∷ spelling_of b) one.trail_is) (name_passes m two.is_name) (blanks_outside two.trail (125 ∷ spelling_of c) two.trail_is) texts in
    let trails = same_cut IsBlank one.trail _ two.trail _ one.trail_is (brace_outside (125 ∷ spelling_of b)) two.trail_is (brace_outside (125 ∷ spelling_of c)) names.1 in
    let whole : plains n ++ (plains one.trail ++ plain 125 ∷ plain 125 ∷ b) ≡ plains n ++ (plains one.trail ++ plain 125 ∷ plain 125 ∷ c)
    = sym one.goes_on ∙ named ∙ two.goes_on ∙ ap (λ x. plains x ++ (plains two.trail ++ plain 125 ∷ plain 125 ∷ c)) (sym names.0)
    ∙ ap (λ x. plains n ++ (plains x ++ plain 125 ∷ plain 125 ∷ c)) (sym trails.0) in
    let closings : plain 125 ∷ plain 125 ∷ b ≡ plain 125 ∷ plain 125 ∷ c = behind_plains one.trail _ _ (behind_plains n _ _ whole) in
    record { names = names.0; distances = one.at ∙ ap (λ x. length (spelling_of x) + 1) named ∙ sym two.at; behinds = cc (closings) }

same_hole_record : (h k : Hole) → h.name ≡ k.name → h.distance ≡ k.distance → h.behind ≡ k.behind → h ≡ k
same_hole_record h k names distances behinds = λ i. record { name = names i; distance = distances i; behind = behinds i }

-- ---- parts

pub same_parted : (cs : List Character) (f g : List ℕ) (hs ks : List Hole) → IsParted cs f hs → IsParted cs g ks → (f ≡ g) × (hs ≡ ks)
same_parted cs f g [] [] one two = (one.1 ∙ sym two.1, refl)
same_parted cs f g [] (k ∷ ks) one two = absurd (one.0 (opening_of two.3))
same_parted cs f g (h ∷ hs) [] one two = absurd (two.0 (opening_of one.3))
same_parted cs f g (h ∷ hs) (k ∷ ks) one two =
    let opening = same_opening one.3 two.3 in
    let hole = same_hole (subst (λ i. IsHole i h.name h.distance one.2) opening.1 one.4) two.4 in
    let more = same_parted two.2 h.behind k.behind hs ks (subst (λ b. IsParted b h.behind hs) hole.behinds one.6) two.6 in
    (one.5 ∙ ap text_of opening.0 ∙ sym two.5, ap (λ x. x ∷ hs) (same_hole_record h k hole.names hole.distances more.0) ∙ ap (λ t. k ∷ t) more.1)
