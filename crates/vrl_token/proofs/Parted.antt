-- Characters parted at their templates one behind another, and templates as they are spelled.
use Rattle.std.proofs.Common.{◌≡◌, ◌≢◌, ℕ, ◌+◌, ◌<◌, Option, Some, None, MatchOption, List, [], ◌∷◌, ◌++◌, length, refl, sym, ap, ◌∙◌, subst, append_assoc, length-append, arith}
use denote.Ref.{Bor}
use Rattle.std.specs.List.{AllByRecursion, Contains}
use Rattle.vrl_token.specs.declared.piece.Piece.{Piece}
use Rattle.vrl_token.specs.declared.token.Hole.{Hole}
use Rattle.vrl_token.specs.declared.token.Token.{Token}
use Rattle.vrl_token.specs.declared.token.Token.TheVariants as token
use Rattle.vrl_token.specs.Lexical.{IsBlank, IsLongestRun, IsNamePart, keywords}
use Rattle.vrl_token.specs.Characters.{Character, IsInside, IsKnown, escaped, plain, plains, spelling_of, text_of}
use Rattle.vrl_token.specs.Openings.{AreHoles, CutsOpening, IsClosing, IsHoleText, IsTextToken, IsUnslashed}
use Rattle.vrl_token.specs.Quoted.{IsInner}
use Rattle.vrl_token.specs.Templates.{HasOpening, IsHole, IsParted, IsWellFormed, OpensAt}
use Rattle.vrl_token.specs.Words.{BeginsWithToken, IsFreeName, IsTextSpelling}
use Rattle.vrl_token.proofs.Opened.{all_behind, spelled_front, two_plain, unslashed_of}
use Rattle.vrl_token.proofs.Parting.{AreOneHole, blanks_outside, brace_outside, name_passes, named_outside, named_spelling, opening_of, same_hole, same_opening, spelling_of-plains}
use Rattle.vrl_token.proofs.Quotes.{all-append}
use Rattle.vrl_token.proofs.Runs.{same_longest_run}
use Rattle.vrl_token.proofs.Tested.{weaker}
use Rattle.vrl_token.proofs.Unique.{tails}

-- ---- bytes that stand for themselves

known_plains : (bs : List ℕ) → AllByRecursion IsKnown (plains bs)
known_plains [] = tt
known_plains (b ∷ bs) = (tt, known_plains bs)

all_before : {X : Type 0} (P : X → Type 0) (xs ys : List X) → AllByRecursion P (xs ++ ys) → AllByRecursion P xs
all_before P [] ys all = tt
all_before P (x ∷ xs) ys all = (all.0, all_before P xs ys all.1)

unslashed_plains : (P : ℕ → Type 0) (bs : List ℕ) → ((b : ℕ) → P b → b ≢ 92) → AllByRecursion P bs → AllByRecursion IsUnslashed (plains bs)
unslashed_plains P [] apart is = tt
unslashed_plains P (b ∷ bs) apart is = (apart b is.0, unslashed_plains P bs apart is.1)

blank_unslashed : (b : ℕ) → IsBlank b → b ≢ 92
blank_unslashed b is e = grind (arith, is, e)

part_unslashed : (b : ℕ) → IsNamePart b → b ≢ 92
part_unslashed b is e = grind (arith, is, e)

-- bytes that stand for themselves, and the characters behind them
record IsPlainFront (bs : List ℕ) (cs : List Character) (tail : List ℕ) : Type 0 where
  left : List Character
  parts : cs ≡ plains bs ++ left
  tail_is : tail ≡ spelling_of left
  unslashed : AllByRecursion IsUnslashed left

plain_front : (P : ℕ → Type 0) (bs : List ℕ) (cs : List Character) (tail : List ℕ) → ((b : ℕ) → P b → b ≢ 92) → AllByRecursion P bs → AllByRecursion IsUnslashed cs → spelling_of cs ≡ bs ++ tail → IsPlainFront bs cs tail
plain_front P bs cs tail apart is unslashed e =
    let plain_text : spelling_of (plains bs) ≡ bs = spelled bs in
    let all = spelled_front (plains bs) cs tail (unslashed_plains P bs apart is) unslashed (e ∙ ap (λ t. t ++ tail) (sym plain_text)) in
    record { left = all.left; parts = all.parts; tail_is = all.tail_is; unslashed = all_behind IsUnslashed (plains bs) all.left (subst (AllByRecursion IsUnslashed) all.parts unslashed) }
  where
    spelled : (bs : List ℕ) → spelling_of (plains bs) ≡ bs
    spelled [] = refl
    spelled (b ∷ bs) = ap (λ t. b ∷ t) (spelled bs)

-- ---- templates as they are spelled

pub record IsRead (cs : List Character) (name : List ℕ) (distance : ℕ) (rest : List ℕ) : Type 0 where
  pub behind : List Character
  pub is_hole : IsHole cs name distance behind
  pub rest_is : rest ≡ spelling_of behind

pub hole_read : {text name rest : List ℕ} {distance : ℕ} (cs : List Character) → IsInner 34 text cs → IsHoleText text name distance rest → IsRead cs name distance rest
hole_read {text} {name} {rest} {distance} cs inner is =
    let named = plain_front IsBlank is.lead cs is.named blank_unslashed is.run.passes (unslashed_of cs inner.inside) (sym inner.spelled ∙ is.run.parts) in
    let behind = plain_front IsNamePart name named.left is.behind part_unslashed (name_passes name is.is_free.is_name) named.unslashed (sym named.tail_is ∙ is.is_free.run.parts) in
    let closing = plain_front IsBlank is.closes.blanks behind.left (125 ∷ 125 ∷ rest) blank_unslashed is.closes.run.passes behind.unslashed (sym behind.tail_is ∙ is.closes.run.parts) in
    let two = two_plain 125 closing.left rest (λ e. omega (arith, e)) closing.tail_is in
    record {
      behind = two.left;
      is_hole = record {
        lead = is.lead;
        trail = is.closes.blanks;
        named = named.left;
        parts = named.parts;
        goes_on = behind.parts ∙ ap (λ t. plains name ++ t) (closing.parts ∙ ap (λ t. plains is.closes.blanks ++ t) two.parts);
        lead_is = is.run.passes;
        trail_is = is.closes.run.passes;
        is_name = is.is_free.is_name;
        is_free = is.is_free.free;
        at = is.at ∙ ap (λ t. length t + 1) named.tail_is;
      };
      rest_is = two.tail_is;
    }

pub hole_spelled : {text name : List ℕ} {distance : ℕ} {cs behind : List Character} → text ≡ spelling_of cs → IsHole cs name distance behind → IsHoleText text name distance (spelling_of behind)
hole_spelled {text} {name} {distance} {cs} {behind} spelled hole = record {
  lead = hole.lead;
  named = spelling_of hole.named;
  behind = hole.trail ++ 125 ∷ 125 ∷ spelling_of behind;
  run = record { parts = spelled ∙ ap spelling_of hole.parts ∙ spelling_of-plains hole.lead hole.named; passes = hole.lead_is; ends = named_outside hole };
  is_free = record {
    is_name = hole.is_name;
    run = record { parts = named_spelling hole; passes = name_passes name hole.is_name; ends = blanks_outside hole.trail (125 ∷ spelling_of behind) hole.trail_is };
    free = hole.is_free;
  };
  closes = record { blanks = hole.trail; run = record { parts = refl; passes = hole.trail_is; ends = brace_outside (125 ∷ spelling_of behind) } };
  at = hole.at;
}

-- what a text at a template is cut into
pub named_is : {text lead named name rest : List ℕ} {distance : ℕ} → IsLongestRun IsBlank text lead named → (hole : IsHoleText text name distance rest) → hole.named ≡ named
named_is run hole = (same_longest_run hole.run run).1

pub closing_is : {text blanks closing rest : List ℕ} → IsLongestRun IsBlank text blanks closing → IsClosing text rest → 125 ∷ 125 ∷ rest ≡ closing
closing_is run closes = (same_longest_run closes.run run).1

pub no_name : {text lead named : List ℕ} → IsLongestRun IsBlank text lead named → ((name rest : List ℕ) → ¬ IsFreeName named name rest) → (name : List ℕ) (distance : ℕ) (rest : List ℕ) → ¬ IsHoleText text name distance rest
no_name run none name distance rest hole = none name hole.behind (subst (λ t. IsFreeName t name hole.behind) (named_is run hole) hole.is_free)

pub keyword_not_free : {text found behind : List ℕ} → IsLongestRun IsNamePart text found behind → Contains keywords found → (name rest : List ℕ) → ¬ IsFreeName text name rest
keyword_not_free run has name rest free = free.free (subst (Contains keywords) (sym (same_longest_run free.run run).0) has)

pub no_closing : {text lead named found behind : List ℕ} → IsLongestRun IsBlank text lead named → IsFreeName named found behind → ((rest : List ℕ) → ¬ IsClosing behind rest) → (name : List ℕ) (distance : ℕ) (rest : List ℕ) → ¬ IsHoleText text name distance rest
no_closing {text} {lead} {named} {found} {behind} run free none name distance rest hole =
    let same = same_longest_run (subst (λ t. IsFreeName t name hole.behind) (named_is run hole) hole.is_free).run free.run in
    none rest (subst (λ t. IsClosing t rest) same.1 hole.closes)

-- less is left behind a template
pub hole_shorter : {text name rest : List ℕ} {distance : ℕ} → IsHoleText text name distance rest → length rest < length text
hole_shorter {text} {name} {rest} is =
    let whole = ap length is.run.parts ∙ length-append is.lead is.named in
    let named = ap length is.is_free.run.parts ∙ length-append name is.behind in
    let closing = ap length is.closes.run.parts ∙ length-append is.closes.blanks (125 ∷ 125 ∷ rest) in
    omega arith

-- ---- known escapes

-- the escapes of characters behind others are known where all are
record SameKnown (all part : List Character) : Type 0 where
  of_part : AllByRecursion IsKnown part → AllByRecursion IsKnown all
  of_all : AllByRecursion IsKnown all → AllByRecursion IsKnown part

known_behind : (front part : List Character) → AllByRecursion IsKnown front → {all : List Character} → all ≡ front ++ part → SameKnown all part
known_behind front part known {all} is = record {
  of_part = λ h. subst (AllByRecursion IsKnown) (sym is) (all-append IsKnown front part known h);
  of_all = λ h. all_behind IsKnown front part (subst (AllByRecursion IsKnown) is h);
}

known_hole : {cs behind : List Character} {name : List ℕ} {distance : ℕ} → IsHole cs name distance behind → SameKnown cs behind
known_hole {cs} {behind} {name} hole =
    let front = known_behind (plains hole.lead) hole.named (known_plains hole.lead) hole.parts in
    let middle = known_behind (plains name) (plains hole.trail ++ plain 125 ∷ plain 125 ∷ behind) (known_plains name) hole.goes_on in
    let last = known_behind (plains hole.trail) (plain 125 ∷ plain 125 ∷ behind) (known_plains hole.trail) refl in
    record { of_part = λ h. front.of_part (middle.of_part (last.of_part (tt, (tt, h)))); of_all = λ h. (last.of_all (middle.of_all (front.of_all h))).1.1 }

-- ---- holes one behind another

-- the variables so far, and the characters behind the braces of the next opening
pub record AreHolesSoFar (all : List Character) (out : List Hole) (rest : List ℕ) : Type 0 where
  pub left : List Character
  pub inner : IsInner 34 rest left
  pub known : AllByRecursion IsKnown left → AllByRecursion IsKnown all
  pub only : AllByRecursion IsKnown all → AllByRecursion IsKnown left
  pub joins : (holes : List Hole) → AreHoles left holes → AreHoles all (out ++ holes)
  pub cuts : (holes : List Hole) → AreHoles all holes → (more : List Hole) × AreHoles left more

pub holes_none : {all : List Character} {text : List ℕ} → IsInner 34 text all → AreHolesSoFar all [] text
holes_none {all} {text} inner = record { left = all; inner = inner; known = λ h. h; only = λ h. h; joins = λ holes are. are; cuts = λ holes are. (holes, are) }

inside_hole : {cs behind : List Character} {name : List ℕ} {distance : ℕ} → AllByRecursion (IsInside 34) cs → IsHole cs name distance behind → AllByRecursion (IsInside 34) behind
inside_hole {cs} {behind} {name} inside hole =
    let named = all_behind (IsInside 34) (plains hole.lead) hole.named (subst (AllByRecursion (IsInside 34)) hole.parts inside) in
    let closing = all_behind (IsInside 34) (plains name) _ (subst (AllByRecursion (IsInside 34)) hole.goes_on named) in
    (all_behind (IsInside 34) (plains hole.trail) _ closing).1.1

inside_opening : {cs before inside : List Character} → AllByRecursion (IsInside 34) cs → OpensAt cs before inside → AllByRecursion (IsInside 34) before × AllByRecursion (IsInside 34) inside
inside_opening {cs} {before} {inside} all opens =
    let parts = subst (AllByRecursion (IsInside 34)) opens.parts all in
    (all_before (IsInside 34) before _ parts, (all_behind (IsInside 34) before _ parts).1.1)

known_opening : {cs before inside : List Character} → OpensAt cs before inside → AllByRecursion IsKnown cs → AllByRecursion IsKnown before × AllByRecursion IsKnown inside
known_opening {cs} {before} {inside} opens all =
    let parts = subst (AllByRecursion IsKnown) opens.parts all in
    (all_before IsKnown before _ parts, (all_behind IsKnown before _ parts).1.1)

opening_known : {cs before inside : List Character} → OpensAt cs before inside → AllByRecursion IsKnown before → AllByRecursion IsKnown inside → AllByRecursion IsKnown cs
opening_known {cs} {before} {inside} opens front back = subst (AllByRecursion IsKnown) (sym opens.parts) (all-append IsKnown before (plain 123 ∷ plain 123 ∷ inside) front (tt, (tt, back)))

-- the next template, read, and the characters behind it
record IsNextHole (all : List Character) (out : List Hole) (name : List ℕ) (distance : ℕ) (next : List ℕ) : Type 0 where
  left : List Character
  behind : List Character
  is_hole : IsHole left name distance behind
  inner : IsInner 34 next behind
  known : AllByRecursion IsKnown behind → AllByRecursion IsKnown all
  only : AllByRecursion IsKnown all → AllByRecursion IsKnown behind
  joins : (holes : List Hole) → AreHoles left holes → AreHoles all (out ++ holes)
  cuts : (holes : List Hole) → AreHoles all holes → (more : List Hole) × AreHoles left more

next_hole : {all : List Character} {out : List Hole} {rest name next : List ℕ} {distance : ℕ} → AreHolesSoFar all out rest → IsHoleText rest name distance next → IsNextHole all out name distance next
next_hole {all} {out} {rest} {name} {next} {distance} so_far is =
    let read = hole_read so_far.left so_far.inner is in
    let same = known_hole read.is_hole in
    record {
      left = so_far.left;
      behind = read.behind;
      is_hole = read.is_hole;
      inner = record { inside = inside_hole so_far.inner.inside read.is_hole; spelled = read.rest_is };
      known = λ h. so_far.known (same.of_part h);
      only = λ h. same.of_all (so_far.only h);
      joins = so_far.joins;
      cuts = so_far.cuts;
    }

-- what reading the characters of a part says of them
abbrev pub IsReadAs : List ℕ → Option (List ℕ) → Type 0
IsReadAs text found = (cs : List Character) → IsInner 34 text cs → MatchOption found (¬ AllByRecursion IsKnown cs) (λ t. AllByRecursion IsKnown cs × (t ≡ text_of cs))

-- a part in which an escape isn't known
unknown_part : (opening : Option (Bor (List ℕ))) (cs : List Character) {text : List ℕ} → AllByRecursion (IsInside 34) cs → CutsOpening cs text opening → ((ds : List Character) → IsInner 34 text ds → ¬ AllByRecursion IsKnown ds) → ¬ AllByRecursion IsKnown cs
unknown_part None cs {text} inside cut unknown known = unknown cs (record { inside = inside; spelled = cut.0 }) known
unknown_part (Some o) cs {text} inside cut unknown known =
    unknown cut.0 (record { inside = (inside_opening inside cut.2).0; spelled = cut.3 }) (known_opening cut.2 known).0

pub unknown_hole : {all : List Character} {out : List Hole} {rest name next text : List ℕ} {distance : ℕ} (opening : Option (Bor (List ℕ))) → AreHolesSoFar all out rest → IsHoleText rest name distance next
    → ((cs : List Character) → IsInner 34 next cs → CutsOpening cs text opening) → ((ds : List Character) → IsInner 34 text ds → ¬ AllByRecursion IsKnown ds) → ¬ AllByRecursion IsKnown all
unknown_hole opening so_far is cut unknown known =
    let n = next_hole so_far is in
    unknown_part opening n.behind n.inner.inside (cut n.behind n.inner) unknown (n.only known)

abbrev hole_of : List ℕ → ℕ → List ℕ → Hole
hole_of name distance behind = record { name = name; distance = distance; behind = behind }

named_so : (out : List Hole) {more : List Hole} (name copy : List ℕ) (distance : ℕ) (behind : List ℕ) → copy ≡ name → more ≡ out ++ hole_of copy distance behind ∷ [] → more ≡ out ++ hole_of name distance behind ∷ []
named_so out name copy distance behind same pushed = pushed ∙ ap (λ (n : List ℕ). out ++ hole_of n distance behind ∷ []) same

-- a part behind the last template
pub last_hole : {all : List Character} {out more : List Hole} {rest name copy next text behind : List ℕ} {distance : ℕ} → AreHolesSoFar all out rest → IsHoleText rest name distance next
    → ((cs : List Character) → IsInner 34 next cs → CutsOpening cs text None) → ((ds : List Character) → IsInner 34 text ds → AllByRecursion IsKnown ds × (behind ≡ text_of ds))
    → copy ≡ name → more ≡ out ++ hole_of copy distance behind ∷ [] → AllByRecursion IsKnown all × AreHoles all more
last_hole {all} {out} {more} {rest} {name} {copy} {next} {text} {behind} {distance} so_far is cut read same pushed =
    let n = next_hole so_far is in
    let none = cut n.behind n.inner in
    let known = read n.behind (record { inside = n.inner.inside; spelled = none.0 }) in
    (n.known known.0, subst (AreHoles all) (sym (named_so out name copy distance behind same pushed)) (n.joins (hole_of name distance behind ∷ []) (n.behind, n.is_hole, (none.1, known.1))))

-- the holes of an opening behind a part are those of the part
behind_part : {cs front inside : List Character} {first : List ℕ} (holes : List Hole) → OpensAt cs front inside → first ≡ text_of front → AreHoles inside holes → IsParted cs first holes
behind_part [] opens is are = absurd are
behind_part {cs} {front} {inside} {first} (h ∷ hs) opens is are = (front, inside, are.0, opens, are.1, is, are.2)

pub part_behind : {cs front inside : List Character} (first : List ℕ) (holes : List Hole) → OpensAt cs front inside → IsParted cs first holes → AreHoles inside holes
part_behind first [] opens parted = absurd (parted.0 (opening_of opens))
part_behind {cs} {front} {inside} first (h ∷ hs) opens parted = (parted.2, subst (λ i. IsHole i h.name h.distance parted.2) (same_opening parted.3 opens).1 parted.4, parted.6)

holes_behind : {left behind front inside : List Character} {name : List ℕ} {distance : ℕ} (holes : List Hole) → IsHole left name distance behind → OpensAt behind front inside → AreHoles left holes → (more : List Hole) × AreHoles inside more
holes_behind [] hole opens are = absurd are
holes_behind {left} {behind} {front} {inside} (h ∷ hs) hole opens are =
    (hs, part_behind h.behind hs opens (subst (λ b. IsParted b h.behind hs) (same_hole are.1 hole).behinds are.2))

-- a part between two templates
pub more_holes : {all : List Character} {out more : List Hole} {rest name copy next text behind : List ℕ} {distance : ℕ} (o : Bor (List ℕ)) → AreHolesSoFar all out rest → IsHoleText rest name distance next
    → ((cs : List Character) → IsInner 34 next cs → CutsOpening cs text (Some o)) → ((ds : List Character) → IsInner 34 text ds → AllByRecursion IsKnown ds × (behind ≡ text_of ds))
    → copy ≡ name → more ≡ out ++ hole_of copy distance behind ∷ [] → AreHolesSoFar all more o.now
more_holes {all} {out} {more} {rest} {name} {copy} {next} {text} {behind} {distance} o so_far is cut read same pushed =
    let n = next_hole so_far is in
    let opening = cut n.behind n.inner in
    let front : List Character = opening.0 in
    let inside : List Character = opening.1 in
    let insides = inside_opening n.inner.inside opening.2 in
    let known = read front (record { inside = insides.0; spelled = opening.3 }) in
    let hole : Hole = hole_of name distance behind in
    record {
      left = inside;
      inner = record { inside = insides.1; spelled = opening.4 };
      known = λ h. n.known (opening_known opening.2 known.0 h);
      only = λ h. (known_opening opening.2 (n.only h)).1;
      joins = λ holes are.
          subst (AreHoles all) (sym (ap (λ t. t ++ holes) (named_so out name copy distance behind same pushed) ∙ append_assoc out (hole ∷ []) holes))
          (n.joins (hole ∷ holes) (n.behind, n.is_hole, behind_part holes opening.2 known.1 are));
      cuts = λ holes are. let cut_off = n.cuts holes are in holes_behind cut_off.0 n.is_hole opening.2 cut_off.1;
    }

-- what is no template
no_hole_at : (left : List Character) (rest : List ℕ) → rest ≡ spelling_of left → ((name : List ℕ) (distance : ℕ) (next : List ℕ) → ¬ IsHoleText rest name distance next) → (holes : List Hole) → ¬ AreHoles left holes
no_hole_at left rest spelled none [] are = are
no_hole_at left rest spelled none (h ∷ hs) are = none h.name h.distance (spelling_of are.0) (hole_spelled spelled are.1)

pub no_hole : {all : List Character} {out : List Hole} {rest : List ℕ} → AreHolesSoFar all out rest → ((name : List ℕ) (distance : ℕ) (next : List ℕ) → ¬ IsHoleText rest name distance next) → (holes : List Hole) → ¬ AreHoles all holes
no_hole {all} {out} {rest} so_far none holes are = let cut = so_far.cuts holes are in no_hole_at so_far.left rest so_far.inner.spelled none cut.0 cut.1

-- ---- the end of a template

pub no_first_brace : {text blanks closing : List ℕ} → IsLongestRun IsBlank text blanks closing → ((rest : List ℕ) → closing ≢ 125 ∷ rest) → (rest : List ℕ) → ¬ IsClosing text rest
no_first_brace run none rest closes = none (125 ∷ rest) (sym (closing_is run closes))

pub second_brace : {text blanks closing behind : List ℕ} (found : Option (Bor (List ℕ))) → IsLongestRun IsBlank text blanks closing → closing ≡ 125 ∷ behind → MatchOption found ((rest : List ℕ) → behind ≢ 125 ∷ rest) (λ rest. behind ≡ 125 ∷ rest.now)
    → MatchOption found ((rest : List ℕ) → ¬ IsClosing text rest) (λ rest. IsClosing text rest.now)
second_brace {text} {blanks} {closing} {behind} found run first read =
    weaker found (λ none rest closes. none rest (tails (sym first ∙ sym (closing_is run closes)))) (λ rest second. record { blanks = blanks; run = subst (IsLongestRun IsBlank text blanks) (first ∙ ap (λ t. 125 ∷ t) second) run }) read

-- ---- the token of a text

pub text_begins : (before : List Piece) {cs : List Character} (t : Token) (text rest : List ℕ) → IsTextToken cs t → IsTextSpelling text cs rest → AllByRecursion IsKnown cs → BeginsWithToken before t text rest
text_begins before {cs} (token.Text v) text rest is spelled known = (cs, spelled, known, is)
text_begins before {cs} (token.Template first holes) text rest is spelled known = (cs, spelled, known, is.0, is.1)
text_begins before _ text rest is spelled known = absurd is

pub unknown_text : {cs : List Character} {inner text : List ℕ} (opening : Option (Bor (List ℕ))) → IsInner 34 inner cs → CutsOpening cs text opening → ((ds : List Character) → IsInner 34 text ds → ¬ AllByRecursion IsKnown ds) → AllByRecursion IsKnown cs → ¬ IsWellFormed cs
unknown_text {cs} opening inner cut unknown known well = unknown_part opening cs inner.inside cut unknown known

pub plain_text : {cs : List Character} {inner text first : List ℕ} → IsInner 34 inner cs → CutsOpening cs text None → ((ds : List Character) → IsInner 34 text ds → AllByRecursion IsKnown ds × (first ≡ text_of ds)) → AllByRecursion IsKnown cs × IsParted cs first []
plain_text {cs} inner cut read = let known = read cs (record { inside = inner.inside; spelled = cut.0 }) in (known.0, (cut.1, known.1))

pub no_template : {cs : List Character} {inner text : List ℕ} (o : Bor (List ℕ)) → IsInner 34 inner cs → CutsOpening cs text (Some o) → ((ds : List Character) → IsInner 34 o.now ds → AllByRecursion IsKnown ds → (holes : List Hole) → ¬ AreHoles ds holes)
    → AllByRecursion IsKnown cs → ¬ IsWellFormed cs
no_template {cs} o inner cut none known well =
    none cut.1 (record { inside = (inside_opening inner.inside cut.2).1; spelled = cut.4 }) (known_opening cut.2 known).1 well.1 (part_behind well.0 well.1 cut.2 well.2)

some_holes : (cs : List Character) (holes : List Hole) → AreHoles cs holes → 0 < length holes
some_holes cs [] are = absurd are
some_holes cs (h ∷ hs) are = omega arith

pub template_text : {cs : List Character} {inner text first : List ℕ} (holes : List Hole) (o : Bor (List ℕ)) → IsInner 34 inner cs → CutsOpening cs text (Some o) → ((ds : List Character) → IsInner 34 text ds → AllByRecursion IsKnown ds × (first ≡ text_of ds))
    → ((ds : List Character) → IsInner 34 o.now ds → AllByRecursion IsKnown ds × AreHoles ds holes) → AllByRecursion IsKnown cs × (IsParted cs first holes × (0 < length holes))
template_text {cs} {inner} {text} {first} holes o inner_is cut read are =
    let front : List Character = cut.0 in
    let insides = inside_opening inner_is.inside cut.2 in
    let known = read front (record { inside = insides.0; spelled = cut.3 }) in
    let rest = are cut.1 (record { inside = insides.1; spelled = cut.4 }) in
    (opening_known cut.2 known.0 rest.0, (behind_part holes cut.2 known.1 rest.1, some_holes cut.1 holes rest.1))
