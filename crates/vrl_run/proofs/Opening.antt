-- An envelope is its event and its metadata, which are what is taken out of it.
use Rattle.std.proofs.Common.{◌≡◌, ◌≢◌, ◌≤◌, ℕ, max, Bool, true, false, true≢false, ◌&&◌, List, Option, Some, None, bytes_eq, codes, IfSome, IsTrue, if◌then◌else◌, refl, sym, ap, ◌∙◌, subst, arith}
use Rattle.std.proofs.Math.Nat.{le-max_left, le-max_right}
use Rattle.std.proofs.lemmas.Bool.{and_parts}
use Rattle.std.proofs.lemmas.Slice.Eq.{bytes_eq-Decides}
use Rattle.vrl_value.specs.Depth.{depth_of}
use Rattle.vrl_value.specs.Laws.{MembersAreMaps, TreesStayInOrder}
use Rattle.vrl_value.specs.Parts.{members_count, without}
use Rattle.vrl_value.specs.Regexes.{regexes_below}
use Rattle.vrl_value.specs.Tree.{Tree, object, Members, no_members, member, find, is_json, is_object, IsOrdered, MembersAreOrdered}
use Rattle.vrl_json.specs.Line.{reading_of, whole}
use Rattle.vrl_store.specs.WellFormed.{IsWellFormed}
use Rattle.vrl_run.specs.Laws.{AreOfLine, IsOfLine, LinesStandForJson}
use Rattle.vrl_run.specs.LineResult.{enclosed, opened, parts_of}
use Rattle.vrl_run.proofs.JsonObjects.{is_json_object}

-- the members of an envelope
abbrev pub envelope_of : Tree → Tree → Members
envelope_of event beside = member (codes "event") event (member (codes "metadata") beside no_members)

-- ---- what is opened is an envelope

opened_at : (first second : Bool) (k l : List ℕ) (event : Tree) (ms : Members) (parts : Tree × Tree)
    → (first ≡ true → k ≡ codes "event") → (second ≡ true → l ≡ codes "metadata")
    → (if first && second then Some (event, object ms) else None) ≡ Some parts
    → (object (member k event (member l (object ms) no_members)) ≡ object (envelope_of parts.0 parts.1)) × (is_object parts.1 ≡ true)
opened_at true true k l event ms parts one two is =
    let same : (event, object ms) ≡ parts = cc in (
      (λ i. object (member (one refl i) event (member (two refl i) (object ms) no_members)))
          ∙ ap (λ p. object (envelope_of p.0 p.1)) same,
      ap (λ p. is_object p.1) (sym same),
    )
opened_at true false k l event ms parts one two is = absurd cc
opened_at false second k l event ms parts one two is = absurd cc

pub is_opened : (t : Tree) (parts : Tree × Tree) → opened t ≡ Some parts → (t ≡ object (envelope_of parts.0 parts.1)) × (is_object parts.1 ≡ true)
is_opened (object (member k event (member l (object ms) no_members))) parts is = opened_at (bytes_eq k (codes "event")) (bytes_eq l (codes "metadata")) k l event ms parts (bytes_eq-Decides k (codes "event")).0 (bytes_eq-Decides l (codes "metadata")).0 is
is_opened t parts is = absurd cc

-- an envelope is opened where its metadata is an object
object_opened : (event beside : Tree) → is_object beside ≡ true → opened (object (envelope_of event beside)) ≡ Some (event, beside)
object_opened event (object ms) is = refl
object_opened event t is = absurd (true≢false (sym is))

-- what was read is written as it was read
pub enclosed_again : (envelope : Bool) (t : Tree) (parts : Tree × Tree) → parts_of envelope t ≡ Some parts → enclosed envelope parts ≡ t
enclosed_again true t parts is = sym (is_opened t parts is).0
enclosed_again false t parts is = let same : (t, object no_members) ≡ parts = cc in ap (λ p. p.0) (sym same)

-- ---- what is taken out

same_members : {ms ns : Members} → object ms ≡ object ns → ms ≡ ns
same_members is = cc

-- no members are opened that lack one of the two, or have more, or whose metadata is no object
none_at : (o : Option (Tree × Tree)) → ((parts : Tree × Tree) → o ≡ Some parts → ⊥) → None ≡ o
none_at None never = refl
none_at (Some parts) never = absurd (never parts refl)

members_are : (ms : Members) (parts : Tree × Tree) → opened (object ms) ≡ Some parts → ms ≡ envelope_of parts.0 parts.1
members_are ms parts is = same_members (is_opened (object ms) parts is).0

pub without_event : (ms : Members) → find (codes "event") ms ≡ None → None ≡ opened (object ms)
without_event ms none = none_at (opened (object ms)) (λ parts is. let there = sym none ∙ ap (find (codes "event")) (members_are ms parts is) in absurd cc)

pub without_metadata : (ms : Members) → find (codes "metadata") (without (codes "event") ms) ≡ None → None ≡ opened (object ms)
without_metadata ms none =
    none_at (opened (object ms)) (λ parts is. let there = sym none ∙ ap (λ ns. find (codes "metadata") (without (codes "event") ns)) (members_are ms parts is) in absurd cc)

-- the members behind both
abbrev pub others : Members → Members
others ms = without (codes "metadata") (without (codes "event") ms)

pub with_others : (ms : Members) → ¬ (members_count (others ms) ≡ 0) → None ≡ opened (object ms)
with_others ms some = none_at (opened (object ms)) (λ parts is. some (ap (λ ns. members_count (others ns)) (members_are ms parts is)))

-- where nothing else is left they are an envelope's
no_count : (ms : Members) → members_count ms ≡ 0 → ms ≡ no_members
no_count no_members none = refl
no_count (member k t ms) none = absurd (omega (arith, none))

differ : codes "metadata" ≢ codes "event"
differ same = true≢false (sym ((bytes_eq-Decides (codes "metadata") (codes "event")).1 same))

unequal : (k l : List ℕ) → bytes_eq k l ≡ false → k ≢ l
unequal k l is same = true≢false (sym ((bytes_eq-Decides k l).1 same) ∙ is)

found_at : MembersAreMaps → (ms : Members) (event beside : Tree) (name : List ℕ) (first second : Bool)
    → bytes_eq name (codes "event") ≡ first → bytes_eq name (codes "metadata") ≡ second
    → find (codes "event") ms ≡ Some event → find (codes "metadata") (without (codes "event") ms) ≡ Some beside → others ms ≡ no_members
    → find name ms ≡ find name (envelope_of event beside)
found_at maps ms event beside name true second is_first is_second one two none =
    subst (λ n. find n ms ≡ find n (envelope_of event beside)) (sym ((bytes_eq-Decides name (codes "event")).0 is_first)) one
found_at maps ms event beside name false true is_first is_second one two none =
    subst (λ n. find n ms ≡ find n (envelope_of event beside)) (sym ((bytes_eq-Decides name (codes "metadata")).0 is_second))
    (sym (maps.find_without_other (codes "metadata") (codes "event") ms differ) ∙ two)
found_at maps ms event beside name false false is_first is_second one two none =
    let no_event = unequal name (codes "event") is_first in
    let no_metadata = unequal name (codes "metadata") is_second in
    sym (maps.find_without_other name (codes "event") ms no_event)
    ∙ sym (maps.find_without_other name (codes "metadata") (without (codes "event") ms) no_metadata)
    ∙ ap (find name) none
    ∙ sym (maps.find_put_other name (codes "event") event no_members no_event)
    ∙ sym (maps.find_put_other name (codes "metadata") beside (member (codes "event") event no_members) no_metadata)

if_some : {A : Type 0} (P : A → Type 0) (o : Option A) (a : A) → o ≡ Some a → IfSome o P → P a
if_some P o a is holds = subst (λ q. IfSome q P) is holds

members_of_both : MembersAreMaps → TreesStayInOrder → (ms : Members) (event beside : Tree) → MembersAreOrdered ms
    → find (codes "event") ms ≡ Some event → find (codes "metadata") (without (codes "event") ms) ≡ Some beside → members_count (others ms) ≡ 0
    → ms ≡ envelope_of event beside
members_of_both maps stays ms event beside ordered one two none =
    let first = if_some IsOrdered _ event one (stays.ordered_find (codes "event") ms ordered) in
    let second = if_some IsOrdered _ beside two (stays.ordered_find (codes "metadata") (without (codes "event") ms) (stays.ordered_without (codes "event") ms ordered)) in
    maps.one_map ms (envelope_of event beside) ordered ((refl, tt), first, (tt, second, tt))
    (λ name. found_at maps ms event beside name (bytes_eq name (codes "event")) (bytes_eq name (codes "metadata")) refl refl one two (no_count (others ms) none))

-- so both are its event and its metadata
pub both_opened : MembersAreMaps → TreesStayInOrder → (ms : Members) (event beside : Tree) → MembersAreOrdered ms
    → find (codes "event") ms ≡ Some event → find (codes "metadata") (without (codes "event") ms) ≡ Some beside → members_count (others ms) ≡ 0 → is_object beside ≡ true
    → Some (event, beside) ≡ opened (object ms)
both_opened maps stays ms event beside ordered one two none is =
    sym (ap (λ ns. opened (object ns)) (members_of_both maps stays ms event beside ordered one two none) ∙ object_opened event beside is)

pub with_no_object : (ms : Members) (beside : Tree) → find (codes "metadata") (without (codes "event") ms) ≡ Some beside → is_object beside ≡ false → None ≡ opened (object ms)
with_no_object ms beside two other =
    none_at (opened (object ms)) (λ parts is.
    let there = sym two ∙ ap (λ ns. find (codes "metadata") (without (codes "event") ns)) (members_are ms parts is) in
    let same : beside ≡ parts.1 = cc in
    true≢false (sym (is_opened (object ms) parts is).1 ∙ ap is_object (sym same) ∙ other))

-- ---- the parts of what is read

envelope_parts : (event beside : Tree) → IsOfLine (object (envelope_of event beside)) → IsOfLine event × IsOfLine beside
envelope_parts event beside line =
    let json = and_parts (is_json event) _ line.json in
    let depth = le-max_left (depth_of event) (max (depth_of beside) 0) in
    let deeper = le-max_right (depth_of event) (max (depth_of beside) 0) in
    let deepest = le-max_left (depth_of beside) 0 in (
      record { json = json.0; ordered = line.ordered.1; shallow = omega (arith, line.shallow, depth) },
      record { json = (and_parts (is_json beside) _ json.1).0; ordered = line.ordered.2.1; shallow = omega (arith, line.shallow, deeper, deepest) },
    )

parts_of_line : (envelope : Bool) (t : Tree) (parts : Tree × Tree) → parts_of envelope t ≡ Some parts → IsOfLine t → AreOfLine parts
parts_of_line true t parts is line =
    let opens = is_opened t parts is in
    let both = envelope_parts parts.0 parts.1 (subst IsOfLine opens.0 line) in
    record { event = both.0; metadata = both.1; object = is_json_object parts.1 opens.1 both.1.json }
parts_of_line false t parts is line =
    let same : (t, object no_members) ≡ parts = cc in
    let none = object no_members in
    subst AreOfLine same (record { event = line; metadata = record { json = refl; ordered = tt; shallow = omega arith }; object = is_json_object none refl refl })

-- they are, whatever the line
pub lines_stand_for : ((line : List ℕ) (t : Tree) → reading_of line ≡ whole t → IsTrue (is_json t)) → ((line : List ℕ) (t : Tree) → reading_of line ≡ whole t → IsOrdered t)
    → ((line : List ℕ) (t : Tree) → reading_of line ≡ whole t → depth_of t ≤ 127) → LinesStandForJson
lines_stand_for json ordered shallow envelope bytes parts stands =
    parts_of_line envelope stands.tree parts stands.parts_are
    (record { json = json bytes stands.tree stands.reading; ordered = ordered bytes stands.tree stands.reading; shallow = shallow bytes stands.tree stands.reading })

pub well_formed : ((count : ℕ) (t : Tree) → IsTrue (is_json t) → IsTrue (regexes_below count t)) → (count : ℕ) (t : Tree) → IsOfLine t → IsWellFormed count t
well_formed needs_none count t line = record { ordered = line.ordered; below = needs_none count t line.json }
