-- Pairs that are put one after the other leave the last value of each name.
use Rattle.std.proofs.Common.{◌≡◌, ℕ, Bool, true, false, List, [], ◌∷◌, Option, Some, None, bytes_eq, refl, sym, ap, ◌∙◌, subst}
use Rattle.std.proofs.lemmas.Slice.Eq.{bytes_eq-Decides}
use Rattle.vrl_value.specs.Laws.{MembersAreMaps}
use Rattle.vrl_value.specs.Tree.{Tree, string, Members, no_members, find, put, MembersAreOrdered}
use Rattle.vrl_value.proofs.Members.{find-put, find-put_other}
use Rattle.vrl_value.proofs.Order.{put_ordered}
use Rattle.vrl_builtin.proofs.GivenTags.{no}
use Rattle.fn_parse.specs.Gathering.{put_pair, put_pairs}
use Rattle.fn_parse.specs.Url.{last_values, put_unless}

-- what is found, or else what was there before
abbrev or_before : Option Tree → Option Tree → Option Tree
or_before (Some v) before = Some v
or_before None before = before

abbrev if_same : Bool → List ℕ → Option Tree → Option Tree
if_same true s before = Some (string s)
if_same false s before = before

put_found : (b : Bool) (k j s : List ℕ) (ms : Members) → bytes_eq k j ≡ b → find k (put j (string s) ms) ≡ if_same b s (find k ms)
put_found true k j s ms is =
    let same : k ≡ j = (bytes_eq-Decides k j).0 is in
    subst (λ (l : List ℕ). find k (put l (string s) ms) ≡ Some (string s)) same (find-put k (string s) ms)
put_found false k j s ms is = find-put_other k j (string s) ms (λ same. no (sym is ∙ (bytes_eq-Decides k j).1 same))

-- what stands at a name where a pair is put unless one is found at its own
unless_found : (found : Option Tree) (k j s : List ℕ) (ms : Members) → find j ms ≡ found → find k (put_unless found j (string s) ms) ≡ or_before (find k ms) (if_same (bytes_eq k j) s None)
unless_found (Some v) k j s ms is = at_other (bytes_eq k j) refl where
  or_none : (o : Option Tree) → o ≡ or_before o None
  or_none None = refl
  or_none (Some u) = refl

  at_other : (b : Bool) → bytes_eq k j ≡ b → find k ms ≡ or_before (find k ms) (if_same b s None)
  at_other true same = let found : find k ms ≡ Some v = ap (λ l. find l ms) ((bytes_eq-Decides k j).0 same) ∙ is in rw found refl
  at_other false other = or_none (find k ms)
unless_found None k j s ms is = put_found (bytes_eq k j) k j s ms refl ∙ at_name (bytes_eq k j) refl where
  or_none : (o : Option Tree) → o ≡ or_before o None
  or_none None = refl
  or_none (Some u) = refl

  at_name : (b : Bool) → bytes_eq k j ≡ b → if_same b s (find k ms) ≡ or_before (find k ms) (if_same b s None)
  at_name true same = let none : find k ms ≡ None = ap (λ l. find l ms) ((bytes_eq-Decides k j).0 same) ∙ is in rw none refl
  at_name false other = or_none (find k ms)

or_assoc : (a : Option Tree) (b : Bool) (s : List ℕ) (before : Option Tree) → or_before a (if_same b s before) ≡ or_before (or_before a (if_same b s None)) before
or_assoc (Some v) b s before = refl
or_assoc None true s before = refl
or_assoc None false s before = refl

all_put : (k : List ℕ) (ps : List (List ℕ × List ℕ)) (ms : Members) → find k (put_pairs ps ms) ≡ or_before (find k (last_values ps)) (find k ms)
all_put k [] ms = refl
all_put k (p ∷ ps) ms =
    all_put k ps (put_pair p ms)
    ∙ ap (or_before (find k (last_values ps))) (put_found (bytes_eq k p.0) k p.0 p.1 ms refl)
    ∙ or_assoc (find k (last_values ps)) (bytes_eq k p.0) p.1 (find k ms)
    ∙ ap (λ o. or_before o (find k ms)) (sym (unless_found (find p.0 (last_values ps)) k p.0 p.1 (last_values ps) refl))

put_all_ordered : (ps : List (List ℕ × List ℕ)) (ms : Members) → MembersAreOrdered ms → MembersAreOrdered (put_pairs ps ms)
put_all_ordered [] ms ordered = ordered
put_all_ordered (p ∷ ps) ms ordered = put_all_ordered ps (put_pair p ms) (put_ordered p.0 (string p.1) ms tt ordered)

unless_ordered : (found : Option Tree) (k s : List ℕ) (ms : Members) → MembersAreOrdered ms → MembersAreOrdered (put_unless found k (string s) ms)
unless_ordered (Some v) k s ms ordered = ordered
unless_ordered None k s ms ordered = put_ordered k (string s) ms tt ordered

last_ordered : (ps : List (List ℕ × List ℕ)) → MembersAreOrdered (last_values ps)
last_ordered [] = tt
last_ordered (p ∷ ps) = unless_ordered (find p.0 (last_values ps)) p.0 p.1 (last_values ps) (last_ordered ps)

or_nothing : (o : Option Tree) → or_before o None ≡ o
or_nothing None = refl
or_nothing (Some v) = refl

pub latest_is : MembersAreMaps → (ps : List (List ℕ × List ℕ)) → put_pairs ps no_members ≡ last_values ps
latest_is maps ps =
    maps.one_map (put_pairs ps no_members) (last_values ps) (put_all_ordered ps no_members tt) (last_ordered ps) (λ k. all_put k ps no_members ∙ or_nothing (find k (last_values ps)))
