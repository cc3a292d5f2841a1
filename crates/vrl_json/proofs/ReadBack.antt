-- What is written for a value is read back as that value.
use Rattle.std.proofs.Common.{◌≡◌, ℕ, suc, ◌^◌, ◌<◌, ◌≤◌, ℤ, pos, negsuc, List, [], Some, option_map, option_and_then, IsTrue, Less, Greater, nat_cmp, refl, sym, ap, ◌∙◌, arith, append-nil, lt-ltb}
use Rattle.std.proofs.lemmas.Bool.{and_parts}
use Rattle.std.proofs.lemmas.Cmp.{nat_list_cmp_total}
use Rattle.std.proofs.lemmas.Str.{is_utf8-from_IsUtf8}
use Rattle.std.specs.Prelude.{⊤, FitsSigned}
use Rattle.std.specs.Cmp.Lexicographic.{slice_cmp}
use Rattle.std.specs.Int.{w64}
use Rattle.std.specs.Ordering.{ordering_reverse}
use Rattle.std.specs.Str.{IsUtf8}
use Rattle.json.specs.Lex.{tokens}
use Rattle.json.specs.Json as text
use Rattle.json.specs.Tree as tree
use Rattle.json.proofs.Printed.Trees.{value-json_tokens}
use Rattle.serde_json.specs.Data as json
use Rattle.serde_json.specs.Read as reading
use Rattle.serde_json.specs.Read.{of_json, of_items, of_members, max_depth, read}
use Rattle.serde_json.specs.Written.{number_text, outline, items_outline, members_outline}
use Rattle.serde_json.proofs.Numbers.{number_of-decimal, number_of-negative}
use Rattle.vrl_value.specs.Depth.{depth_of, items_depth, members_depth}
use Rattle.vrl_value.specs.Tree.{Tree, string, integer, boolean, null, timestamp, regex, array, object, Items, no_items, item, Members, no_members, member, IsBefore, IsOrdered, ItemsAreOrdered, MembersAreOrdered, is_json, items_are_json, members_are_json}
use Rattle.vrl_json.specs.Held.{IntegersFit, ItemsFit, MembersFit, IsHeld}
use Rattle.vrl_json.specs.Line.{number_of, data_of, items_data, members_data, whole_number, whole_tree, whole_items, whole_members, reading_of, whole}

-- ---- numbers

number_read : (n : ℤ) → FitsSigned w64 n → reading.number_of (number_text (number_of n)) ≡ Some (number_of n)
number_read (pos n) fits = number_of-decimal n (omega (arith, fits))
number_read (negsuc n) fits = number_of-negative n (omega (arith, fits))

number_whole : (n : ℤ) → FitsSigned w64 n → whole_number (number_of n) ≡ Some n
number_whole (pos n) fits = let small : n < 2 ^ 63 = omega (arith, fits) in rw (lt-ltb _ _ small) refl
number_whole (negsuc n) fits = refl

-- ---- members go in one after another, each behind those before

-- the key is behind each of these
abbrev IsBehind : List ℕ → json.Members → Type 0
IsBehind k json.no_members = ⊤
IsBehind k (json.member l d ds) = (slice_cmp nat_cmp k l ≡ Greater) × IsBehind k ds

-- and so is each of these keys
abbrev AreBehind : Members → json.Members → Type 0
AreBehind no_members found = ⊤
AreBehind (member k t ms) found = IsBehind k found × AreBehind ms found

abbrev joined : json.Members → json.Members → json.Members
joined json.no_members ds = ds
joined (json.member k d found) ds = json.member k d (joined found ds)

put-behind : (k : List ℕ) (d : json.Data) (found : json.Members) → IsBehind k found → json.put k d found ≡ joined found (json.member k d json.no_members)
put-behind k d json.no_members behind = refl
put-behind k d (json.member l e found) behind = rw behind.0 (ap (json.member l e) (put-behind k d found behind.1))

joined-assoc : (found : json.Members) (k : List ℕ) (d : json.Data) (ds : json.Members) → joined (joined found (json.member k d json.no_members)) ds ≡ joined found (json.member k d ds)
joined-assoc json.no_members k d ds = refl
joined-assoc (json.member l e found) k d ds = ap (json.member l e) (joined-assoc found k d ds)

joined-end : (found : json.Members) → found ≡ joined found json.no_members
joined-end json.no_members = refl
joined-end (json.member k d found) = ap (json.member k d) (joined-end found)

is_behind-joined : (l k : List ℕ) (d : json.Data) (found : json.Members) → IsBehind l found → slice_cmp nat_cmp k l ≡ Less → IsBehind l (joined found (json.member k d json.no_members))
is_behind-joined l k d json.no_members behind before = (nat_list_cmp_total.antisymm l k ∙ ap ordering_reverse before, tt)
is_behind-joined l k d (json.member m e found) behind before = (behind.0, is_behind-joined l k d found behind.1 before)

are_behind-joined : (ms : Members) (k : List ℕ) (d : json.Data) (found : json.Members) → AreBehind ms found → IsBefore k ms → AreBehind ms (joined found (json.member k d json.no_members))
are_behind-joined no_members k d found behind before = tt
are_behind-joined (member l t ms) k d found behind before = (is_behind-joined l k d found behind.0 before.0, are_behind-joined ms k d found behind.1 before.1)

are_behind-none : (ms : Members) → AreBehind ms json.no_members
are_behind-none no_members = tt
are_behind-none (member k t ms) = (tt, are_behind-none ms)

-- ---- what is written reads as the value's JSON

mutual
  data_read : (sources : List (List ℕ)) (t : Tree) → IsOrdered t → IntegersFit t → of_json (outline (data_of sources t)) ≡ Some (data_of sources t)
  data_read sources (string s) ordered fits = refl
  data_read sources (integer n) ordered fits = rw (number_read n fits) refl
  data_read sources (boolean b) ordered fits = refl
  data_read sources null ordered fits = refl
  data_read sources (timestamp nanos) ordered fits = refl
  data_read sources (regex n) ordered fits = refl
  data_read sources (array ts) ordered fits = ap (option_map json.array) (items_read sources ts ordered fits)
  data_read sources (object ms) ordered fits = ap (option_map json.object) (members_read sources ms json.no_members ordered fits (are_behind-none ms))

  items_read : (sources : List (List ℕ)) (ts : Items) → ItemsAreOrdered ts → ItemsFit ts → of_items (items_outline (items_data sources ts)) ≡ Some (items_data sources ts)
  items_read sources no_items ordered fits = refl
  items_read sources (item t ts) ordered fits = rw (data_read sources t ordered.0 fits.0, items_read sources ts ordered.1 fits.1) refl

  members_read : (sources : List (List ℕ)) (ms : Members) (found : json.Members) → MembersAreOrdered ms → MembersFit ms → AreBehind ms found → of_members (members_outline (members_data sources ms)) found ≡ Some (joined found (members_data sources ms))
  members_read sources no_members found ordered fits behind = ap Some (joined-end found)
  members_read sources (member k t ms) found ordered fits behind =
      let d = data_of sources t in
      let next = joined found (json.member k d json.no_members) in
      rw (data_read sources t ordered.1 fits.0, put-behind k d found behind.0)
      (members_read sources ms next ordered.2 fits.1 (are_behind-joined ms k d found behind.1 ordered.0) ∙ ap Some (joined-assoc found k d (members_data sources ms)))

-- ---- and nests as deep as the value

mutual
  depth-outline : (sources : List (List ℕ)) (t : Tree) → tree.depth (outline (data_of sources t)) ≡ depth_of t
  depth-outline sources (string s) = refl
  depth-outline sources (integer n) = refl
  depth-outline sources (boolean b) = refl
  depth-outline sources null = refl
  depth-outline sources (timestamp nanos) = refl
  depth-outline sources (regex n) = refl
  depth-outline sources (array ts) = ap suc (items_depth-outline sources ts)
  depth-outline sources (object ms) = ap suc (members_depth-outline sources ms)

  items_depth-outline : (sources : List (List ℕ)) (ts : Items) → tree.items_depth (items_outline (items_data sources ts)) ≡ items_depth ts
  items_depth-outline sources no_items = refl
  items_depth-outline sources (item t ts) = rw (depth-outline sources t, items_depth-outline sources ts) refl

  members_depth-outline : (sources : List (List ℕ)) (ms : Members) → tree.members_depth (members_outline (members_data sources ms)) ≡ members_depth ms
  members_depth-outline sources no_members = refl
  members_depth-outline sources (member k t ms) = rw (depth-outline sources t, members_depth-outline sources ms) refl

-- ---- and this JSON stands for the value

mutual
  data_whole : (sources : List (List ℕ)) (t : Tree) → IsTrue (is_json t) → IntegersFit t → whole_tree (data_of sources t) ≡ Some t
  data_whole sources (string s) json fits = refl
  data_whole sources (integer n) json fits = rw (number_whole n fits) refl
  data_whole sources (boolean b) json fits = refl
  data_whole sources null json fits = refl
  data_whole sources (timestamp nanos) json fits = absurd (cc)
  data_whole sources (regex n) json fits = absurd (cc)
  data_whole sources (array ts) json fits = ap (option_map array) (items_whole sources ts json fits)
  data_whole sources (object ms) json fits = ap (option_map object) (members_whole sources ms json fits)

  items_whole : (sources : List (List ℕ)) (ts : Items) → IsTrue (items_are_json ts) → ItemsFit ts → whole_items (items_data sources ts) ≡ Some ts
  items_whole sources no_items json fits = refl
  items_whole sources (item t ts) json fits =
      let parts = and_parts (is_json t) (items_are_json ts) json in
      rw (data_whole sources t parts.0 fits.0, items_whole sources ts parts.1 fits.1) refl

  members_whole : (sources : List (List ℕ)) (ms : Members) → IsTrue (members_are_json ms) → MembersFit ms → whole_members (members_data sources ms) ≡ Some ms
  members_whole sources no_members json fits = refl
  members_whole sources (member k t ms) json fits =
      let parts = and_parts (is_json t) (members_are_json ms) json in
      rw (data_whole sources t parts.0 fits.0, members_whole sources ms parts.1 fits.1) refl

-- ---- a line

-- its tokens are read as the JSON that they are of
tokens_read : (line : List ℕ) (j : text.Json) → tokens line ≡ tree.json_tokens j → tree.depth j ≤ max_depth → read line ≡ of_json j
tokens_read line j are shallow =
    ap (λ ts. option_and_then of_json (option_and_then (λ p. text.if_last p.0 p.1) (text.value max_depth ts))) (are ∙ sym (append-nil (tree.json_tokens j)))
    ∙ ap (λ p. option_and_then of_json (option_and_then (λ p. text.if_last p.0 p.1) p)) (value-json_tokens j max_depth [] shallow)

pub line_read_back : (sources : List (List ℕ)) (t : Tree) (line : List ℕ) → IsHeld t → IsUtf8 line → tokens line ≡ tree.json_tokens (outline (data_of sources t)) → IsTrue (is_json t) → depth_of t ≤ max_depth → reading_of line ≡ whole t
line_read_back sources t line held text are json shallow =
    let d = data_of sources t in
    let same = depth-outline sources t in
    let found = tokens_read line (outline d) are (omega arith) ∙ data_read sources t held.0 held.1 in
    rw (is_utf8-from_IsUtf8 line text, found, data_whole sources t json held.1) refl
