use Rattle.std.proofs.Common.{◌≡◌, ◌-◌, ◌<◌, [], ◌∷◌, length, Some, None, sym, ap, ap₂, refl, subst, IsTrue, ◌∙◌, arith, rules}
use Rattle.std.proofs.lemmas.Grind.{common_steps}
use Rattle.json.specs.Token.{Token}
use Rattle.json.specs.Json.{after_end_array, items, members, parse_map, read_key, value}
use Rattle.json.specs.Reads.{token_of}
use Rattle.json.proofs.Grammar.{read_key-shorter, value-begin_array, value-begin_object, value_is}
use Rattle.serde_json.specs.Data as json
use Rattle.serde_json.specs.Read.{converted, of_json}
use Rattle.vrl_value.specs.Tree.{array, boolean, is_json, items_are_json, members_are_json, null, object, string}
use Rattle.vrl_value.specs.View.{items_of, items_view, members_of, members_view, tree_of}
use Rattle.vrl_value.specs.declared.value.Value.{Bool, List, Null, Object, Text, the_lemmas}
use Rattle.vrl_json.specs.Drafts.{draft_items, draft_members, draft_tree, TellsStandIns}
use Rattle.vrl_json.proofs.Reading.{joined, joined-no_items, draft_items-pushed, draft_members-put, none_yet, number_read, number_refused, one_more, joined_json, told_more}
use Rattle.vrl_json.proofs.Turns.{as_array, as_object, item_read, item_refused, items_over, key_refused, member_read, member_refused, members_over}
use Rattle.vrl_json.proofs.read.+read.Goals as goal

-- ---- an object

pub read_fields-members-init : goal.read_fields-members-init
read_fields-members-init t c = (
  length c.args.reader.now,
  json.no_members,
  record {
    enough = omega arith;
    whole = refl;
    found = c.new-found.ensures ∙ ap members_view c.new.ensures.empty;
    told = λ none. (none, refl);
    shorter = omega arith;
  },
)

pub read_fields-returns-in_err-name-clause-not_json : goal.read_fields-returns-in_err-name-clause-not_json
read_fields-returns-in_err-name-clause-not_json t c refused =
    let l = c.members in
    l.invariant.2.whole ∙ key_refused (value c.args.depth) l.invariant.0 l.invariant.1 l.reader c.in_err-name.ensures.value

pub read_fields-returns-in_err-value-clause-not_json : goal.read_fields-returns-in_err-value-clause-not_json
read_fields-returns-in_err-value-clause-not_json t c refused =
    let l = c.members in
    let name = c.in-Some.name.now in
    let behind = c.next_key.new.self in
    let named : read_key l.reader ≡ Some (Some name, behind) = grind arith in
    l.invariant.2.whole ∙ member_refused (value c.args.depth) l.invariant.1 l.invariant.0 name l.reader behind named (c.read_value.ensures.not_json (grind (arith, common_steps)))

pub read_fields-members-preserved : goal.read_fields-members-preserved
read_fields-members-preserved t c =
    let l = c.members in
    let turns = l.invariant.0 in
    let ms = l.invariant.1 in
    let was = l.invariant.2 in
    let name = c.in-Some.name.now in
    let behind = c.next_key.new.self in
    let named : read_key l.reader ≡ Some (Some name, behind) = grind arith in
    let read = c.in_ok-value.ensures.ok in
    let key_passed = read_key-shorter l.reader (Some name) behind named in
    let put_so : members_of c.insert.new.self ≡ draft_members (json.put name read.0 ms) =
    rw (c.in_ok-name-2.ensures, read.2, was.found) at c.in_ok-insert.ensures.ok ∙ sym (draft_members-put name read.0 ms) in
    let stays : IsTrue (is_json (draft_tree read.0)) → IsTrue (members_are_json (draft_members ms)) →
    IsTrue (members_are_json (draft_members (json.put name read.0 ms))) =
    λ part parts.
    let value_so = subst (λ tree. IsTrue (is_json tree)) (sym read.2) part in
    let members_so = subst (λ all. IsTrue (members_are_json all)) (sym was.found) parts in
    subst (λ all. IsTrue (members_are_json all)) put_so (c.insert.ensures.json value_so members_so) in
    let passed = c.in_ok-value.ensures.shorter in (
      turns - 1,
      json.put name read.0 ms,
      record {
        enough = omega (arith, was.enough);
        whole = was.whole ∙ member_read (value c.args.depth) turns ms name l.reader behind c.read_value.new.reader read.0 (omega (arith, was.enough)) named read.1;
        found = put_so;
        told = told_more _ _ _ (is_json (draft_tree read.0)) (members_are_json (draft_members ms)) _ stays was.told read.3;
        shorter = omega (arith, was.shorter);
      },
    )

pub read_fields-returns-clause-ok : goal.read_fields-returns-clause-ok
read_fields-returns-clause-ok t c =
    let l = c.members in (
      l.invariant.1,
      l.invariant.2.whole ∙ members_over (value c.args.depth) l.invariant.0 l.invariant.1 l.reader c.next_key.new.self l.invariant.2.enough (grind arith),
      l.invariant.2.found,
      l.invariant.2.told,
    )

-- ---- an array

pub read_items-items-init : goal.read_items-items-init
read_items-items-init t c = (
  length c.args.reader.now,
  json.no_items,
  record {
    enough = omega arith;
    whole = none_yet _;
    found = ap items_view c.new-found.ensures.items;
    told = λ none. (none, refl);
    shorter = omega arith;
  },
)

pub read_items-returns-in_err-value-clause-not_json : goal.read_items-returns-in_err-value-clause-not_json
read_items-returns-in_err-value-clause-not_json t c refused =
    let l = c.items in
    let going : (after_end_array l.reader ≡ None) × (c.take_end_array.new.self ≡ l.reader) = grind arith in
    l.invariant.2.whole
    ∙ ap (parse_map (joined l.invariant.1)) (item_refused (value c.args.depth) l.invariant.0 l.reader going.0 (rw (← going.1) (c.read_value.ensures.not_json (grind (arith, common_steps)))))

pub read_items-items-preserved : goal.read_items-items-preserved
read_items-items-preserved t c =
    let l = c.items in
    let turns = l.invariant.0 in
    let ds = l.invariant.1 in
    let was = l.invariant.2 in
    let going : (after_end_array l.reader ≡ None) × (c.take_end_array.new.self ≡ l.reader) = grind arith in
    let read = c.in_ok-value.ensures.ok in
    let passed : length c.read_value.new.reader < length l.reader = rw (← going.1) c.in_ok-value.ensures.shorter in
    let turn = item_read (value c.args.depth) turns l.reader c.read_value.new.reader read.0 (omega (arith, was.enough)) going.0 (rw (← going.1) read.1) in (
      turns - 1,
      joined ds (json.item read.0 json.no_items),
      record {
        enough = omega (arith, was.enough);
        whole = was.whole ∙ ap (parse_map (joined ds)) turn ∙ one_more ds read.0 _;
        found = ap items_view c.in_ok-push.ensures ∙ draft_items-pushed ds read.0 l.found.items c.in_ok-value.value was.found read.2;
        told = told_more _ _ _ (is_json (draft_tree read.0)) (items_are_json (draft_items ds)) _ (joined_json ds read.0)
            was.told read.3;
        shorter = omega (arith, was.shorter);
      },
    )

pub read_items-returns-clause-ok : goal.read_items-returns-clause-ok
read_items-returns-clause-ok t c =
    let l = c.items in
    let behind = c.take_end_array.new.self in (
      l.invariant.1,
      l.invariant.2.whole ∙ ap (parse_map (joined l.invariant.1)) (items_over (value c.args.depth) l.invariant.0 l.reader behind l.invariant.2.enough (grind arith)) ∙ ap (λ ds. Some (ds, behind)) (joined-no_items l.invariant.1),
      c.new.ensures ∙ l.invariant.2.found,
      l.invariant.2.told,
    )

-- ---- a value, by its first token

pub read_value-returns-in_default-clause-not_json : goal.read_value-returns-in_default-clause-not_json
read_value-returns-in_default-clause-not_json t c refused =
    let none : c.args.reader.now ≡ [] = grind arith in
    ap (converted of_json) (ap (value c.args.depth) none ∙ value_is c.args.depth [])

pub read_value-returns-in-EndObject-clause-not_json : goal.read_value-returns-in-EndObject-clause-not_json
read_value-returns-in-EndObject-clause-not_json t c refused =
    let first : c.args.reader.now ≡ token_of c.in-Some.token ∷ c.next.new.self = grind arith in
    let none : value c.args.depth c.args.reader.now ≡ None = rw (value_is c.args.depth c.args.reader.now, first) (grind arith) in
    ap (converted of_json) none

pub read_value-returns-in_ok-copy_of-in-String-clause-ok : goal.read_value-returns-in_ok-copy_of-in-String-clause-ok
read_value-returns-in_ok-copy_of-in-String-clause-ok t c =
    let first : c.args.reader.now ≡ token_of c.in-Some.token ∷ c.next.new.self = grind arith in
    let is : c.args.reader.now ≡ Token.string c.in-String.text.now ∷ c.next.new.self = grind (arith, first) in
    let same : tree_of (Text c.in_ok-copy_of-in-String.field-0) ≡ string c.in-String.text.now = search (rules, the_lemmas) in
    let read = ap (converted of_json) (ap (value c.args.depth) is ∙ value_is c.args.depth _) in
    (json.string c.in-String.text.now, read, same, λ none. (none, refl))

pub read_value-returns-in-Bool-clause-ok : goal.read_value-returns-in-Bool-clause-ok
read_value-returns-in-Bool-clause-ok t c =
    let first : c.args.reader.now ≡ token_of c.in-Some.token ∷ c.next.new.self = grind arith in
    let is : c.args.reader.now ≡ Token.boolean c.in-Bool.truth ∷ c.next.new.self = grind (arith, first) in
    let same : tree_of (Bool c.in-Bool.truth) ≡ boolean c.in-Bool.truth = search (rules, the_lemmas) in
    let read = ap (converted of_json) (ap (value c.args.depth) is ∙ value_is c.args.depth _) in
    (json.boolean c.in-Bool.truth, read, same, λ none. (none, refl))

pub read_value-returns-in-Null-clause-ok : goal.read_value-returns-in-Null-clause-ok
read_value-returns-in-Null-clause-ok t c =
    let first : c.args.reader.now ≡ token_of c.in-Some.token ∷ c.next.new.self = grind arith in
    let is : c.args.reader.now ≡ Token.null ∷ c.next.new.self = grind (arith, first) in
    let same : tree_of Null ≡ null = search (rules, the_lemmas) in
    let read = ap (converted of_json) (ap (value c.args.depth) is ∙ value_is c.args.depth _) in
    (json.null, read, same, λ none. (none, refl))

pub read_value-returns-in-Some-number_in-clause-ok : goal.read_value-returns-in-Some-number_in-clause-ok
read_value-returns-in-Some-number_in-clause-ok t c =
    let first : c.args.reader.now ≡ token_of c.in-Some.token ∷ c.next.new.self = grind arith in
    let is : c.args.reader.now ≡ Token.number c.in-Number.text.now ∷ c.next.new.self = grind (arith, first) in
    let read = number_read c.args.depth c.in-Number.text.now c.next.new.self c.in-Some-number_in.number (c.number_in.ensures ∙ c.in-Some-number_in.is) in (
      read.0,
      ap (λ tokens. converted of_json (value c.args.depth tokens)) is ∙ read.1,
      c.draft.ensures.value ∙ read.2,
      subst (λ tree. TellsStandIns c.args.has_stand_ins.now c.draft.new.has_stand_ins (is_json tree)) read.2 c.draft.ensures.told,
    )

pub read_value-returns-in-None-clause-not_json : goal.read_value-returns-in-None-clause-not_json
read_value-returns-in-None-clause-not_json t c refused =
    let first : c.args.reader.now ≡ token_of c.in-Some.token ∷ c.next.new.self = grind arith in
    let is : c.args.reader.now ≡ Token.number c.in-Number.text.now ∷ c.next.new.self = grind (arith, first) in
    ap (λ tokens. converted of_json (value c.args.depth tokens)) is ∙ number_refused c.args.depth c.in-Number.text.now c.next.new.self (c.number_in.ensures ∙ c.in-None.is)

pub read_value-returns-then-depth-eq0-clause-not_json : goal.read_value-returns-then-depth-eq0-clause-not_json
unfolding value
read_value-returns-then-depth-eq0-clause-not_json t c refused =
    let first : c.args.reader.now ≡ token_of c.in-Some.token ∷ c.next.new.self = grind arith in
    let none : c.args.depth ≡ 0 = omega arith in
    ap (converted of_json) (ap₂ value none (first ∙ ap (λ token. token_of token ∷ c.next.new.self) c.in-BeginArray.is))

pub read_value-returns-then-depth-eq0-2-clause-not_json : goal.read_value-returns-then-depth-eq0-2-clause-not_json
unfolding value
read_value-returns-then-depth-eq0-2-clause-not_json t c refused =
    let first : c.args.reader.now ≡ token_of c.in-Some.token ∷ c.next.new.self = grind arith in
    let none : c.args.depth ≡ 0 = omega arith in
    ap (converted of_json) (ap₂ value none (first ∙ ap (λ token. token_of token ∷ c.next.new.self) c.in-BeginObject.is))

pub read_value-returns-in_err-read_items-in-BeginArray-clause-not_json : goal.read_value-returns-in_err-read_items-in-BeginArray-clause-not_json
read_value-returns-in_err-read_items-in-BeginArray-clause-not_json t c refused =
    let first : c.args.reader.now ≡ token_of c.in-Some.token ∷ c.next.new.self = grind arith in
    let inside = items (value (c.args.depth - 1)) (length c.next.new.self) c.next.new.self in
    let opened = ap (converted of_json) (ap (value c.args.depth) (first ∙ ap (λ token. token_of token ∷ c.next.new.self) c.in-BeginArray.is) ∙ value-begin_array c.args.depth c.next.new.self (omega arith)) ∙ as_array inside in
    opened ∙ ap (parse_map json.array) (c.read_items.ensures.not_json (grind (arith, common_steps)))

pub read_value-returns-in_err-read_fields-in-BeginObject-clause-not_json : goal.read_value-returns-in_err-read_fields-in-BeginObject-clause-not_json
read_value-returns-in_err-read_fields-in-BeginObject-clause-not_json t c refused =
    let first : c.args.reader.now ≡ token_of c.in-Some.token ∷ c.next.new.self = grind arith in
    let inside = members (value (c.args.depth - 1)) (length c.next.new.self) c.next.new.self in
    let opened = ap (converted of_json) (ap (value c.args.depth) (first ∙ ap (λ token. token_of token ∷ c.next.new.self) c.in-BeginObject.is) ∙ value-begin_object c.args.depth c.next.new.self (omega arith)) ∙ as_object inside in
    opened ∙ ap (parse_map json.object) (c.read_fields.ensures.not_json (grind (arith, common_steps)))

pub read_value-returns-in_ok-read_items-in-BeginArray-clause-ok : goal.read_value-returns-in_ok-read_items-in-BeginArray-clause-ok
read_value-returns-in_ok-read_items-in-BeginArray-clause-ok t c =
    let first : c.args.reader.now ≡ token_of c.in-Some.token ∷ c.next.new.self = grind arith in
    let inside = items (value (c.args.depth - 1)) (length c.next.new.self) c.next.new.self in
    let opened = ap (converted of_json) (ap (value c.args.depth) (first ∙ ap (λ token. token_of token ∷ c.next.new.self) c.in-BeginArray.is) ∙ value-begin_array c.args.depth c.next.new.self (omega arith)) ∙ as_array inside in
    let read = c.in_ok-read_items-in-BeginArray.ensures.ok in
    let same : tree_of (List c.in_ok-read_items-in-BeginArray.field-0) ≡ array (items_of c.in_ok-read_items-in-BeginArray.field-0) = search (rules, the_lemmas) in
    (json.array read.0, opened ∙ ap (parse_map json.array) read.1, same ∙ ap array read.2, read.3)

pub read_value-returns-in_ok-read_fields-in-BeginObject-clause-ok : goal.read_value-returns-in_ok-read_fields-in-BeginObject-clause-ok
read_value-returns-in_ok-read_fields-in-BeginObject-clause-ok t c =
    let first : c.args.reader.now ≡ token_of c.in-Some.token ∷ c.next.new.self = grind arith in
    let inside = members (value (c.args.depth - 1)) (length c.next.new.self) c.next.new.self in
    let opened = ap (converted of_json) (ap (value c.args.depth) (first ∙ ap (λ token. token_of token ∷ c.next.new.self) c.in-BeginObject.is) ∙ value-begin_object c.args.depth c.next.new.self (omega arith)) ∙ as_object inside in
    let read = c.in_ok-read_fields-in-BeginObject.ensures.ok in
    let same : tree_of (Object c.in_ok-read_fields-in-BeginObject.field-0) ≡ object (members_of c.in_ok-read_fields-in-BeginObject.field-0) = search (rules, the_lemmas) in
    (json.object read.0, opened ∙ ap (parse_map json.object) read.1, same ∙ ap object read.2, read.3)
