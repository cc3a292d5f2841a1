-- What the grammar reads as JSON values: how an array or an object begins, goes on by one part, and ends or is refused.
use Rattle.std.proofs.Common.{◌≡◌, ℕ, zero, suc, ◌-◌, ◌<◌, ◌≤◌, List, [], ◌∷◌, length, Option, Some, None, option_map, option_and_then, refl, sym, ap, ◌∙◌}
use Rattle.json.specs.Token.{Token}
use Rattle.json.specs.Json as grammar
use Rattle.json.specs.Json.{Parse, parse_map, after_end_array, read_key, if_last, items_step, items, members}
use Rattle.json.proofs.Grammar.{items_end, items_more, members_end, members_more, members_no_key}
use Rattle.serde_json.specs.Data as json
use Rattle.serde_json.specs.Read.{converted, of_items, of_json, of_members}
use Rattle.vrl_json.proofs.Lines.{map_inverse}

-- what was read under f is what was read, under f
pub read_under : {A B : Type 0} (f : A → Option B) (o : Option (A × List Token)) (b : B) (left : List Token) → converted f o ≡ Some (b, left) → (a : A) × (o ≡ Some (a, left)) × (f a ≡ Some b)
read_under f None b left is = absurd (cc)
read_under f (Some p) b left is =
    let got = map_inverse (λ y. (y, p.1)) (f p.0) (b, left) is in
    (p.0, ap (λ q. Some (p.0, q.1)) (sym got.2), got.1 ∙ ap (λ q. Some q.0) (sym got.2))

none_under : {B : Type 0} (left : List Token) (o : Option B) → option_map {U = B × List Token} (λ y. (y, left)) o ≡ None → o ≡ None
none_under left None is = refl
none_under left (Some y) is = absurd (cc)

under_both : {A B : Type 0} (g : A → B) (left : List Token) (o : Option A) → option_map {U = B × List Token} (λ y. (y, left)) (option_map g o) ≡ parse_map g (option_map (λ y. (y, left)) o)
under_both g left None = refl
under_both g left (Some a) = refl

pub as_array : (o : Option (grammar.Items × List Token)) → converted of_json (parse_map grammar.array o) ≡ parse_map json.array (converted of_items o)
as_array None = refl
as_array (Some p) = under_both json.array p.1 (of_items p.0)

pub as_object : (o : Option (grammar.Members × List Token)) → converted of_json (parse_map grammar.object o) ≡ parse_map json.object (converted (λ all. of_members all json.no_members) o)
as_object None = refl
as_object (Some p) = under_both json.object p.1 (of_members p.0 json.no_members)

-- ---- one part, before the others

item_under : (j : grammar.Json) (d : json.Data) (others : Option (grammar.Items × List Token)) → of_json j ≡ Some d
    → converted of_items (parse_map (grammar.item j) others) ≡ parse_map (json.item d) (converted of_items others)
item_under j d None is = refl
item_under j d (Some p) is = rw is (under_both (json.item d) p.1 (of_items p.0))

no_item : (more : Parse grammar.Items) (first : Option (grammar.Json × List Token)) → converted of_json first ≡ None
    → converted of_items (option_and_then (λ q. parse_map (grammar.item q.0) (more q.1)) first) ≡ None
no_item more None is = refl
no_item more (Some q) is = behind (more q.1)
  where
    none : of_json q.0 ≡ None
    none = none_under q.1 (of_json q.0) is

    behind : (others : Option (grammar.Items × List Token)) → converted of_items (parse_map (grammar.item q.0) others) ≡ None
    behind None = refl
    behind (Some p) = rw none

member_under : (found : json.Members) (name : List ℕ) (j : grammar.Json) (d : json.Data) (others : Option (grammar.Members × List Token)) → of_json j ≡ Some d
    → converted (λ all. of_members all found) (parse_map (grammar.member name j) others) ≡ converted (λ later. of_members later (json.put name d found)) others
member_under found name j d None is = refl
member_under found name j d (Some p) is = rw is

no_member : (found : json.Members) (name : List ℕ) (more : Parse grammar.Members) (first : Option (grammar.Json × List Token)) → converted of_json first ≡ None
    → converted (λ all. of_members all found) (option_and_then (λ q. parse_map (grammar.member name q.0) (more q.1)) first) ≡ None
no_member found name more None is = refl
no_member found name more (Some q) is = behind (more q.1)
  where
    none : of_json q.0 ≡ None
    none = none_under q.1 (of_json q.0) is

    behind : (others : Option (grammar.Members × List Token)) → converted (λ all. of_members all found) (parse_map (grammar.member name q.0) others) ≡ None
    behind None = refl
    behind (Some p) = rw none

module _ (part : Parse grammar.Json) (turns : ℕ) where
  pub item_read : (now left : List Token) (d : json.Data) → 0 < turns → after_end_array now ≡ None → converted of_json (part now) ≡ Some (d, left)
      → converted of_items (items part turns now) ≡ parse_map (json.item d) (converted of_items (items part (turns - 1) left))
  item_read now left d some going is =
      let first = read_under of_json (part now) d left is in
      ap (converted of_items) (items_more part turns now left first.0 some going first.1) ∙ item_under first.0 d (items part (turns - 1) left) first.2

  pub items_over : (now left : List Token) → length now ≤ turns → after_end_array now ≡ Some left → converted of_items (items part turns now) ≡ Some (json.no_items, left)
  items_over now left enough ends = ap (converted of_items) (items_end part turns now left enough ends)

  pub member_read : (found : json.Members) (name : List ℕ) (now behind left : List Token) (d : json.Data) → 0 < turns → read_key now ≡ Some (Some name, behind) → converted of_json (part behind) ≡ Some (d, left)
      → converted (λ all. of_members all found) (members part turns now) ≡ converted (λ later. of_members later (json.put name d found)) (members part (turns - 1) left)
  member_read found name now behind left d some named is =
      let first = read_under of_json (part behind) d left is in
      ap (converted (λ all. of_members all found)) (members_more part turns name now behind left first.0 some named first.1) ∙ member_under found name first.0 d (members part (turns - 1) left) first.2

  pub key_refused : (found : json.Members) (now : List Token) → read_key now ≡ None → converted (λ all. of_members all found) (members part turns now) ≡ None
  key_refused found now none = ap (converted (λ all. of_members all found)) (members_no_key part turns now none)

  pub members_over : (found : json.Members) (now left : List Token) → length now ≤ turns → read_key now ≡ Some (None, left) → converted (λ all. of_members all found) (members part turns now) ≡ Some (found, left)
  members_over found now left enough ends = ap (converted (λ all. of_members all found)) (members_end part turns now left enough ends)

module _ (part : Parse grammar.Json) where
  pub item_refused : (turns : ℕ) (now : List Token) → after_end_array now ≡ None → converted of_json (part now) ≡ None → converted of_items (items part turns now) ≡ None
  unfolding items
  item_refused zero now going none = refl
  item_refused (suc n) now going none = ap (λ end. converted of_items (items_step part (items part n) now end)) going ∙ no_item (items part n) (part now) none

  pub member_refused : (found : json.Members) (turns : ℕ) (name : List ℕ) (now behind : List Token) → read_key now ≡ Some (Some name, behind) → converted of_json (part behind) ≡ None
      → converted (λ all. of_members all found) (members part turns now) ≡ None
  unfolding members
  member_refused found zero name now behind named none = refl
  member_refused found (suc n) name now behind named none = rw named (no_member found name (members part n) (part behind) none)

-- ---- a whole text

abbrev pub alone : Option (grammar.Json × List Token) → Option json.Data
alone o = option_and_then of_json (option_and_then (λ p. if_last p.0 p.1) o)

pub alone-read : (o : Option (grammar.Json × List Token)) (d : json.Data) → converted of_json o ≡ Some (d, []) → alone o ≡ Some d
alone-read o d is = let first = read_under of_json o d [] is in ap alone first.1 ∙ first.2

pub alone-more : (o : Option (grammar.Json × List Token)) (d : json.Data) (t : Token) (left : List Token) → converted of_json o ≡ Some (d, t ∷ left) → alone o ≡ None
alone-more o d t left is = ap alone (read_under of_json o d (t ∷ left) is).1

pub alone-refused : (o : Option (grammar.Json × List Token)) → converted of_json o ≡ None → alone o ≡ None
alone-refused None is = refl
alone-refused (Some (j, [])) is = none_under [] (of_json j) is
alone-refused (Some (j, t ∷ left)) is = refl
