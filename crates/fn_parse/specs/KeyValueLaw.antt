-- `parse_key_value` and `encode_key_value` keep the law.
use Rattle.std.specs.Prelude.{ℕ, zero, suc, ◌-◌, Bool, true, false, List, [], ◌∷◌, ◌||◌, length, codes, Option, Some, None, refl, if◌then◌else◌}
use Rattle.vrl_value.specs.Tree.{Tree, string, boolean, Members, no_members, put, MembersAreOrdered}
use Rattle.vrl_value.proofs.Order.{put_ordered}
use Rattle.vrl_builtin.specs.Containers.{object_of}
use Rattle.vrl_builtin.specs.Law.{IsLawful, KeepsLaw}
use Rattle.vrl_builtin.specs.OneTag.{KeepsOneTag}
use Rattle.vrl_builtin.specs.Rows.{Answer, failure, named, text_at}
use Rattle.vrl_builtin.proofs.Containers.{each_put, object_is_lawful, plain_part, EachMember, IsLawfulPart}
use Rattle.fn_parse.specs.EncodeKeyValue.{encode_key_value_row}
use Rattle.fn_parse.specs.KeyValue.{begins, field_at, FieldAt, entry, fault}
use Rattle.fn_parse.specs.ParseKeyValue.{field_tree, fields_from, is_nothing, parse_key_value_row, parsed, string_or_boolean, with_field}

-- what is gathered from fields
record AreFields (arguments : List (Option Tree)) (ms : Members) : Type 0 where
  pub each : EachMember (IsLawfulPart string_or_boolean arguments) ms
  pub ordered : MembersAreOrdered ms

part_of : (arguments : List (Option Tree)) (v : Option (List ℕ))
    → IsLawfulPart string_or_boolean arguments (field_tree v)
part_of arguments None = plain_part string_or_boolean arguments (boolean true) tt refl
part_of arguments (Some s) = plain_part string_or_boolean arguments (string s) tt refl

one_more : (arguments : List (Option Tree)) (key : List ℕ) (v : Option (List ℕ)) (ms : Members)
    → AreFields arguments ms → AreFields arguments (put key (field_tree v) ms)
one_more arguments key v ms are = record {
  each = each_put (IsLawfulPart string_or_boolean arguments) key (field_tree v) ms (part_of arguments v) are.each;
  ordered = put_ordered key (field_tree v) ms (part_of arguments v).ordered are.ordered;
}

abbrev MayBe : List (Option Tree) → Answer → Type 0
MayBe arguments answer = IsLawful (object_of string_or_boolean) true arguments (named (codes "parse_key_value") answer)

field_may : (arguments : List (Option Tree)) (found : FieldAt) (ms : Members) (others : List ℕ → Members → Answer)
    → AreFields arguments ms →
    ((behind : List ℕ) (ns : Members) → AreFields arguments ns → MayBe arguments (others behind ns))
    → MayBe arguments (with_field found ms others)
field_may arguments (fault words) ms others are so = refl
field_may arguments (entry key v behind) ms others are so =
    so behind (put key (field_tree v) ms) (one_more arguments key v ms are)

start_may : (arguments : List (Option Tree)) (t : Bool) (first second : Answer) → MayBe arguments first
    → MayBe arguments second → MayBe arguments (if t then first else second)
start_may arguments true first second one two = one
start_may arguments false first second one two = two

fields_may : (arguments : List (Option Tree)) (k f : List ℕ) (n : ℕ) (s : List ℕ) (ms : Members)
    → AreFields arguments ms → MayBe arguments (fields_from k f n s ms)
fields_may arguments k f zero [] ms are = object_is_lawful string_or_boolean true arguments ms are.each are.ordered
fields_may arguments k f (suc n) [] ms are = object_is_lawful string_or_boolean true arguments ms are.each are.ordered
fields_may arguments k f (suc n) (b ∷ s) ms are = fields_may arguments k f n s ms are
fields_may arguments k f zero (b ∷ s) ms are =
    start_may arguments (begins f (b ∷ s)) (fields_from k f (length f - 1) s ms)
    (with_field (field_at k f (b ∷ s)) ms (λ behind others. fields_from k f (length s - length behind) s others))
    (fields_may arguments k f (length f - 1) s ms are)
    (field_may arguments (field_at k f (b ∷ s)) ms
    (λ behind others. fields_from k f (length s - length behind) s others) are
    (λ behind ns given. fields_may arguments k f (length s - length behind) s ns given))

parsed_may : (arguments : List (Option Tree)) (k f s : List ℕ) → MayBe arguments (parsed k f s)
parsed_may arguments k f s = start_may arguments (is_nothing k || is_nothing f) (failure (codes "empty delimiter"))
    (fields_from k f 0 s no_members) refl (fields_may arguments k f 0 s no_members (record { each = tt; ordered = tt }))

pub parse_key_value-law : KeepsLaw parse_key_value_row
parse_key_value-law = record {
  present = λ givens sources given below. refl;
  lawful = λ givens arguments setting given fit instances below. parsed_may arguments (text_at 1 (codes "=") arguments)
      (text_at 2 (codes " ") arguments) (text_at 0 [] arguments);
}

pub encode_key_value-law : KeepsOneTag encode_key_value_row
encode_key_value-law = record { present = refl; lawful = λ givens arguments setting fit instances. (tt, refl) }
