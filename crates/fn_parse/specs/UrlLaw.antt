-- `parse_url` keeps the law.
use Rattle.std.specs.Prelude.{◌≡◌, ℕ, pos, true, List, [], ◌∷◌, Option, Some, None, Ok, Err, codes, option_map, unwrap_or, IsTrue, IfSome, refl, ⊤}
use Rattle.std.specs.Cmp.Lexicographic.{slice_cmp}
use Rattle.std.specs.Ordering.{match_ordering, nat_cmp}
use Rattle.std.specs.declared.cmp.Ordering.{Ordering}
use Rattle.std.specs.declared.cmp.Ordering.TheVariants.{Less, Equal, Greater}
use Rattle.url.specs.Host.{host_text}
use Rattle.url.specs.Parser.{Parsed, parse_url}
use Rattle.url.specs.Parts.{Parts, nonempty_host}
use Rattle.vrl_value.specs.Look.{Step, field, place, found_behind, found_if, raw_at, tag_found}
use Rattle.vrl_value.specs.Tree.{Tree, string, integer, null, object, Members, no_members, member, find, IsBefore, MembersAreOrdered}
use Rattle.vrl_value.proofs.Order.{put_ordered}
use Rattle.vrl_kind.specs.Kinds.{never_at, or_absent}
use Rattle.vrl_kind.specs.Sets.{Sets, IsAllowed}
use Rattle.vrl_kind.specs.Tags.{Tags}
use Rattle.vrl_builtin.specs.Containers.{object_of}
use Rattle.vrl_builtin.specs.Law.{IsLawful, KeepsLaw}
use Rattle.vrl_builtin.specs.Rows.{named, text_at, value}
use Rattle.vrl_builtin.proofs.Containers.{each_put, object_is_lawful, plain_part, EachMember, IsLawfulPart}
use Rattle.vrl_builtin.proofs.AnswerParts.{any_part, everything}
use Rattle.fn_parse.specs.Named.{named_at, object_with}
use Rattle.fn_parse.specs.Pairs.{pairs_of}
use Rattle.fn_parse.specs.Url.{last_values, members_of_url, number_or_null, numbers_or_null, parse_url_row, put_unless, text_or_null, texts, texts_or_null, url_answer, url_fields}

-- ---- objects with known fields

-- the members have these names, and each is of the sets beside its name
abbrev AreOf : Members → List (List ℕ × Sets) → Type 0
AreOf no_members [] = ⊤
AreOf no_members (e ∷ es) = ⊥
AreOf (member k v ms) [] = ⊥
AreOf (member k v ms) (e ∷ es) = (k ≡ e.0) × IsAllowed v e.1 × AreOf ms es

abbrev IsOf : Option Tree → List Step → Tags → Type 0
IsOf found p T = IfSome (tag_found (found_behind (found_if found) p (λ u. raw_at u p))) (λ t. IsTrue (T t))

nothing_there : (p : List Step) → IsOf None p (or_absent p (never_at p))
nothing_there [] = refl
nothing_there (s ∷ p) = tt

present_there : (v : Tree) (p : List Step) (A : Sets) → IsAllowed v A → IsOf (Some v) p (A p)
present_there v [] A of = of []
present_there v (s ∷ p) A of = of (s ∷ p)

by_order : (o : Ordering) (found : Option Tree) (v : Tree) (p : List Step) (T : Tags) (A : Sets) → IsOf found p T
    → IsAllowed v A → IsOf (match_ordering o found (Some v) found) p (match_ordering o T (A p) T)
by_order Less found v p T A other of = other
by_order Equal found v p T A other of = present_there v p A of
by_order Greater found v p T A other of = other

named_allowed : (ms : Members) (es : List (List ℕ × Sets)) (n : List ℕ) (p : List Step) → AreOf ms es
    → IsOf (find n ms) p (named_at es n p)
named_allowed no_members [] n p are = nothing_there p
named_allowed no_members (e ∷ es) n p are = absurd are
named_allowed (member k v ms) [] n p are = absurd are
named_allowed (member k v ms) (e ∷ es) n p are =
    rw are.0 (by_order (slice_cmp nat_cmp n e.0) (find n ms) v p (named_at es n p) e.1
    (named_allowed ms es n p are.2) are.1)

object_allowed : (ms : Members) (es : List (List ℕ × Sets)) → AreOf ms es → IsAllowed (object ms) (object_with es)
object_allowed ms es are [] = refl
object_allowed ms es are (field n ∷ p) = named_allowed ms es n p are
object_allowed ms es are (place i ∷ p) = tt

-- ---- the parts of a URL

-- members that are of these sets, may be answered, and are in order
record AreKnown (arguments : List (Option Tree)) (ms : Members) (es : List (List ℕ × Sets)) : Type 0 where
  pub of : AreOf ms es
  pub each : EachMember (IsLawfulPart everything arguments) ms
  pub ordered : MembersAreOrdered ms

-- a part before others
with_part : {arguments : List (Option Tree)} {ms : Members} {es : List (List ℕ × Sets)} (k : List ℕ) (v : Tree)
    (A : Sets) → IsLawfulPart A arguments v → AreKnown arguments ms es → IsBefore k ms →
    AreKnown arguments (member k v ms) ((k, A) ∷ es)
with_part {arguments} k v A part others before =
    record {
      of = (refl, part.allowed, others.of);
      each = (any_part A arguments v part, others.each);
      ordered =
          (before, part.ordered, others.ordered);
    }

text_part : (arguments : List (Option Tree)) (s : List ℕ) → IsLawfulPart texts arguments (string s)
text_part arguments s = plain_part texts arguments (string s) tt refl

text_or_null_part : (arguments : List (Option Tree)) (o : Option (List ℕ))
    → IsLawfulPart texts_or_null arguments (text_or_null o)
text_or_null_part arguments None = plain_part texts_or_null arguments null tt refl
text_or_null_part arguments (Some s) = plain_part texts_or_null arguments (string s) tt refl

number_or_null_part : (arguments : List (Option Tree)) (o : Option ℕ)
    → IsLawfulPart numbers_or_null arguments (number_or_null o)
number_or_null_part arguments None = plain_part numbers_or_null arguments null tt refl
number_or_null_part arguments (Some n) = plain_part numbers_or_null arguments (integer (pos n)) tt refl

record AreTexts (arguments : List (Option Tree)) (ms : Members) : Type 0 where
  pub each : EachMember (IsLawfulPart texts arguments) ms
  pub ordered : MembersAreOrdered ms

unless_texts : (arguments : List (Option Tree)) (o : Option Tree) (k s : List ℕ) (ms : Members) → AreTexts arguments ms
    → AreTexts arguments (put_unless o k (string s) ms)
unless_texts arguments (Some v) k s ms are = are
unless_texts arguments None k s ms are =
    record {
      each = each_put (IsLawfulPart texts arguments) k (string s) ms
          (text_part arguments s) are.each;
      ordered = put_ordered k (string s) ms tt are.ordered;
    }

last_texts : (arguments : List (Option Tree)) (ps : List (List ℕ × List ℕ)) → AreTexts arguments (last_values ps)
last_texts arguments [] = record { each = tt; ordered = tt }
last_texts arguments (p ∷ ps) =
    unless_texts arguments (find p.0 (last_values ps)) p.0 p.1 (last_values ps) (last_texts arguments ps)

query_part : (arguments : List (Option Tree)) (ps : List (List ℕ × List ℕ))
    → IsLawfulPart (object_of texts) arguments (object (last_values ps))
query_part arguments ps =
    let are = last_texts arguments ps in
    let lawful = object_is_lawful texts true arguments (last_values ps) are.each are.ordered in
    record { allowed = lawful.0; ordered = lawful.1; regexes = lawful.2 }

url_known : (arguments : List (Option Tree)) (url : Parts) → AreKnown arguments (members_of_url url) url_fields
url_known arguments url =
    let none : AreKnown arguments no_members [] = record { of = tt; each = tt; ordered = tt } in
    let username =
    with_part (codes "username") (string url.username) texts (text_part arguments url.username) none tt in
    let scheme =
    with_part (codes "scheme") (string url.scheme) texts (text_part arguments url.scheme) username (refl, tt) in
    let query = with_part (codes "query") (object (last_values (pairs_of (unwrap_or url.query [])))) (object_of texts)
    (query_part arguments (pairs_of (unwrap_or url.query []))) scheme (refl, (refl, tt)) in
    let port = with_part (codes "port") (number_or_null url.port) numbers_or_null
    (number_or_null_part arguments url.port) query (refl, (refl, (refl, tt))) in
    let path = with_part (codes "path") (string url.path) texts (text_part arguments url.path) port
    (refl, (refl, (refl, (refl, tt)))) in
    let password = with_part (codes "password") (string url.password) texts (text_part arguments url.password) path
    (refl, (refl, (refl, (refl, (refl, tt))))) in
    let name = option_map host_text (nonempty_host url) in
    let host = with_part (codes "host") (text_or_null name) texts_or_null (text_or_null_part arguments name) password
    (refl, (refl, (refl, (refl, (refl, (refl, tt)))))) in
    with_part (codes "fragment") (text_or_null url.fragment) texts_or_null
    (text_or_null_part arguments url.fragment) host (refl, (refl, (refl, (refl, (refl, (refl, (refl, tt)))))))

url_lawful : (arguments : List (Option Tree)) (url : Parts)
    → IsLawful (object_with url_fields) true arguments (value (object (members_of_url url)))
url_lawful arguments url =
    let known = url_known arguments url in
    let lawful = object_is_lawful everything true arguments (members_of_url url) known.each known.ordered in
    (object_allowed (members_of_url url) url_fields known.of, lawful.1, lawful.2)

answer_lawful : (arguments : List (Option Tree)) (told : Parsed Parts)
    → IsLawful (object_with url_fields) true arguments (named (codes "parse_url") (url_answer told))
answer_lawful arguments (Ok url) = url_lawful arguments url
answer_lawful arguments (Err fault) = refl

pub parse_url-law : KeepsLaw parse_url_row
parse_url-law = record {
  present = λ givens sources given below. refl;
  lawful = λ givens arguments setting given fit instances below. answer_lawful arguments
      (parse_url None (text_at 0 [] arguments));
}
