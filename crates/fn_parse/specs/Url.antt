-- `parse_url`: the parts of a URL, as the URL Standard reads it.
use Rattle.std.specs.Prelude.{ℕ, pos, true, List, [], ◌∷◌, Option, Some, None, Ok, Err, codes, option_map, unwrap_or}
use Rattle.url.specs.Host.{host_text}
use Rattle.url.specs.Parser.{Parsed, parse_url}
use Rattle.url.specs.Parts.{Parts, nonempty_host}
use Rattle.vrl_value.specs.Tree.{Tree, string, integer, null, object, Members, no_members, member, find, put}
use Rattle.vrl_value.specs.declared.value.Tag.TheVariants as tag
use Rattle.vrl_kind.specs.Kinds.{only_at}
use Rattle.vrl_kind.specs.Sets.{Sets}
use Rattle.vrl_builtin.specs.Containers.{either, object_of}
use Rattle.vrl_builtin.specs.Rows.{Row, Answer, value, failure, named, any_literal, parameter, text_at}
use Rattle.vrl_builtin.specs.TagSets.{strings}
use Rattle.fn_parse.specs.Named.{object_with}
use Rattle.fn_parse.specs.Pairs.{pairs_of}

-- what is found, or the member that is put where nothing is
abbrev pub put_unless : Option Tree → List ℕ → Tree → Members → Members
put_unless (Some v) k t ms = ms
put_unless None k t ms = put k t ms

-- each name with the last of its values
abbrev pub last_values : List (List ℕ × List ℕ) → Members
last_values [] = no_members
last_values (p ∷ ps) = put_unless (find p.0 (last_values ps)) p.0 (string p.1) (last_values ps)

abbrev pub text_or_null : Option (List ℕ) → Tree
text_or_null None = null
text_or_null (Some s) = string s

abbrev pub number_or_null : Option ℕ → Tree
number_or_null None = null
number_or_null (Some n) = integer (pos n)

-- The parts as the URL writes them. A URL's port is none where it is the scheme's own, and its host
-- none where it has none or an empty one.
abbrev pub members_of_url : Parts → Members
members_of_url url =
    member (codes "fragment") (text_or_null url.fragment)
    (member (codes "host") (text_or_null (option_map host_text (nonempty_host url)))
    (member (codes "password") (string url.password)
    (member (codes "path") (string url.path)
    (member (codes "port") (number_or_null url.port)
    (member (codes "query") (object (last_values (pairs_of (unwrap_or url.query []))))
    (member (codes "scheme") (string url.scheme)
    (member (codes "username") (string url.username) no_members)))))))

abbrev pub url_answer : Parsed Parts → Answer
url_answer (Ok url) = value (object (members_of_url url))
url_answer (Err fault) = failure (codes "not a URL")

abbrev pub texts : Sets
texts = only_at tag.Text

abbrev pub texts_or_null : Sets
texts_or_null = either (only_at tag.Text) (only_at tag.Null)

abbrev pub numbers_or_null : Sets
numbers_or_null = either (only_at tag.Int) (only_at tag.Null)

abbrev pub url_fields : List (List ℕ × Sets)
url_fields =
    (codes "fragment", texts_or_null)
    ∷ (codes "host", texts_or_null)
    ∷ (codes "password", texts)
    ∷ (codes "path", texts)
    ∷ (codes "port", numbers_or_null)
    ∷ (codes "query", object_of texts)
    ∷ (codes "scheme", texts)
    ∷ (codes "username", texts)
    ∷ []

abbrev pub parse_url_row : Row
parse_url_row = record {
  name = codes "parse_url";
  parameters = parameter (codes "value") strings ∷ [];
  accepts = any_literal;
  kind = λ givens sources. object_with url_fields;
  may_fail = λ givens. true;
  means = λ arguments setting. named (codes "parse_url") (url_answer (parse_url None (text_at 0 [] arguments)));
}
