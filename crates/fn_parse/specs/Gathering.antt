-- What the code comes to on its way: pairs added one after the other, and the parts of a URL in the
-- order in which they are put.
use Rattle.std.specs.Prelude.{◌≡◌, ℕ, List, [], ◌∷◌, Option, Some, None, Ok, Err, codes, option_map, unwrap_or, ⊤}
use Rattle.csv.specs.Records.{fields_of, Row}
use Rattle.csv.specs.declared.error.ErrorKind.{ErrorKind}
use Rattle.csv.specs.declared.error.ErrorKind.TheVariants as kind
use Rattle.url.specs.Host.{host_text}
use Rattle.url.specs.Parser.{Parsed}
use Rattle.url.specs.Parts.{Parts, nonempty_host}
use Rattle.vrl_value.specs.Parts.{without}
use Rattle.vrl_value.specs.Tree.{Tree, string, array, object, Items, no_items, item, Members, find, put}
use Rattle.fn_parse.specs.Pairs.{pairs_of}
use Rattle.fn_parse.specs.Url.{last_values, number_or_null, text_or_null}

-- the text behind the others
abbrev pub behind : Items → List ℕ → Items
behind no_items s = item (string s) no_items
behind (item t ts) s = item t (behind ts s)

abbrev pub longer : Items → List ℕ → Tree
longer ts s = array (behind ts s)

abbrev pub two : Tree → List ℕ → Tree
two t s = array (item t (item (string s) no_items))

abbrev pub one_more : Option Tree → List ℕ → Tree
one_more None s = string s
one_more (Some (array ts)) s = longer ts s
one_more (Some t) s = two t s

abbrev pub add_pair : List ℕ × List ℕ → Members → Members
add_pair p ms = put p.0 (one_more (find p.0 ms) p.1) (without p.0 ms)

abbrev pub add_pairs : List (List ℕ × List ℕ) → Members → Members
add_pairs [] ms = ms
add_pairs (p ∷ ps) ms = add_pairs ps (add_pair p ms)

abbrev pub put_pair : List ℕ × List ℕ → Members → Members
put_pair p ms = put p.0 (string p.1) ms

abbrev pub put_pairs : List (List ℕ × List ℕ) → Members → Members
put_pairs [] ms = ms
put_pairs (p ∷ ps) ms = put_pairs ps (put_pair p ms)

abbrev pub put_texts : Parts → Members → Members
put_texts url ms = put (codes "username") (string url.username)
    (put (codes "scheme") (string url.scheme)
    (put (codes "path") (string url.path) (put (codes "password") (string url.password) ms)))

abbrev pub put_others : Parts → Members → Members
put_others url ms =
    put (codes "query") (object (last_values (pairs_of (unwrap_or url.query []))))
    (put (codes "port") (number_or_null url.port)
    (put (codes "host") (text_or_null (option_map host_text (nonempty_host url)))
    (put (codes "fragment") (text_or_null url.fragment) ms)))

-- the fields of a row, and none where there is none
abbrev pub fields_found : Option Row → List (List ℕ)
fields_found None = []
fields_found (Some row) = fields_of row

-- memory ran out, or the reader underneath failed
abbrev pub IsReadFault : ErrorKind → Type 0
IsReadFault (kind.Io e) = ⊤
IsReadFault kind.OutOfMemory = ⊤
IsReadFault (kind.UnequalLengths pos expected len) = ⊥
IsReadFault (kind.Utf8 pos err) = ⊥
IsReadFault (kind.Serialize why) = ⊥
IsReadFault (kind.Deserialize pos err) = ⊥

abbrev pub IsRefused : Parsed Parts → Type 0
IsRefused (Ok url) = ⊥
IsRefused (Err fault) = ⊤

-- the URL that was read is the one that is told, and none where none is told
abbrev pub IsRead : Parsed Parts → Option Parts → Type 0
IsRead told None = IsRefused told
IsRead told (Some url) = told ≡ Ok url
