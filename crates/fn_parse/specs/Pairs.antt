-- The names and values of a form or of the query of a URL, as texts (URL Standard, section 5.1).
use Rattle.std.specs.Prelude.{ℕ, List, map}
use Rattle.std.specs.Str.Lossy.{utf8_lossy}
use Rattle.form_urlencoded.specs.Form.{decode, raw_pairs}

-- a `+` is a space and each escape its byte; bytes that are no UTF-8 become U+FFFD
abbrev pub text_of : List ℕ → List ℕ
text_of escaped = utf8_lossy (decode escaped)

abbrev pub pair_of : List ℕ × List ℕ → List ℕ × List ℕ
pair_of pair = (text_of pair.0, text_of pair.1)

-- in order, each name as often as it stands there
abbrev pub pairs_of : List ℕ → List (List ℕ × List ℕ)
pairs_of form = map pair_of (raw_pairs form)
