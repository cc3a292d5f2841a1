-- The codes of diagnostics. Those below 1000 are those of the error reference of the Vector Remap
-- Language; the others are this compiler's own.
use Rattle.std.specs.Prelude.{ℕ, List, [], ◌∷◌, Option, find, codes, ◌==◌}
use Rattle.std.specs.Option.{option_map_or}

-- a code and its text
pub record Row : Type 0 where
  pub code : ℕ
  pub title : List ℕ

abbrev pub row : ℕ → List ℕ → Row
row code title = record { code = code; title = title }

unfoldable pub rows : List Row
rows =
    row 100 (codes "unhandled error") ∷
    row 101 (codes "malformed regex literal") ∷
    row 102 (codes "non-boolean predicate") ∷
    row 103 (codes "unhandled fallible assignment") ∷
    row 104 (codes "unnecessary error assignment") ∷
    row 105 (codes "undefined function") ∷
    row 106 (codes "wrong number of arguments") ∷
    row 107 (codes "missing argument") ∷
    row 108 (codes "unknown argument name") ∷
    row 110 (codes "invalid argument type") ∷
    row 203 (codes "unrecognized token") ∷
    row 620 (codes "aborting infallible function") ∷
    row 630 (codes "fallible argument") ∷
    row 640 (codes "no-op assignment") ∷
    row 650 (codes "chained comparison") ∷
    row 651 (codes "unnecessary error coalescing") ∷
    row 652 (codes "merge of a non-object") ∷
    row 660 (codes "negation of a non-boolean") ∷
    row 701 (codes "undefined variable") ∷
    row 1001 (codes "float literal") ∷
    row 1002 (codes "number out of range") ∷
    row 1003 (codes "operator left out") ∷
    row 1004 (codes "return in a closure") ∷
    row 1005 (codes "fallible predicate") ∷
    row 1006 (codes "event assigned neither an object nor an array") ∷
    row 1008 (codes "nested too deeply") ∷
    row 1009 (codes "script too long or not UTF-8") ∷
    row 1010 (codes "closure missing, unexpected or of the wrong shape") ∷
    row 1011 (codes "abort message fallible or not a string") ∷
    row 1012 (codes "written or deleted index too large or path too long") ∷
    row 1013 (codes "literal or path argument wanted") ∷
    row 1014 (codes "malformed timestamp literal") ∷
    row 1015 (codes "closure result of the wrong kind") ∷
    row 1016 (codes "malformed template or too many regex literals") ∷
    row 1017 (codes "metadata assigned no object") ∷
    []

-- the row of a code
abbrev pub row_of : ℕ → Option Row
row_of code = find (λ r. r.code == code) rows

-- what is no code has no text
abbrev pub title_of : ℕ → List ℕ
title_of code = option_map_or (λ r. r.title) (row_of code) []
