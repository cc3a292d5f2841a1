-- The comments and newlines of lines.
use Rattle.std.proofs.Common.{◌≡◌, ◌≢◌, ◌<◌, ◌==◌, ℕ, zero, suc, Bool, true, false, List, [], ◌∷◌, ◌++◌, drop, length, get_or, refl, sym, ap, ◌∙◌, append_assoc, append-nil, arith, if◌then◌else◌}
use Rattle.std.proofs.lemmas.Bool.{eqb-true, eq-eqb}
use Rattle.vrl_format.specs.Pieces.{Reading, outside, inside, Remark, line_end, remark, remarks_from, remarks_in}
use Rattle.vrl_format.specs.Writing.{LacksByte}

pub apart : (x c : ℕ) → x ≢ c → (x == c) ≡ false
apart x c other = by (x == c) refl where
  by : (t : Bool) → (x == c) ≡ t → t ≡ false
  by true is = absurd (other (eqb-true x c is))
  by false is = refl

pub lacks : (c : ℕ) (xs : List ℕ) → ((i : ℕ) → i < length xs → get_or xs i 0 ≢ c) → LacksByte c xs
lacks c [] each = tt
lacks c (x ∷ xs) each = (apart x c (each 0 (omega arith)), lacks c xs (λ i less. each (suc i) (omega arith)))

-- a comment to the end of a line
inside_line : (read xs : List ℕ) → LacksByte 10 xs → remarks_from (inside read) xs ≡ remark (read ++ xs) ∷ []
inside_line read [] plain = ap (λ t. remark t ∷ []) (sym (append-nil read))
inside_line read (x ∷ xs) plain =
    ap (λ t. let r : List Remark = if t then remark read ∷ line_end ∷ remarks_from outside xs else remarks_from (inside (read ++ x ∷ [])) xs in r) plain.0
    ∙ inside_line (read ++ x ∷ []) xs plain.1
    ∙ ap (λ t. remark t ∷ []) (append_assoc read (x ∷ []) xs)

-- a byte that ends no line
on_line : (x : ℕ) (xs : List ℕ) → (x == 10) ≡ false → remarks_from outside (x ∷ xs) ≡ (if x == 35 then remarks_from (inside (x ∷ [])) xs else remarks_from outside xs)
on_line x xs plain = ap (λ t. let r : List Remark = if t then line_end ∷ remarks_from outside xs else if x == 35 then remarks_from (inside (x ∷ [])) xs else remarks_from outside xs in r) plain

-- a line without a comment
pub no_comment : (line : List ℕ) → LacksByte 10 line → LacksByte 35 line → remarks_in line ≡ []
no_comment [] plain none = refl
no_comment (x ∷ xs) plain none =
    on_line x xs plain.0 ∙ ap (λ t. let r : List Remark = if t then remarks_from (inside (x ∷ [])) xs else remarks_from outside xs in r) none.0 ∙ no_comment xs plain.1 none.1

-- and one with one
pub comment_there : (line : List ℕ) (place : ℕ) → LacksByte 10 line → place < length line → get_or line place 0 ≡ 35 → ((i : ℕ) → i < place → get_or line i 0 ≢ 35) → remarks_in line ≡ remark (drop place line) ∷ []
comment_there [] place plain less mark first = absurd (omega arith)
comment_there (x ∷ xs) zero plain less mark first =
    on_line x xs plain.0 ∙ ap (λ t. let r : List Remark = if t then remarks_from (inside (x ∷ [])) xs else remarks_from outside xs in r) (eq-eqb x 35 mark) ∙ inside_line (x ∷ []) xs plain.1
comment_there (x ∷ xs) (suc place) plain less mark first =
    on_line x xs plain.0 ∙ ap (λ t. let r : List Remark = if t then remarks_from (inside (x ∷ [])) xs else remarks_from outside xs in r) (apart x 35 (first 0 (omega arith)))
    ∙ comment_there xs place plain.1 (omega arith) mark (λ i before. first (suc i) (omega arith))

by_either : (t : Bool) (a b c d more : List Remark) → a ≡ c ++ more → b ≡ d ++ more → (if t then a else b) ≡ (if t then c else d) ++ more
by_either true a b c d more one two = one
by_either false a b c d more one two = two

cut_from : (r : Reading) (line behind : List ℕ) → LacksByte 10 line → remarks_from r (line ++ 10 ∷ behind) ≡ remarks_from r line ++ line_end ∷ remarks_from outside behind
cut_from outside [] behind plain = refl
cut_from (inside read) [] behind plain = refl
cut_from outside (x ∷ xs) behind plain =
    on_line x (xs ++ 10 ∷ behind) plain.0
    ∙ by_either (x == 35) _ _ _ _ (line_end ∷ remarks_from outside behind) (cut_from (inside (x ∷ [])) xs behind plain.1) (cut_from outside xs behind plain.1)
    ∙ ap (λ rs. rs ++ line_end ∷ remarks_from outside behind) (sym (on_line x xs plain.0))
cut_from (inside read) (x ∷ xs) behind plain =
    within_comment (xs ++ 10 ∷ behind) ∙ cut_from (inside (read ++ x ∷ [])) xs behind plain.1
    ∙ ap (λ rs. rs ++ line_end ∷ remarks_from outside behind) (sym (within_comment xs))
  where
    within_comment : (ys : List ℕ) → remarks_from (inside read) (x ∷ ys) ≡ remarks_from (inside (read ++ x ∷ [])) ys
    within_comment ys = ap (λ t. let r : List Remark = if t then remark read ∷ line_end ∷ remarks_from outside ys else remarks_from (inside (read ++ x ∷ [])) ys in r) plain.0

-- a line, and what is behind it
pub cut_line : (line behind : List ℕ) → LacksByte 10 line → remarks_in (line ++ 10 ∷ behind) ≡ remarks_in line ++ line_end ∷ remarks_in behind
cut_line line behind plain = cut_from outside line behind plain
