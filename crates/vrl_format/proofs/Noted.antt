-- What a writer makes of comments and newlines.
use Rattle.std.proofs.Common.{◌≡◌, ℕ, List, [], false, ◌∷◌, ◌++◌, refl, sym, ap, ◌∙◌}
use Rattle.vrl_format.specs.Pieces.{Remark, line_end, remark, comment, newline, remarks_in, trimmed}
use Rattle.vrl_format.specs.Writing.{LacksByte, Writing, noted, put, with_seen}
use Rattle.vrl_format.proofs.Lines.{cut_line}

pub noted_append : (w : Writing) (a b : List Remark) → noted w (a ++ b) ≡ noted (noted w a) b
noted_append w [] b = refl
noted_append w (line_end ∷ a) b = noted_append (with_seen w (newline false)) a b
noted_append w (remark text ∷ a) b = noted_append (put w comment (trimmed text)) a b

-- they open and close no block
pub noted_blocks : (w : Writing) (rs : List Remark) → (noted w rs).blocks ≡ w.blocks
noted_blocks w [] = refl
noted_blocks w (line_end ∷ rs) = noted_blocks (with_seen w (newline false)) rs
noted_blocks w (remark text ∷ rs) = noted_blocks (put w comment (trimmed text)) rs

pub blocks_kept : (w v : Writing) (rs : List Remark) → v ≡ noted w rs → v.blocks ≡ w.blocks
blocks_kept w v rs is = ap (λ x. x.blocks) is ∙ noted_blocks w rs

pub blocks_on : (w v next : Writing) (rs : List Remark) → v ≡ noted w rs → next ≡ with_seen v (newline false) → next.blocks ≡ w.blocks
blocks_on w v next rs first second = ap (λ x. x.blocks) second ∙ blocks_kept w v rs first

-- a line, and what is behind it
pub noted_line : (w v next : Writing) (text line behind : List ℕ) → text ≡ line ++ 10 ∷ behind → LacksByte 10 line → v ≡ noted w (remarks_in line) → next ≡ with_seen v (newline false) → noted next (remarks_in behind) ≡ noted w (remarks_in text)
noted_line w v next text line behind parts plain first second =
    ap (λ x. noted x (remarks_in behind)) (second ∙ ap (λ x. with_seen x (newline false)) first)
    ∙ sym (noted_append w (remarks_in line) (line_end ∷ remarks_in behind))
    ∙ ap (noted w) (sym (ap remarks_in parts ∙ cut_line line behind plain))
