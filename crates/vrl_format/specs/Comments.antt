-- The comments of a text, each with how many tokens stand before it.
use Rattle.std.specs.Prelude.{ℕ, suc, List, [], ◌∷◌, drop}
use Rattle.vrl_token.specs.declared.token.Spanned.{Spanned}
use Rattle.vrl_token.specs.declared.token.Token.{Token}
use Rattle.vrl_token.specs.declared.token.Token.TheVariants as token
use Rattle.vrl_format.specs.Pieces.{Remark, line_end, remark, remarks_in, trimmed, bytes_between}

-- a comment without blanks at its end, behind so many tokens other than newlines and semicolons
pub record Comment : Type 0 where
  pub tokens : ℕ
  pub text : List ℕ

-- the comments among these, before others
abbrev pub comments_in : ℕ → List Remark → List Comment → List Comment
comments_in n [] later = later
comments_in n (line_end ∷ rs) later = comments_in n rs later
comments_in n (remark text ∷ rs) later = record { tokens = n; text = trimmed text } ∷ comments_in n rs later

-- how many tokens stand behind one more
abbrev pub counted : Token → ℕ → ℕ
counted token.Separator n = n
counted t n = suc n

abbrev pub comments_from : List ℕ → ℕ → ℕ → List Spanned → List Comment
comments_from text place n [] = comments_in n (remarks_in (drop place text)) []
comments_from text place n (t ∷ ts) = comments_in n (remarks_in (bytes_between text place t.span.start))
    (comments_from text t.span.«end» (counted t.token n) ts)

-- the comments of a text with these tokens
abbrev pub comments_of : List ℕ → List Spanned → List Comment
comments_of text tokens = comments_from text 0 0 tokens
