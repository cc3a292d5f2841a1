-- What a text begins with, told by tests and cuts that leave no choice.
use Rattle.std.proofs.Common.{◌≡◌, ℕ, List, sym, ap, ◌∙◌, subst}
use Rattle.vrl_token.specs.declared.piece.Piece.{Piece}

-- a piece and the rest, what is wrong and the rest, or the end of the text
pub data Lexed : Type 0 where
  piece : Piece → List ℕ → Lexed
  fault : ℕ → List ℕ → Lexed
  finish : Lexed

-- at most one outcome is told
abbrev pub OnlyOne : (Lexed → Type 0) → Type 0
OnlyOne P = (a b : Lexed) → P a → P b → a ≡ b

abbrev pub Is : Lexed → Lexed → Type 0
Is x a = a ≡ x

-- where a fact holds the first tells the outcome, and else the second
pub data Branch (A : Type 0) (P Q : Lexed → Type 0) (a : Lexed) : Type 0 where
  first : A → P a → Branch A P Q a
  second : ¬ A → Q a → Branch A P Q a

-- the outcome is told of the one value that is cut off
pub record With (X : Type 0) (R : X → Type 0) (P : X → Lexed → Type 0) (a : Lexed) : Type 0 where
  pub value : X
  pub cut : R value
  pub gives : P value a

pub only_is : (x : Lexed) → OnlyOne (Is x)
only_is x a b one two = one ∙ sym two

pub only_branch : (A : Type 0) (P Q : Lexed → Type 0) → OnlyOne P → OnlyOne Q → OnlyOne (Branch A P Q)
only_branch A P Q p q a b (first here one) (first there two) = p a b one two
only_branch A P Q p q a b (first here one) (second none two) = absurd (none here)
only_branch A P Q p q a b (second none one) (first here two) = absurd (none here)
only_branch A P Q p q a b (second none one) (second again two) = q a b one two

pub only_with : (X : Type 0) (R : X → Type 0) (P : X → Lexed → Type 0) → ((x y : X) → R x → R y → x ≡ y) → ((x : X) → OnlyOne (P x)) → OnlyOne (With X R P)
only_with X R P same each a b one two = each two.value a b (subst (λ x. P x a) (same one.value two.value one.cut two.cut) one.gives) two.gives

pub same_pair : {X Y : Type 0} (c d : X × Y) → c.0 ≡ d.0 → c.1 ≡ d.1 → c ≡ d
same_pair {X} {Y} c d front back = ap (λ x. let t : X × Y = (x, c.1) in t) front ∙ ap (λ y. let t : X × Y = (d.0, y) in t) back
