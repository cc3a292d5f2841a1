-- A path that is cut off: its token, or what is wrong with it.
use denote.Ref.{Bor}
use Rattle.std.proofs.Common.{ℕ, List, Option, Some, None, MatchOption, refl, sym, subst}
use Rattle.vrl_token.specs.Cuts.{IsCutOf, IsPathCut}
use Rattle.vrl_token.specs.Faults.{IsFault}
use Rattle.vrl_token.specs.Words.{BeginsWithToken}
use Rattle.vrl_token.specs.declared.cut.Cut.{Cut}
use Rattle.vrl_token.specs.declared.piece.Piece.{Piece}
use Rattle.vrl_token.specs.declared.token.Token.{Token}

pub path_is : {before : List Piece} {text : List ℕ} {P : Type 0} {Q : ℕ → Type 0} (t : Token) (rest : Bor (List ℕ)) (fault : Option ℕ) (c : Cut) → MatchOption fault P Q → IsPathCut t fault rest c
    → (P → BeginsWithToken before t text rest.now) → ((code : ℕ) → Q code → IsFault before text code rest.now) → IsCutOf before text c
path_is {before} {text} t rest None c is cut path wrong = subst (IsCutOf before text) (sym cut) (path is)
path_is {before} {text} t rest (Some code) c is cut path wrong = subst (IsCutOf before text) (sym cut) record { rest = rest.now; is_fault = wrong code is; length_is = refl }
