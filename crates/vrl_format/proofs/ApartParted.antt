-- Tokens with the same separators that the grammar sees have the same separators but at edges.
use Rattle.std.proofs.Common.{◌≡◌, Bool, true, false, ◌&&◌, not, List, [], ◌∷◌, refl, sym, ap, ◌∙◌}
use Rattle.vrl_token.specs.declared.token.Token.{Token}
use Rattle.vrl_token.specs.declared.token.Token.TheVariants as token
use Rattle.vrl_token.specs.declared.token.Spanned.{Spanned}
use Rattle.vrl_format.specs.Apart.{Parted, apart_at, apart_from, ends_block, is_edge_behind, apart}
use Rattle.vrl_format.specs.Formatting.{tokens_in}
use Rattle.vrl_format.proofs.Parting.{is_edge_before, parted_at, parted_from, parted}
use Rattle.vrl_format.specs.Pieces.{braces_behind}

-- no separator counts before a `}`
abbrev counted : List Parted → List Parted
counted [] = []
counted (p ∷ ps) = record { apart = p.apart && not (is_edge_before p.token); token = p.token } ∷ counted ps

brace_flag : (seen at_edge ends : Bool) → (seen && (not at_edge && false)) ≡ ((seen && (not at_edge && not ends)) && false)
brace_flag true true ends = refl
brace_flag true false true = refl
brace_flag true false false = refl
brace_flag false at_edge ends = refl

other_flag : (seen at_edge : Bool) → (seen && (not at_edge && true)) ≡ ((seen && (not at_edge && true)) && true)
other_flag true true = refl
other_flag true false = refl
other_flag false at_edge = refl

parted_is : (braces : List Bool) (at_edge seen : Bool) (ts : List Token) → parted_from at_edge seen ts ≡ counted (apart_from braces at_edge seen ts)
parted_is braces at_edge seen [] = refl
parted_is braces at_edge seen (t ∷ ts) = at t (λ e s. parted_from e s ts) (λ b e s. apart_from b e s ts) (λ b e s. parted_is b e s ts)
  where
    at : (u : Token) (on : Bool → Bool → List Parted) (go : List Bool → Bool → Bool → List Parted)
        → ((b : List Bool) (e s : Bool) → on e s ≡ counted (go b e s)) → parted_at at_edge seen on u ≡ counted (apart_at braces at_edge seen go u)
    at token.Separator on go is = is braces at_edge true
    at token.CloseBrace on go is = λ i. record { apart = brace_flag seen at_edge (ends_block braces token.CloseBrace) i; token = token.CloseBrace }
        ∷ is (braces_behind token.CloseBrace braces) false false i
    at u on go is = λ i. record { apart = other_flag seen at_edge i; token = u } ∷ is (braces_behind u braces) (is_edge_behind u) false i

pub same_parted : (ts us : List Spanned) → apart (tokens_in us) ≡ apart (tokens_in ts) → parted (tokens_in us) ≡ parted (tokens_in ts)
same_parted ts us is = parted_is [] true false (tokens_in us) ∙ ap counted is ∙ sym (parted_is [] true false (tokens_in ts))
