-- Which tokens have a separator before them that stands at no edge, where each `}` is an edge.
use Rattle.std.specs.Prelude.{Bool, true, false, ◌&&◌, not, List, [], ◌∷◌}
use Rattle.vrl_token.specs.declared.token.Token.{Token}
use Rattle.vrl_token.specs.declared.token.Token.TheVariants as token
use Rattle.vrl_format.specs.Apart.{Parted, is_edge_behind}

-- separators directly before the token stand at an edge
abbrev pub is_edge_before : Token → Bool
is_edge_before token.CloseBrace = true
is_edge_before t = false

-- where `go` gives what stands behind the token, from whether that is an edge and whether a
-- separator stands there
abbrev pub parted_at : Bool → Bool → (Bool → Bool → List Parted) → Token → List Parted
parted_at edge seen go token.Separator = go edge true
parted_at edge seen go t = record { apart = seen && (not edge && not (is_edge_before t)); token = t } ∷ go (is_edge_behind t) false

abbrev pub parted_from : Bool → Bool → List Token → List Parted
parted_from edge seen [] = []
parted_from edge seen (t ∷ ts) = parted_at edge seen (λ e s. parted_from e s ts) t

-- the tokens of a script but its separators, each with whether one stands before it; at an edge none
-- counts
abbrev pub parted : List Token → List Parted
parted tokens = parted_from true false tokens
