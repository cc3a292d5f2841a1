-- Which tokens have a separator before them that the grammar sees. Separators at an edge of a block or
-- of the script are not seen; before the `}` of an object one is, since no object may have any.
use Rattle.std.specs.Prelude.{Bool, true, false, ◌&&◌, not, List, [], ◌∷◌}
use Rattle.vrl_token.specs.declared.token.Token.{Token}
use Rattle.vrl_token.specs.declared.token.Token.TheVariants as token
use Rattle.vrl_format.specs.Pieces.{braces_behind}

-- a token that is no separator, and whether one stands before it
pub record Parted : Type 0 where
  pub apart : Bool
  pub token : Token

-- separators directly behind the token stand at an edge
abbrev pub is_edge_behind : Token → Bool
is_edge_behind token.OpenBlock = true
is_edge_behind t = false

-- the innermost of these open braces is that of a block
abbrev pub is_in_block : List Bool → Bool
is_in_block [] = false
is_in_block (block ∷ around) = block

-- the token ends a block, where these braces are open before it
abbrev pub ends_block : List Bool → Token → Bool
ends_block braces token.CloseBrace = is_in_block braces
ends_block braces t = false

-- where `go` gives what stands behind the token, from the braces that are open there, whether it is an
-- edge, and whether a separator stands there
abbrev pub apart_at : List Bool → Bool → Bool → (List Bool → Bool → Bool → List Parted) → Token → List Parted
apart_at braces edge seen go token.Separator = go braces edge true
apart_at braces edge seen go t =
    record { apart = seen && (not edge && not (ends_block braces t)); token = t }
    ∷ go (braces_behind t braces) (is_edge_behind t) false

abbrev pub apart_from : List Bool → Bool → Bool → List Token → List Parted
apart_from braces edge seen [] = []
apart_from braces edge seen (t ∷ ts) = apart_at braces edge seen (λ b e s. apart_from b e s ts) t

-- the tokens of a script but its separators, each with whether the grammar sees one before it
abbrev pub apart : List Token → List Parted
apart tokens = apart_from [] true false tokens
