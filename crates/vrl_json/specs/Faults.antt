-- What a fault of a line is printed as, and for which JSON memory may be wanted.
use Rattle.std.specs.Prelude.{ℕ, List, [], ◌∷◌, Bool, true, false, codes, nat_lt}
use Rattle.json.specs.Token.{Token, begin_object, end_object, begin_array, end_array, key, string, number, boolean, null, bad}
use Rattle.vrl_json.specs.declared.fault.JsonFault.{JsonFault}
use Rattle.vrl_json.specs.declared.fault.JsonFault.TheVariants.{NotJson, NotWhole, Memory}

abbrev pub text_of : JsonFault → List ℕ
text_of NotJson = codes "not JSON"
text_of NotWhole = codes "not whole numbers"
text_of Memory = codes "out of memory"

-- memory may be wanted for the value that begins with these tokens, in which arrays and objects
-- nest no deeper than the number: it is a text, or has parts
abbrev pub takes_memory : ℕ → List Token → Bool
takes_memory depth [] = false
takes_memory depth (begin_object ∷ ts) = nat_lt 0 depth
takes_memory depth (end_object ∷ ts) = false
takes_memory depth (begin_array ∷ ts) = nat_lt 0 depth
takes_memory depth (end_array ∷ ts) = false
takes_memory depth (key s ∷ ts) = false
takes_memory depth (string s ∷ ts) = true
takes_memory depth (number s ∷ ts) = false
takes_memory depth (boolean b ∷ ts) = false
takes_memory depth (null ∷ ts) = false
takes_memory depth (bad ∷ ts) = false
