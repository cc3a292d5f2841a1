-- What the classes of characters are.
use Rattle.std.proofs.Common.{ℕ, ◌<◌, arith}
use Rattle.vrl_token.specs.Scan.{IsIn}
use Rattle.vrl_token.specs.declared.scan.Class.{Class}
use Rattle.vrl_token.specs.declared.scan.Class.TheVariants.{Blank, Digit, NameStart, NamePart, FieldPart}

-- each is ASCII
pub in_ascii : (class : Class) (b : ℕ) → IsIn class b → b < 128
in_ascii Blank b h = grind (arith, h)
in_ascii Digit b h = grind (arith, h)
in_ascii NameStart b h = grind (arith, h)
in_ascii NamePart b h = grind (arith, h)
in_ascii FieldPart b h = grind (arith, h)
