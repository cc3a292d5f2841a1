use Rattle.std.proofs.Common.{◌≡◌, ◌++◌, map}
use Rattle.std.specs.String.{string_bytes}
use Rattle.vrl_resolve.specs.Linking.{names_in}
use Rattle.vrl_resolve.proofs.link.Linker.into_names.Given as goal

-- with the names that are left, those so far are all
abbrev pub invariant-loop-name : goal.invariant-loop-name
invariant-loop-name l = l.texts.items ++ map string_bytes l.name-iterator ≡ names_in l.fn.self
