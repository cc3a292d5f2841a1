use Rattle.std.proofs.Common.{string_bytes, ◌≡◌, encode_utf8_all}
use Rattle.std.specs.List.{flat_map}
use Rattle.vrl_kindfile.specs.Pointer.{escaped}
use Rattle.vrl_kindfile.proofs.pointer.escaped_name.Given as goal

abbrev pub invariant-loop-c : goal.invariant-loop-c
invariant-loop-c l = string_bytes l.text ≡ encode_utf8_all (flat_map escaped l.yielded)
