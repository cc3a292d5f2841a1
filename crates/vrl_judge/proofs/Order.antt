-- Codes that were sorted by their keys stand in the order in which they are told.
use Rattle.std.proofs.Common.{◌≡◌, ◌+◌, List, get_or, refl, sym, ap, ◌∙◌}
use Rattle.std.specs.List.Sorted.{IsSorted}
use Rattle.std.specs.Ordering.{is_lt, nat_cmp, ordering_then}
use Rattle.std.specs.declared.cmp.Ordering.{Ordering}
use Rattle.std.specs.declared.cmp.Ordering.TheVariants.{Less, Equal, Greater}
use Rattle.vrl_diag.specs.declared.diagnostic.Diagnostic.{Diagnostic}
use Rattle.vrl_judge.specs.Ordered.{diagnostic_cmp}

pub ordering_then-assoc : (a b c : Ordering) → ordering_then (ordering_then a b) c ≡ ordering_then a (ordering_then b c)
ordering_then-assoc Less b c = refl
ordering_then-assoc Equal b c = refl
ordering_then-assoc Greater b c = refl

abbrev pub key_cmp : Diagnostic → Diagnostic → Ordering
key_cmp x y = ordering_then (ordering_then (nat_cmp x.span.start y.span.start) (nat_cmp x.span.end y.span.end)) (nat_cmp x.code y.code)

pub sorted_by_key : (ds : List Diagnostic) → IsSorted key_cmp ds → IsSorted diagnostic_cmp ds
sorted_by_key ds sorted = λ k d low high.
    let x = get_or ds (k + 1) d in
    let y = get_or ds k d in
    ap is_lt (sym (ordering_then-assoc (nat_cmp x.span.start y.span.start) (nat_cmp x.span.end y.span.end) (nat_cmp x.code y.code))) ∙ sorted k d low high
