-- What the linked items of a script are as a program.
use Rattle.std.proofs.Common.{◌≡◌, ℕ, true, List, [], ◌∷◌, ◌++◌, length, slice_get, sym, ap, subst, append-nil, ◌∙◌}
use Rattle.vrl_value.specs.Tree.{null}
use Rattle.vrl_value.specs.declared.value.Tag.{Tag}
use Rattle.vrl_syntax.specs.Limits.{KeepsLimits}
use Rattle.vrl_syntax.specs.Regexes.{exprs_regexes_below}
use Rattle.vrl_syntax.specs.Stores.{metadata_name, store_of}
use Rattle.vrl_syntax.specs.Tree.{Exprs}
use Rattle.vrl_store.specs.StoreView.{AreDistinct, BeginWithMetadata, Names}
use Rattle.vrl_resolve.specs.Linked.{Parts}
use Rattle.vrl_resolve.specs.LinkedMeaning.{items_mean}
use Rattle.vrl_resolve.specs.Linking.{names_in, AreLinked, IsBeginning, Links}
use Rattle.vrl_resolve.specs.Program.{script_program, ProgramTree}
use Rattle.vrl_resolve.specs.Ready.{IsReady}
use Rattle.vrl_resolve.specs.declared.link.Linker.{Linker}
use Rattle.vrl_resolve.proofs.LinkedFits.{parts_fit}
use Rattle.vrl_resolve.proofs.LinkedMeans.{items_are_meant}

-- the names that there are in the end are those of the linker
all_names : (known names : Names) → names ≡ known → IsBeginning known names
all_names known names is = ([], is ∙ sym (append-nil known))

-- names that begin with that of the metadata do so with more behind
begins_so : (known names : Names) → known ≡ metadata_name ∷ [] → IsBeginning known names → BeginWithMetadata names
begins_so known names alone begins = ap (λ ns. slice_get ns 0) (begins.1 ∙ ap (λ ns. ns ++ begins.0) alone)

pub linked_is_ready : (before after : Linker) (count : ℕ) (names : Names) (es : Exprs) (ns : Parts) (written given : List (List ℕ)) → Links before after count (λ known tags. AreLinked known tags es ns)
    → names_in before ≡ metadata_name ∷ [] → names ≡ names_in after → AreDistinct (names_in after) → given ≡ written → KeepsLimits es → exprs_regexes_below (length written) es ≡ true → IsReady names ns (length given)
linked_is_ready before after count names es ns written given links alone is distinct same limits below =
    record {
      distinct = subst AreDistinct (sym is) distinct;
      first = subst BeginWithMetadata (sym is) (begins_so (names_in before) (names_in after) alone links.grows);
      fits = parts_fit (length given) (links.so names (all_names (names_in after) names is)) limits (subst (λ sources. exprs_regexes_below (length sources) es ≡ true) (sym same) below);
    }

-- the program of linked items
abbrev linked_program : Names → Parts → List (List ℕ) → ProgramTree
linked_program names ns sources = record { sources = sources; ended = λ moment event beside. items_mean names (record { moment = moment; sources = sources }) null ns (store_of event beside) }

pub linked_is_program : (before after : Linker) (count : ℕ) (names : Names) (tags : List Tag) (es : Exprs) (ns : Parts) (sources : List (List ℕ)) → Links before after count (λ known tags. AreLinked known tags es ns) → names ≡ names_in after
    → before.tags.left.now ≡ tags → linked_program names ns sources ≡ script_program es tags sources
linked_is_program before after count names tags es ns sources links is same =
    let items : AreLinked names tags es ns = subst (λ ts. AreLinked names ts es ns) same (links.so names (all_names (names_in after) names is)) in
    λ i. record { sources = sources; ended = λ moment event beside. items_are_meant (record { moment = moment; sources = sources }) items null (store_of event beside) i }
