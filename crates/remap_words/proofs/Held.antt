-- What is held between two words, and what a use makes of it.
use Rattle.std.proofs.Common.{◌≡◌, ◌∙◌, ℕ, false, refl, sym, ap, subst, List, [], ◌∷◌, Option, Some, None}
use Rattle.std.specs.Prelude.{⊤, option_and_then}
use Rattle.std.specs.Option.{option_map_or}
use Rattle.clap.specs.Faults.{react_fault, settle_fault, use_fault}
use Rattle.clap.specs.Kinds.{Kinds, or_else}
use Rattle.clap.specs.Walk.{Held, Row, Rule, Text, arg_by_id, reacted, settled, settled_rows, used, used_by_id}
use Rattle.remap_words.specs.Uses.{Use}
use Rattle.remap_words.specs.Words.{Settings, with_use}
use Rattle.remap_words.proofs.Table.{table}
use Rattle.remap_words.proofs.Rows.{At, IsUse, Made, Shows}

abbrev pub IsFault : Kinds → Type 0
IsFault [] = ⊥
IsFault (k ∷ ks) = ⊤

pub fault_first : (kinds others : Kinds) → IsFault kinds → IsFault (or_else kinds others)
fault_first [] others fault = absurd fault
fault_first (k ∷ ks) others fault = tt

pub none_behind : (kinds : Kinds) → or_else kinds [] ≡ kinds
none_behind [] = refl
none_behind (k ∷ ks) = refl

-- what is held, with the pending use, is what is given; or the pending use is refused
abbrev pub Stands : Held → Option Settings → Type 0
Stands h None = IsFault (settle_fault table false h)
Stands h (Some g) = (settle_fault table false h ≡ []) × Shows (settled table h).rows g

-- a turn passes and leaves this held; or it fails, and the use is refused
abbrev pub Turns : Kinds → Held → ℕ → Option Settings → Type 0
Turns [] h position m = Stands h m × At position m
Turns (k ∷ ks) h position m = m ≡ None

pub turns_refused : (kinds others : Kinds) (h : Held) (position : ℕ) (m : Option Settings) → IsFault kinds → m ≡ None → Turns (or_else kinds others) h position m
turns_refused [] others h position m fault none = absurd fault
turns_refused (k ∷ ks) others h position m fault none = none

-- a use that is made stands, pending or not
pub made_stands : (kinds : Kinds) (rows : List Row) (m : Option Settings) (h : Held) → settle_fault table false h ≡ kinds → (settled table h).rows ≡ rows
    → Made kinds rows m → Stands h m
made_stands [] rows None h fault same made = absurd made
made_stands [] rows (Some g) h fault same made = (fault, subst (λ rs. Shows rs g) (sym same) made)
made_stands (k ∷ ks) rows m h fault same made = subst (Stands h) (sym made) (subst IsFault (sym fault) tt)

made_turns : (kinds : Kinds) (rows : List Row) (m : Option Settings) (h : Held) (position : ℕ) → settle_fault table false h ≡ [] → (settled table h).rows ≡ rows
    → Made kinds rows m → At position m → Turns kinds h position m
made_turns [] rows None h position fault same made at = absurd made
made_turns [] rows (Some g) h position fault same made at = ((fault, subst (λ rs. Shows rs g) (sym same) made), at)
made_turns (k ∷ ks) rows m h position fault same made at = made

-- a use in one word
pub react_turns : (a : Rule) (values : List Text) (u : Use) (h : Held) (position : ℕ) (m : Option Settings) → IsUse a values u → Stands h m → At position m
    → Turns (react_fault table false a values h) (reacted table a values h) position (option_and_then (with_use u) m)
react_turns a values u h position None of stands at =
    turns_refused (settle_fault table false h) (use_fault false a values (settled table h).rows) (reacted table a values h) position None stands refl
react_turns a values u h position (Some g) of stands at =
    let rows = (settled table h).rows in
    let next = reacted table a values h in
    subst (λ ks. Turns (or_else ks (use_fault false a values rows)) next position (with_use u g)) (sym stands.0)
    (made_turns (use_fault false a values rows) (used a values rows) (with_use u g) next position refl refl (of.made rows g stands.1) (of.place position g at))

-- a use whose value is pending
pub pending_fault : (a : Rule) (id : Text) (values : List Text) (h : Held) → arg_by_id table id ≡ Some a → h.pending ≡ Some (id, values)
    → settle_fault table false h ≡ use_fault false a values h.rows
pending_fault a id values h by pending =
    ap (λ (p : Option (Text × List Text)). option_map_or (λ q. option_map_or (λ r. use_fault false r q.1 h.rows) (arg_by_id table q.0) []) p []) pending
    ∙ ap (λ (o : Option Rule). option_map_or (λ r. use_fault false r values h.rows) o []) by

pub pending_rows : (a : Rule) (id : Text) (values : List Text) (h : Held) → arg_by_id table id ≡ Some a → h.pending ≡ Some (id, values)
    → (settled table h).rows ≡ used a values h.rows
pending_rows a id values h by pending =
    ap (λ (p : Option (Text × List Text)). settled_rows table p h.rows) pending
    ∙ ap (λ (o : Option Rule). used_by_id o values h.rows) by

pub pending_stands : (a : Rule) (id : Text) (values : List Text) (h : Held) (m : Option Settings) → arg_by_id table id ≡ Some a → h.pending ≡ Some (id, values)
    → Made (use_fault false a values h.rows) (used a values h.rows) m → Stands h m
pending_stands a id values h m by pending made =
    made_stands (use_fault false a values h.rows) (used a values h.rows) m h (pending_fault a id values h by pending) (pending_rows a id values h by pending) made
