-- How states are stored as values of the proof system: as pairs of their fields.
use Rattle.std.specs.Prelude.{List, Option, refl}
use Rattle.std.specs.Coded.{Coded, code_by, coded×, coded_list, coded_option, coded_ℕ}
use Rattle.std.specs.FinMap as map
use Rattle.std.specs.FinSet as set
use Rattle.vrl_kind.specs.KindCode.{kind_code}
use Rattle.vrl_kind.specs.KindTree.{KindTree}
use Rattle.vrl_state.specs.States.{NameSet, RootMap, Scope, State, Variables}

abbrev pub variables_code : Coded Variables
variables_code = map.code (coded_list coded_ℕ) kind_code

abbrev pub root_map_code : Coded RootMap
root_map_code = code_by (KindTree × Variables) (coded× kind_code variables_code) (λ r. (r.event, r.variables))
    (λ p. record { event = p.0; variables = p.1 }) (λ _. refl)

abbrev pub names_code : Coded NameSet
names_code = set.code (coded_list coded_ℕ)

abbrev pub scope_code : Coded Scope
scope_code = code_by (NameSet × Variables) (coded× names_code variables_code) (λ s. (s.known, s.hidden))
    (λ p. record { known = p.0; hidden = p.1 }) (λ _. refl)

abbrev pub state_code : Coded State
state_code = code_by (Option RootMap × List Scope) (coded× (coded_option root_map_code) (coded_list scope_code))
    (λ s. (s.known, s.scopes)) (λ p. record { known = p.0; scopes = p.1 }) (λ _. refl)

abbrev pub scopes_code : Coded (List Scope)
scopes_code = coded_list scope_code
