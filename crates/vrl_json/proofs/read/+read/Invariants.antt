use Rattle.std.proofs.Common.{◌≡◌, ℕ, ◌+◌, ◌*◌, ◌≤◌, length}
use Rattle.json.specs.Json.{items, members, value, parse_map}
use Rattle.serde_json.specs.Data as json
use Rattle.serde_json.specs.Read.{of_items, of_members, converted}
use Rattle.vrl_value.specs.Tree.{items_are_json, members_are_json}
use Rattle.vrl_value.specs.View.{items_view, members_of}
use Rattle.vrl_json.specs.Drafts.{draft_items, draft_members, TellsStandIns}
use Rattle.vrl_json.proofs.Reading.{joined}
use Rattle.vrl_json.proofs.read.+read.Given as goal

abbrev pub decreases-read_value : goal.decreases-read_value
decreases-read_value l = 2 * l.depth

abbrev pub decreases-read_items : goal.decreases-read_items
decreases-read_items l = 2 * l.depth + 1

abbrev pub decreases-read_fields : goal.decreases-read_fields
decreases-read_fields l = 2 * l.depth + 1

abbrev pub decreases-read_items-items : goal.decreases-read_items-items
decreases-read_items-items l = length l.reader

abbrev pub decreases-read_fields-members : goal.decreases-read_fields-members
decreases-read_fields-members l = length l.reader

-- all parts are those that were read, and then those that come of what is left, for some number of turns
abbrev pub invariant-read_items-items : goal.invariant-read_items-items
invariant-read_items-items l =
    (turns : ℕ) × (ds : json.Items) × record {
      enough : length l.reader ≤ turns;
      whole : converted of_items (items (value l.depth) (length l.initial.reader) l.initial.reader) ≡ parse_map (joined ds) (converted of_items (items (value l.depth) turns l.reader));
      found : items_view l.found.items ≡ draft_items ds;
      told : TellsStandIns l.initial.has_stand_ins l.has_stand_ins (items_are_json (draft_items ds));
      shorter : length l.reader ≤ length l.initial.reader;
    }

-- all members are those that come when what is left is put among those that were read
abbrev pub invariant-read_fields-members : goal.invariant-read_fields-members
invariant-read_fields-members l =
    (turns : ℕ) × (ms : json.Members) × record {
      enough : length l.reader ≤ turns;
      whole : converted (λ all. of_members all json.no_members) (members (value l.depth) (length l.initial.reader) l.initial.reader) ≡ converted (λ later. of_members later ms) (members (value l.depth) turns l.reader);
      found : members_of l.found ≡ draft_members ms;
      told : TellsStandIns l.initial.has_stand_ins l.has_stand_ins (members_are_json (draft_members ms));
      shorter : length l.reader ≤ length l.initial.reader;
    }
