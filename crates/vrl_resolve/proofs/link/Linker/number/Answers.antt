use Rattle.std.proofs.Common.{refl}
use Rattle.vrl_resolve.specs.Linking.{names_in}
use Rattle.vrl_resolve.proofs.Begins.{begins_itself, begins_more, found_name, number_of, stored_name}
use Rattle.vrl_resolve.proofs.link.Linker.number.Goals as goal

pub returns-in-Some : goal.returns-in-Some
returns-in-Some c =
    record {
      grows = begins_itself (names_in c.args.self.now);
      tags = refl;
      so = λ names begins. number_of _ names c.args.name.now c.in-Some.number (found_name c.args.self.now.names.keys c.args.name.now c.in-Some.number c.in-Some.ensures.index) begins;
    }

pub returns : goal.returns
returns c =
    let keys = c.insert_full.new.self.keys in
    let value = c.in_ok-from_str.field-0 in
    record {
      grows = begins_more c.args.self.now.names.keys keys value c.in_ok-number.ensures.keys;
      tags = refl;
      so = λ names begins. number_of _ names c.args.name.now c.in_ok-number.number (stored_name keys value c.args.name.now c.in_ok-number.number c.in_ok-from_str.ensures.ok c.in_ok-number.ensures.stored) begins;
    }
