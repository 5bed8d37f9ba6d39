use Rattle.std.proofs.Common.{rules}
use Rattle.fc_model.specs.NamelessView.{nmodule_of, nmodules_of}
use Rattle.fc_product.proofs.Replayed.{is_replay}
use Rattle.fc_product.proofs.making.make.Goals as goal

pub named-requires : goal.named-requires
named-requires c =
    let order = c.args.order.now in
    let before = nmodules_of c.args.before.now in
    let read = nmodule_of c.args.form in
    let left = nmodule_of c.in_ok-left.left in
    let written = nmodule_of c.in_ok-written.written in
    let is = is_replay order before read left written c.in_ok-name.name c.in_ok-left.entries c.requires.built.formed c.requires.built.within c.in_ok-name.ensures c.in_ok-left.ensures c.in_ok-written.ensures.form in
    c.requires.built.writable _ written is.replay

pub returns : goal.returns
returns c =
    let order = c.args.order.now in
    let before = nmodules_of c.args.before.now in
    let read = nmodule_of c.args.form in
    let left = nmodule_of c.in_ok-left.left in
    let written = nmodule_of c.in_ok-written.written in
    let is = is_replay order before read left written c.in_ok-name.name c.in_ok-left.entries c.requires.built.formed c.requires.built.within c.in_ok-name.ensures c.in_ok-left.ensures c.in_ok-written.ensures.form in
    record {
      made = record {
        form = written;
        replay = is.replay;
        optimised = is.optimised;
        resolves = c.in_ok-module.ensures.resolves;
        formed = c.in_ok-module.ensures.formed;
        tells = c.in_ok-interface.ensures;
      };
      told = search rules;
    }
